use Rattle.std.proofs.lemmas.Result.{IfOk-weaker}
use Rattle.mh_judged.proofs.never.never_list.Goals as goal

pub returns : goal.returns
returns c =
    IfOk-weaker c.list_by-found.result _ _
    (λ found same. record { alive = c.in_ok-alive.alive; is = c.in_ok-alive.ensures; list = same })
    c.list_by-found.ensures
