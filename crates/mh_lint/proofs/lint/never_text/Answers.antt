use Rattle.std.proofs.lemmas.Result.{IfOk-weaker}
use Rattle.mh_lint.proofs.lint.never_text.Goals as goal

pub returns : goal.returns
returns c =
    IfOk-weaker c.text_by-text.result _ _
    (λ text same. record { alive = c.in_ok-alive.alive; is = c.in_ok-alive.ensures; lines = same })
    c.text_by-text.ensures
