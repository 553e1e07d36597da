use Rattle.std.specs.Prelude.{List, IfOk}
use Rattle.std.proofs.Common.{subst}
use Rattle.mh_told.specs.Reading.{Source as File}
use Rattle.mh_judged.specs.Judged.{IsListBehind}
use Rattle.mh_judged.proofs.judged.list_of.Goals as goal

pub returns : goal.returns
returns c =
    subst
    (λ (fs : List File). IfOk c.list_by-found.result (λ found. IsListBehind c.args.most c.args.folder.now fs c.args.start.now c.args.refusal.now found.items))
    c.in_ok-directory.ensures c.list_by-found.ensures
