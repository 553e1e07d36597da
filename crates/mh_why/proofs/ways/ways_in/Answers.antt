use Rattle.std.specs.Prelude.{IfOk}
use Rattle.std.proofs.Common.{subst}
use Rattle.mh_model.specs.Service.{Service}
use Rattle.mh_why.specs.Ways.{AreWaysIn}
use Rattle.mh_why.proofs.ways.ways_in.Goals as goal

pub returns : goal.returns
returns c = subst (λ (v : Service). IfOk c.ways_by.result (AreWaysIn v)) c.new-whole.ensures c.ways_by.ensures
