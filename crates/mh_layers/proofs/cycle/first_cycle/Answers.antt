use Rattle.std.proofs.Common.{IfNone, IfOk, IfSome}
use Rattle.mh_flow.specs.Solved.{flow_in}
use Rattle.mh_layers.specs.Arrows.{AreFirstArrows}
use Rattle.mh_layers.specs.Cycle.{NoCycles}
use Rattle.mh_layers.proofs.WalkLemmas.{turned}
use Rattle.mh_layers.proofs.cycle.first_cycle.Goals as goal

pub returns-clause-some : goal.returns-clause-some
returns-clause-some c =
    turned (λ v f. IfOk c.cycle_of.result (λ found. IfSome found (λ arrows. AreFirstArrows v (flow_in v f) arrows.items)))
    c.in_ok-numbered_service.numbered_service c.args.service.now c.args.flow.now c.in_ok-numbered_service.ensures.service c.in_ok-numbered_service.ensures.flow c.cycle_of.ensures.some

pub returns-clause-none : goal.returns-clause-none
returns-clause-none c =
    turned (λ v f. IfOk c.cycle_of.result (λ found. IfNone found (NoCycles v (flow_in v f))))
    c.in_ok-numbered_service.numbered_service c.args.service.now c.args.flow.now c.in_ok-numbered_service.ensures.service c.in_ok-numbered_service.ensures.flow c.cycle_of.ensures.none
