use Rattle.std.proofs.Common.{IfOk}
use Rattle.mh_flow.specs.Solved.{flow_in}
use Rattle.mh_layers.specs.Dearest.{AreDearestWays}
use Rattle.mh_layers.proofs.LayeredLemmas.{none_read}
use Rattle.mh_layers.proofs.WalkLemmas.{turned}
use Rattle.mh_layers.proofs.ways.dearest_ways.Goals as goal

pub returns-clause-ways : goal.returns-clause-ways
returns-clause-ways c =
    turned (λ v f. IfOk c.ways_by.result (λ ways. AreDearestWays v (flow_in v f) ways.items))
    c.in_ok-numbered_service.numbered_service c.args.service.now c.args.flow.now c.in_ok-numbered_service.ensures.service c.in_ok-numbered_service.ensures.flow c.ways_by.ensures.ways

pub returns-clause-cycle : goal.returns-clause-cycle
returns-clause-cycle c = λ h rank layering.
    none_read c.in_ok-numbered_service.numbered_service c.args.service.now c.args.flow.now c.in_ok-numbered_service.ensures.service c.in_ok-numbered_service.ensures.flow c.in_ok-numbered_service.ensures.reading
    (c.ways_by.ensures.cycle h) rank layering
