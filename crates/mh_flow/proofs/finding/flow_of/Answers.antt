use Rattle.std.proofs.Common.{subst, sym}
use Rattle.mh_flow.specs.Solved.{IsFlowOf}
use Rattle.mh_flow.proofs.BridgeLemmas.{rows_are_least}
use Rattle.mh_flow.proofs.finding.flow_of.Goals as goal

pub returns : goal.returns
returns c =
    let v = c.args.service.now in
    let chart = c.in_ok-chart.ensures in
    let solved = c.in_ok-found.ensures.least in
    subst (IsFlowOf v) (sym c.new.ensures) (record {
      chart = chart;
      solved = solved;
      least = rows_are_least v c.in_ok-chart.chart c.in_ok-found.found.0 chart solved;
    })
