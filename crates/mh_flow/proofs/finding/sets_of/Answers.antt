use Rattle.mh_flow.proofs.BridgeLemmas.{fit}
use Rattle.mh_flow.proofs.finding.sets_of.Goals as goal

pub solve-requires : goal.solve-requires
solve-requires c = fit c.args.service.now c.args.chart.now c.requires
