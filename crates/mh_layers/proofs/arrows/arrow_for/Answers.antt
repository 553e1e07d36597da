use Rattle.std.proofs.Common.{ap, sym, subst}
use Rattle.mh_layers.specs.Reading.{Reading, CostContext}
use Rattle.mh_layers.specs.Trails.{IsStep}
use Rattle.mh_layers.proofs.arrows.arrow_for.Goals as goal

pub arrow_between-requires-clause-step : goal.arrow_between-requires-clause-step
arrow_between-requires-clause-step c =
    subst (λ (r : Reading). IsStep r c.args.from.now c.args.first.now c.args.to.now) (sym (ap (λ (s : CostContext). s.reading) c.config_of-here.ensures)) c.requires.step
