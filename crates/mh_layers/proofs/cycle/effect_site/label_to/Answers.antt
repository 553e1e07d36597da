use Rattle.std.proofs.Common.{ap}
use Rattle.mh_layers.specs.Stretches.{is_effect_node}
use Rattle.mh_layers.proofs.cycle.effect_site.label_to.Goals as goal

pub label_of-requires : goal.label_of-requires
label_of-requires c = (c.requires, ap is_effect_node c.in-Effect.is)
