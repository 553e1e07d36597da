use Rattle.std.proofs.Common.{rules}
use Rattle.mh_layers.proofs.ActiveLemmas.{config_there}
use Rattle.mh_layers.proofs.arrows.config_of.Goals as goal

pub unreachable-requires-in-None : goal.unreachable-requires-in-None
unreachable-requires-in-None c =
    config_there c.args.numbered_service.now c.requires.reading c.args.node.now c.requires.active c.in-Effect.config c.in-Effect.field-1 c.in-Effect.field-2 c.in-Effect.is
    (search rules)
