use Rattle.mh_layers.proofs.NamesLemmas.{effect_has, names_there}
use Rattle.mh_layers.proofs.cycle.effect_site.cause_of.Goals as goal

pub cause_by-requires-clause-config : goal.cause_by-requires-clause-config
cause_by-requires-clause-config c =
    (effect_has c.args.numbered_service.now c.args.node.now c.in-Effect.config c.in-Effect.place c.in-Effect.number c.in-Effect.is (names_there c.args.numbered_service.now c.read.ensures c.args.node.now c.requires.0)).0

pub cause_by-requires-clause-object : goal.cause_by-requires-clause-object
cause_by-requires-clause-object c =
    (effect_has c.args.numbered_service.now c.args.node.now c.in-Effect.config c.in-Effect.place c.in-Effect.number c.in-Effect.is (names_there c.args.numbered_service.now c.read.ensures c.args.node.now c.requires.0)).1
