use Rattle.std.proofs.Common.{◌≡◌}
use Rattle.std.specs.List.{flat_map}
use Rattle.indexmap.specs.IndexSet.{insert_all}
use Rattle.mh_model.specs.Reference.{same_key}
use Rattle.mh_alive.specs.Hearing.{hearers, hearing_of}
use Rattle.mh_alive.proofs.hearing.Ears.hearers.Given as goal

abbrev pub invariant-loop-parts : goal.invariant-loop-parts
invariant-loop-parts l = insert_all same_key l.hearers.keys (flat_map (hearing_of l.self) l.parts-iterator) ≡ hearers l.service l.self
