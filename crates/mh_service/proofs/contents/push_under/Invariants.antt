use Rattle.std.proofs.Common.{◌≡◌, ◌++◌, drop}
use Rattle.std.specs.List.{flat_map}
use Rattle.mh_model.specs.Property.{held}
use Rattle.mh_service.specs.Contents.{held_files}
use Rattle.mh_service.proofs.contents.push_under.Given as goal

abbrev pub invariant-loop-attribute : goal.invariant-loop-attribute
invariant-loop-attribute l = l.named.items ++ flat_map (λ a. held_files (held a l.part.properties)) (drop l.attribute-index l.attributes) ≡ l.initial.named.items ++ flat_map (λ a. held_files (held a l.part.properties)) l.attributes
