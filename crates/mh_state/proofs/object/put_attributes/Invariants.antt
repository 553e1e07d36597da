use Rattle.std.proofs.Common.{◌≡◌, ◌++◌, drop}
use Rattle.std.specs.List.{flat_map}
use Rattle.mh_state.specs.Object.{attribute_of}
use Rattle.mh_state.proofs.object.put_attributes.Given as goal

abbrev pub invariant-loop-attribute : goal.invariant-loop-attribute
invariant-loop-attribute l =
    l.text ++ flat_map (attribute_of l.object) (drop l.attribute-index l.attributes) ≡ l.initial.text ++ flat_map (attribute_of l.object) l.attributes
