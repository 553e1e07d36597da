use Rattle.std.proofs.Common.{◌≡◌, ◌++◌, drop}
use Rattle.std.specs.List.{flat_map}
use Rattle.mh_trace.specs.Changes.{attribute_note}
use Rattle.mh_trace.proofs.changes.put_attributes.Given as goal

abbrev pub invariant-loop-attribute : goal.invariant-loop-attribute
invariant-loop-attribute l =
    l.text ++ flat_map (attribute_note l.form l.object l.behind) (drop l.attribute-index l.attributes)
    ≡ l.initial.text ++ flat_map (attribute_note l.form l.object l.behind) l.attributes
