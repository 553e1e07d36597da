use Rattle.std.proofs.Common.{◌≡◌, ◌++◌, drop}
use Rattle.std.specs.List.{flat_map}
use Rattle.mh_lint.specs.Notes.{of_object}
use Rattle.mh_lint.proofs.notes.push_objects.Given as goal

abbrev pub invariant-loop-part : goal.invariant-loop-part
invariant-loop-part l =
    l.notes.items ++ flat_map (of_object l.all l.files l.uses l.late l.is_of_application) (drop l.part-index l.parts) ≡ l.initial.notes.items ++ flat_map (of_object l.all l.files l.uses l.late l.is_of_application) l.parts
