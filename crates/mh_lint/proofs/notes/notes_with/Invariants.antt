use Rattle.std.proofs.Common.{◌≡◌, ◌++◌}
use Rattle.std.specs.List.{flat_map}
use Rattle.mh_lint.specs.Notes.{of_parts}
use Rattle.mh_lint.proofs.notes.notes_with.Given as goal

abbrev pub invariant-loop-parts : goal.invariant-loop-parts
invariant-loop-parts l = l.notes.items ++ flat_map (of_parts l.all l.files l.uses l.late) l.parts-iterator ≡ flat_map (λ g. of_parts l.all l.files l.uses l.service.late g.1) l.service.groups
