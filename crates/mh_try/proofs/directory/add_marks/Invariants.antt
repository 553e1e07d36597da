use Rattle.std.proofs.Common.{◌≡◌, ◌≤◌, drop}
use Rattle.mh_try.specs.Directory.{beginning_of, with_marks}
use Rattle.mh_try.proofs.directory.add_marks.Given as goal

abbrev pub invariant-loop-mark : goal.invariant-loop-mark
invariant-loop-mark l =
    (with_marks l.group l.bytes l.last (drop l.mark-index l.marks) l.directory
    ≡ with_marks l.group l.bytes (beginning_of l.group) l.marks l.initial.directory)
    × (l.last.number ≤ l.mark-index)
    × (l.places ≡ l.bytes)
