use Rattle.std.proofs.Common.{◌≡◌, ◌++◌, ◌+◌, drop}
use Rattle.mh_lint.specs.Notes.{of_acts}
use Rattle.mh_lint.proofs.noting.push_acts.Given as goal

abbrev pub invariant-loop-seen : goal.invariant-loop-seen
invariant-loop-seen l = record {
  rest :
      l.notes.items ++ of_acts l.uses l.at l.index (drop l.seen-index l.acts)
      ≡ l.initial.notes.items ++ of_acts l.uses l.at l.first l.acts;
  number : l.index ≡ l.first + l.seen-index;
}
