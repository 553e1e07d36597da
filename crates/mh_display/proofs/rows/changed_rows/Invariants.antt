use Rattle.std.proofs.Common.{◌≡◌, ◌<◌, ◌≤◌, ℕ, false, length, not, slice_index_or}
use Rattle.mh_display.specs.Rows.{same_row}
use Rattle.mh_display.proofs.rows.changed_rows.Given as goal

-- the rows above this one are told
abbrev pub invariant-loop-row : goal.invariant-loop-row
invariant-loop-row l = (l.row ≤ 36) × (length l.changed ≡ 36) × ((j : ℕ) → j < l.row → slice_index_or l.changed j false ≡ not (same_row l.before l.after j))
