use Rattle.std.proofs.Common.{◌≡◌, ◌<◌, ◌≤◌, ◌+◌, ℕ, length, slice_index_or}
use Rattle.redplay_page.specs.Cells.{cell_at, no_cell}
use Rattle.redplay_page.proofs.showing.copy_cells.Given as goal

-- the cells before this one are copied
abbrev pub invariant-loop-at : goal.invariant-loop-at
invariant-loop-at l =
    (l.at ≤ length l.initial.cells) × (length l.cells ≡ length l.initial.cells) ×
    ((j : ℕ) → j < l.at → slice_index_or l.cells j no_cell ≡ cell_at l.picture (l.first + j))
