use Rattle.std.specs.Prelude.{◌≡◌, ◌-◌, not}
use Rattle.std.specs.List.{list_any, range_with_len}
use Rattle.mh_state.specs.Cell.{covers_cell, is_off}
use Rattle.mh_state.proofs.cell.words.is_off.Given as goal

abbrev pub invariant-loop-cell : goal.invariant-loop-cell
invariant-loop-cell l = not (list_any (covers_cell l.area) (range_with_len l.cell (2160 - l.cell))) ≡ is_off l.area
