use Rattle.std.proofs.Common.{◌≡◌, ◌≤◌}
use Rattle.std.specs.List.{count_by, range_with_len}
use Rattle.mh_look.specs.Frames.{differs_at}
use Rattle.mh_look.proofs.comparison.difference.changed_cells.Given as goal

abbrev pub invariant-loop-place : goal.invariant-loop-place
invariant-loop-place l = record {
  counted : l.count ≡ count_by (differs_at l.one l.other) (range_with_len 0 l.place);
  within : l.count ≤ l.place;
}
