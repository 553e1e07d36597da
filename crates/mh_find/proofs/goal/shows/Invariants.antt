use Rattle.std.proofs.Common.{◌≡◌, ◌-◌}
use Rattle.std.specs.List.{list_any, range_with_len}
use Rattle.mh_find.specs.Goal.{is_in_row, shows}
use Rattle.mh_find.proofs.goal.shows.Given as goal

abbrev pub invariant-loop-row : goal.invariant-loop-row
invariant-loop-row l =
    list_any (is_in_row l.text l.picture) (range_with_len l.row (36 - l.row)) ≡ shows l.text l.picture
