use Rattle.std.proofs.Common.{◌≡◌, ◌++◌}
use Rattle.std.specs.List.{flat_map, range_with_len}
use Rattle.mh_live.specs.Screen.{changed_at}
use Rattle.mh_live.proofs.drawing.put_lines.Given as goal

abbrev pub invariant-loop-place : goal.invariant-loop-place
invariant-loop-place l = l.text ≡ l.initial.text ++ flat_map (changed_at l.columns l.before l.after) (range_with_len 0 l.place)
