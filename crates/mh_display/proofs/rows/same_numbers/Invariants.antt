use Rattle.std.proofs.Common.{◌-◌, ◌%◌, ◌≡◌, ◌≤◌, drop}
use Rattle.std.specs.Str.{bytes_eq}
use Rattle.mh_display.proofs.rows.same_numbers.Given as goal

-- what is left is the same where all is
abbrev pub invariant-loop-at : goal.invariant-loop-at
invariant-loop-at l = (l.at % 8 ≡ 0) × (l.at ≤ 56) × (bytes_eq (drop l.at l.before) (drop l.at l.after) ≡ bytes_eq l.before l.after)

abbrev pub decreases-loop-at : goal.decreases-loop-at
decreases-loop-at l = 56 - l.at
