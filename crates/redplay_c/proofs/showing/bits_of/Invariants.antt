use Rattle.std.proofs.Common.{◌≡◌, ◌≤◌, drop}
use Rattle.redplay_c.specs.Rows.{bits_of}
use Rattle.redplay_c.proofs.showing.bits_of.Given as goal

-- the rows from this one on are told
abbrev pub invariant-loop-at : goal.invariant-loop-at
invariant-loop-at l = (l.at ≤ 36) × (l.bits ≡ bits_of (drop l.at l.rows))

abbrev pub decreases-loop-at : goal.decreases-loop-at
decreases-loop-at l = l.at
