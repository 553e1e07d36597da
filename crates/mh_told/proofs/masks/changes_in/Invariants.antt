use Rattle.std.proofs.Common.{◌-◌, ◌≡◌, ◌+◌, ◌%◌, ◌≤◌, ◌&&◌, nat_lt}
use Rattle.mh_told.specs.Masks.{Tells, changes}
use Rattle.mh_told.proofs.masks.changes_in.Given as goal

abbrev pub invariant-loop-at : goal.invariant-loop-at
invariant-loop-at l = (l.at % 8 ≡ 0) × (l.at ≤ 56) × Tells (λ k. nat_lt k l.at && changes l.plane (l.start + k)) l.bits

abbrev pub decreases-loop-at : goal.decreases-loop-at
decreases-loop-at l = 56 - l.at
