use Rattle.std.proofs.Common.{length, ◌-◌, ◌≡◌, ◌+◌, ◌≤◌, ◌++◌, take}
use Rattle.std.specs.List.{flat_map}
use Rattle.mh_told.specs.Printing.{quoted}
use Rattle.mh_told.proofs.line.put_plain.Given as goal

abbrev pub invariant-loop-count : goal.invariant-loop-count
invariant-loop-count l = (l.count ≤ length l.scalars) × (take (l.at + l.count) l.line ≡ take l.at l.initial.line ++ flat_map quoted (take l.count l.scalars))

abbrev pub decreases-loop-count : goal.decreases-loop-count
decreases-loop-count l = length l.scalars - l.count
