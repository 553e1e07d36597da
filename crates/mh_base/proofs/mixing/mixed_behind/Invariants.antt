use Rattle.std.proofs.Common.{◌≡◌, length}
use Rattle.mh_base.specs.Mixing.{mixed_onto}
use Rattle.mh_base.proofs.mixing.mixed_behind.Given as goal

abbrev pub invariant-loop-left : goal.invariant-loop-left
invariant-loop-left l = mixed_onto l.fn.word l.fn.bytes ≡ mixed_onto l.mixed l.left

abbrev pub decreases-loop-left : goal.decreases-loop-left
decreases-loop-left l = length l.left
