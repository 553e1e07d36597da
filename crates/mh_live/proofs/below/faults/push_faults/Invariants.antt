use Rattle.std.proofs.Common.{◌≡◌, ◌++◌, length}
use Rattle.mh_live.specs.Below.{fault_texts}
use Rattle.mh_live.proofs.below.faults.push_faults.Given as goal

abbrev pub decreases-loop-left : goal.decreases-loop-left
decreases-loop-left l = length l.left

abbrev pub invariant-loop-left : goal.invariant-loop-left
invariant-loop-left l =
    l.lines.items ++ fault_texts l.known l.left ≡ l.initial.lines.items ++ fault_texts l.fn.places l.fn.faults
