use Rattle.std.proofs.Common.{◌≡◌, length}
use Rattle.mh_judged.specs.Mistakes.{from_named}
use Rattle.mh_judged.proofs.mistakes.from_named.Given as goal

abbrev pub invariant-loop-left : goal.invariant-loop-left
invariant-loop-left l = from_named l.name l.left ≡ from_named l.fn.name l.fn.files

abbrev pub decreases-loop-left : goal.decreases-loop-left
decreases-loop-left l = length l.left
