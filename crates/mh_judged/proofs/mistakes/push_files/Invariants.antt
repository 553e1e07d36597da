use Rattle.std.proofs.Common.{◌≡◌, ◌++◌, length}
use Rattle.mh_judged.specs.Mistakes.{of_files}
use Rattle.mh_judged.proofs.mistakes.push_files.Given as goal

abbrev pub invariant-loop-left : goal.invariant-loop-left
invariant-loop-left l =
    l.found.items ++ of_files l.folder l.most l.left ≡ l.fn.found.items ++ of_files l.fn.folder l.fn.most l.fn.behind

abbrev pub decreases-loop-left : goal.decreases-loop-left
decreases-loop-left l = length l.left
