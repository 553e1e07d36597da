use Rattle.std.proofs.Common.{◌≡◌, ◌++◌, length}
use Rattle.mh_why.specs.Further.{files_text}
use Rattle.mh_why.proofs.explanation.unread.further.put_files.Given as goal

abbrev pub invariant-loop-left : goal.invariant-loop-left
invariant-loop-left l = l.text ++ files_text l.most l.left ≡ l.fn.text ++ files_text l.fn.most l.fn.sources

abbrev pub decreases-loop-left : goal.decreases-loop-left
decreases-loop-left l = length l.left
