use Rattle.std.proofs.Common.{◌≡◌, length}
use Rattle.mh_why.specs.LineWords.{behind_first}
use Rattle.mh_why.proofs.explanation.words.behind_first.Given as goal

abbrev pub invariant-loop-rest : goal.invariant-loop-rest
invariant-loop-rest l = behind_first l.rest ≡ behind_first l.bytes

abbrev pub decreases-loop-rest : goal.decreases-loop-rest
decreases-loop-rest l = length l.rest
