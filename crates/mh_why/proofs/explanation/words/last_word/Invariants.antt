use Rattle.std.proofs.Common.{◌≡◌, length}
use Rattle.mh_why.specs.LineWords.{last_from}
use Rattle.mh_why.proofs.explanation.words.last_word.Given as goal

abbrev pub invariant-loop-rest : goal.invariant-loop-rest
invariant-loop-rest l = last_from l.word l.rest ≡ last_from l.fn.bytes l.fn.bytes

abbrev pub decreases-loop-rest : goal.decreases-loop-rest
decreases-loop-rest l = length l.rest
