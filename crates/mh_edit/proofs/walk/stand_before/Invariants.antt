use Rattle.std.proofs.Common.{◌≡◌, drop}
use Rattle.mh_edit.specs.Walk.{at_first, stand_before}
use Rattle.mh_edit.proofs.walk.stand_before.Given as goal

abbrev pub invariant-loop-word : goal.invariant-loop-word
invariant-loop-word l = stand_before l.bytes l.offset l.stand (drop l.word-index l.words) ≡ stand_before l.bytes l.offset at_first l.words
