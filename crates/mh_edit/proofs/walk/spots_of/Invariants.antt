use Rattle.std.proofs.Common.{◌≡◌, ◌++◌, drop}
use Rattle.mh_edit.specs.Walk.{spots, spots_from}
use Rattle.mh_edit.proofs.walk.spots_of.Given as goal

abbrev pub invariant-loop-word : goal.invariant-loop-word
invariant-loop-word l = l.found.items ++ spots_from l.bytes l.stand (drop l.word-index l.words) ≡ spots l.bytes l.words
