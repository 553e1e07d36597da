use Rattle.std.proofs.Common.{◌≡◌, ◌++◌, drop}
use Rattle.mh_edit.specs.Outline.{pairs, pairs_in}
use Rattle.mh_edit.proofs.outline.pairs_of.Given as goal

abbrev pub invariant-loop-word : goal.invariant-loop-word
invariant-loop-word l = l.found.items ++ pairs_in l.opens (drop l.word-index l.words) ≡ pairs l.words
