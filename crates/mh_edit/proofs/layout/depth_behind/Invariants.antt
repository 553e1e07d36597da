use Rattle.std.proofs.Common.{◌≡◌, drop}
use Rattle.mh_edit.specs.Layout.{depth_behind}
use Rattle.mh_edit.proofs.layout.depth_behind.Given as goal

abbrev pub invariant-loop-word : goal.invariant-loop-word
invariant-loop-word l = depth_behind l.depth (drop l.word-index l.words) ≡ depth_behind 0 l.words
