use Rattle.std.proofs.Common.{◌≡◌, ◌++◌, [], length}
use Rattle.mh_group.specs.Words.{events}
use Rattle.mh_misread.specs.Telling.{words_with}
use Rattle.mh_misread.proofs.wanted.put_event_words.Given as goal

abbrev pub invariant-loop-left : goal.invariant-loop-left
invariant-loop-left l = l.text ++ words_with l.front l.left ≡ l.fn.text ++ words_with [] events

abbrev pub decreases-loop-left : goal.decreases-loop-left
decreases-loop-left l = length l.left
