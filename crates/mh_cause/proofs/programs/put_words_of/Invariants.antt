use Rattle.std.proofs.Common.{◌≡◌, ◌++◌, [], length}
use Rattle.mh_cause.specs.Calls.{words_from}
use Rattle.mh_cause.proofs.programs.put_words_of.Given as goal

abbrev pub invariant-loop-left : goal.invariant-loop-left
invariant-loop-left l = l.text ++ words_from l.front l.left ≡ l.fn.text ++ words_from [] l.builtins

abbrev pub decreases-loop-left : goal.decreases-loop-left
decreases-loop-left l = length l.left
