use Rattle.std.proofs.Common.{◌≡◌, ◌++◌, [], length}
use Rattle.mh_misread.specs.Telling.{fields_with}
use Rattle.mh_misread.proofs.wanted.put_fields_with.Given as goal

abbrev pub invariant-loop-left : goal.invariant-loop-left
invariant-loop-left l = l.text ++ fields_with l.front l.class l.left ≡ l.fn.text ++ fields_with [] l.class l.attributes

abbrev pub decreases-loop-left : goal.decreases-loop-left
decreases-loop-left l = length l.left
