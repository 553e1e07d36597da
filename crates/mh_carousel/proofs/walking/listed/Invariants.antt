use Rattle.std.proofs.Common.{◌≡◌, ◌++◌}
use Rattle.mh_carousel.proofs.walking.listed.Given as goal

abbrev pub invariant-loop-name : goal.invariant-loop-name
invariant-loop-name l = l.list ++ l.name-iterator ≡ l.initial.name-iterator
