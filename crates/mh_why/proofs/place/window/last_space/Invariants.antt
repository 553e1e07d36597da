use Rattle.std.proofs.Common.{◌≡◌}
use Rattle.mh_why.specs.Places.{last_space}
use Rattle.mh_why.proofs.place.window.last_space.Given as goal

abbrev pub invariant-loop-at : goal.invariant-loop-at
invariant-loop-at l = l.space ≡ last_space l.characters l.at
