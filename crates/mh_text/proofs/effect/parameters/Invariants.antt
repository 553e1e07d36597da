use Rattle.std.proofs.Common.{◌≡◌, [], drop}
use Rattle.mh_text.specs.Reading.{parameters}
use Rattle.mh_text.proofs.effect.parameters.Given as goal

abbrev pub invariant-loop-at : goal.invariant-loop-at
invariant-loop-at l = parameters l.optional (drop l.at l.needs) l.parameters l.place ≡ parameters l.optional l.needs [] l.fn.place
