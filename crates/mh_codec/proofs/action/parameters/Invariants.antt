use Rattle.std.proofs.Common.{◌≡◌, length, []}
use Rattle.mh_codec.specs.Reading.{parameters}
use Rattle.mh_codec.proofs.action.parameters.Given as goal

abbrev pub invariant-loop-needs : goal.invariant-loop-needs
invariant-loop-needs l = parameters l.tags l.optional l.needs l.parameters l.reader ≡ parameters l.tags l.optional l.fn.needs [] l.fn.reader

abbrev pub decreases-loop-needs : goal.decreases-loop-needs
decreases-loop-needs l = length l.needs
