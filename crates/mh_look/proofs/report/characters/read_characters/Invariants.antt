use Rattle.std.proofs.Common.{length}
use Rattle.mh_look.proofs.QuotedLemmas.{IsReading}
use Rattle.mh_look.proofs.report.characters.read_characters.Given as goal

abbrev pub invariant-loop-scalar : goal.invariant-loop-scalar
invariant-loop-scalar l = IsReading l.bytes l.rest l.initial.scalars.items l.scalars.items

abbrev pub decreases-loop-scalar : goal.decreases-loop-scalar
decreases-loop-scalar l = length l.rest
