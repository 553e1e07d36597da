use Rattle.std.proofs.Common.{length}
use Rattle.mh_cause.proofs.candidates.+put_more_told.Given as goal

abbrev pub decreases-put_more_told : goal.decreases-put_more_told
decreases-put_more_told l = length l.numbers.now
