-- Each turn has a digit less.
use Rattle.mh_der.proofs.writing.+digit_count.Given as goal

abbrev pub decreases-digit_count : goal.decreases-digit_count
decreases-digit_count l = l.number
