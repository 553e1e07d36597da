-- Each turn has a digit less.
use Rattle.mh_der.proofs.writing.+write_digits.Given as goal

abbrev pub decreases-write_digits : goal.decreases-write_digits
decreases-write_digits l = l.number
