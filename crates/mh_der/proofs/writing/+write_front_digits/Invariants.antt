-- Each turn has a digit less.
use Rattle.mh_der.proofs.writing.+write_front_digits.Given as goal

abbrev pub decreases-write_front_digits : goal.decreases-write_front_digits
decreases-write_front_digits l = l.number
