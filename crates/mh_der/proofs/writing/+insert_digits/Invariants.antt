-- Each turn has a digit less.
use Rattle.mh_der.proofs.writing.+insert_digits.Given as goal

abbrev pub decreases-insert_digits : goal.decreases-insert_digits
decreases-insert_digits l = l.number
