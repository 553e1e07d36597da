-- Each turn has a digit less.
use Rattle.mh_text.proofs.printing.value.+put_decimal.Given as goal

abbrev pub decreases-put_decimal : goal.decreases-put_decimal
decreases-put_decimal l = l.number
