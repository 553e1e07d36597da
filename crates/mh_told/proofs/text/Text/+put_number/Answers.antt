use Rattle.std.proofs.Common.{◌∙◌, arith}
use Rattle.mh_told.proofs.NumberLemmas.{digit_behind, digit_alone}
use Rattle.mh_told.proofs.text.Text.+put_number.Goals as goal
use Rattle.mh_told.proofs.text.Text.+put_number.Goals.{then-number-ge10+in_ok-put_number, else-number-ge10}

pub returns : goal.returns
returns t c = elim c.if-number-ge10.branch [
  | then-number-ge10+in_ok-put_number w ↦ digit_behind c.put_byte.result c.args.number c.args.self.now _ _ w.if-number-ge10.true c.ranges.number.fits (w.self-is ∙ w.in_ok-put_number.ensures) c.put_byte.ensures
  | else-number-ge10 w ↦ digit_alone c.put_byte.result c.args.number c.args.self.now _ _ (omega (arith, w.if-number-ge10.false)) w.self-is c.put_byte.ensures
]
