-- A number that is too large stays so, whatever digits are left.
use Rattle.std.proofs.Common.{◌*◌, ◌<◌, ◌^◌, arith}
use Rattle.mh_der.proofs.DigitLemmas.{digits_past}
use Rattle.mh_der.proofs.header.number_of.Goals as goal

pub returns-in_err-checked_mul-clause-none : goal.returns-in_err-checked_mul-clause-none
returns-in_err-checked_mul-clause-none c =
    let large : c.loop-digit.number * 256 < 2 ^ 64 → ⊥ = λ h. c.in_err-checked_mul.ensures h in
    rw c.from_residual.ensures
    (digits_past (2 ^ 64) c.loop-digit.number c.loop-digit.digit-index c.args.digits.now (omega arith) (omega arith) c.loop-digit.invariant)
