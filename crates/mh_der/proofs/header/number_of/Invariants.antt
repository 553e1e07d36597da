-- What the digits so far write goes on with those that are left.
use Rattle.std.proofs.Common.{◌≡◌, drop}
use Rattle.std.specs.Int.Digits.{number_from_digits_after, number_from_digits}
use Rattle.mh_der.proofs.header.number_of.Given as goal

abbrev pub invariant-loop-digit : goal.invariant-loop-digit
invariant-loop-digit l = number_from_digits_after 256 l.number (drop l.digit-index l.digits) ≡ number_from_digits 256 l.digits
