use Rattle.std.proofs.Common.{◌≡◌, drop, Some}
use Rattle.mh_script.specs.Script.{read_digits}
use Rattle.mh_script.proofs.words.number_of.Given as goal

abbrev pub invariant-loop-digit : goal.invariant-loop-digit
invariant-loop-digit l = read_digits (Some l.number) (drop l.digit-index l.digits) ≡ read_digits (Some 0) l.digits
