use Rattle.std.proofs.Common.{◌≡◌, drop, Some}
use Rattle.mh_codec.specs.TagLines.{read_digits}
use Rattle.mh_codec.proofs.tag_line.decimal.Given as goal

abbrev pub invariant-loop-digit : goal.invariant-loop-digit
invariant-loop-digit l = read_digits (Some l.number) (drop l.digit-index l.digits) ≡ read_digits (Some 0) l.digits
