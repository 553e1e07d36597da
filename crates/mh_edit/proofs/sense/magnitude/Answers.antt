use Rattle.std.proofs.Common.{◌<◌, arith}
use Rattle.std.proofs.lemmas.Bool.Decides.{nat_tests}
use Rattle.mh_text.specs.Bytes.{number_behind}
use Rattle.mh_edit.specs.Senses.{magnitude}
use Rattle.mh_edit.proofs.NumberLemmas.{number_behind_past}
use Rattle.mh_edit.proofs.sense.magnitude.Goals as goal

pub returns-then-value-gt2147483647 : goal.returns-then-value-gt2147483647
unfolding magnitude
returns-then-value-gt2147483647 c =
    let above : 2147483647 < number_behind 0 c.args.digits.now =
    number_behind_past 2147483647 c.loop-digit.value c.loop-digit.digit-index c.args.digits.now
    c.loop-digit-test.true (omega arith) c.loop-digit.invariant.rest in
    grind (arith, nat_tests)
