use Rattle.std.proofs.Common.{◌<◌, arith}
use Rattle.std.proofs.lemmas.Bool.Decides.{nat_tests}
use Rattle.mh_protocol.specs.Heads.{number_behind}
use Rattle.mh_protocol.proofs.NumberLemmas.{number_behind_past}
use Rattle.mh_protocol.proofs.head.magnitude.Goals as goal

pub returns-then-value-gt2147483648 : goal.returns-then-value-gt2147483648
returns-then-value-gt2147483648 c =
    let above : 2147483648 < number_behind 0 c.args.digits.now =
    number_behind_past 2147483648 c.loop-digit.value c.loop-digit.digit-index c.args.digits.now
    c.loop-digit-test.true (omega arith) c.loop-digit.invariant.rest in
    grind (arith, nat_tests)
