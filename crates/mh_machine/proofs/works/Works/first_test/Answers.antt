use Rattle.std.proofs.Common.{rules, ℤ, to_z, of_z, w32}
use Rattle.std.proofs.Math.Facts.{to_z-of_z}
use Rattle.mh_machine.proofs.TestLemmas.{puts}
use Rattle.mh_machine.proofs.works.Works.first_test.Goals as goal

pub returns-in_ok-tested-in-Some-get : goal.returns-in_ok-tested-in-Some-get
returns-in_ok-tested-in-Some-get c =
    puts c.args.self.now.state c.in-Some.act.now c.in-Some-test_in.at.now c.in-Some-test_in.number.now c.in-Some-test_in.value.now c.in-Some-get.object.now c.in_ok-tested-in-Some-get.field-0
    (search rules) (search rules) (search rules) (search rules) (search rules)
