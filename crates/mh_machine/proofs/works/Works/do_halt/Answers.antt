use Rattle.std.specs.Option.{option_copied}
use Rattle.std.proofs.Common.{rules}
use Rattle.mh_machine.proofs.TurnLemmas.{halt_alone}
use Rattle.mh_machine.proofs.works.Works.do_halt.Goals as goal

pub returns-then-stops_alone-clause-done : goal.returns-then-stops_alone-clause-done
returns-then-stops_alone-clause-done c =
    let same = halt_alone c.args.self.now.state c.args.at.now (option_copied c.get.result) (search rules) (search rules) in
    search (rules, same)
