use Rattle.std.specs.Option.{option_copied}
use Rattle.std.proofs.Common.{rules}
use Rattle.mh_machine.proofs.TurnLemmas.{run_alone}
use Rattle.mh_machine.proofs.works.Works.do_run.Goals as goal

pub returns-in-Some-clause-done : goal.returns-in-Some-clause-done
returns-in-Some-clause-done c =
    let same = run_alone c.args.self.now.state c.args.at.now (option_copied c.get.result) c.in-Some.is_seen (search rules) (search rules) in
    search (rules, same)
