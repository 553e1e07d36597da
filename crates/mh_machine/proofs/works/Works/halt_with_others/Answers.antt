use Rattle.std.specs.Option.{option_copied}
use Rattle.std.proofs.Common.{rules, refl}
use Rattle.mh_model.specs.declared.edit.Edit.TheVariants as edit
use Rattle.mh_machine.specs.declared.plan.Change.TheVariants as change
use Rattle.mh_machine.specs.declared.plan.Interacting.TheVariants as interacting
use Rattle.mh_machine.proofs.PlanLemmas.{halt_planned}
use Rattle.mh_machine.proofs.works.Works.halt_with_others.Goals as goal

pub returns-clause-done : goal.returns-clause-done
returns-clause-done c =
    let planned = halt_planned c.args.self.now.state c.args.at.now (option_copied c.get.result) (change.Edit c.args.at.now edit.Halt) (interacting.Ends c.args.at.now) c.in_ok-batches.batches.items (search rules) refl refl c.in_ok-batches.ensures in
    search (rules, planned)
