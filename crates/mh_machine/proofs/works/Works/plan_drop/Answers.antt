use Rattle.std.specs.Option.{option_copied}
use Rattle.std.proofs.Common.{rules, ap, ◌∙◌}
use Rattle.mh_model.specs.declared.edit.Edit.TheVariants as edit
use Rattle.mh_machine.specs.declared.plan.Change.TheVariants as change
use Rattle.mh_machine.specs.declared.plan.Awaiting.TheVariants as awaiting
use Rattle.mh_machine.specs.declared.plan.Stacking.TheVariants as stacking
use Rattle.mh_machine.specs.declared.plan.Plan.{Plan}
use Rattle.mh_machine.specs.Plans.{committed}
use Rattle.mh_machine.proofs.PlanLemmas.{drop_planned}
use Rattle.mh_machine.proofs.works.Works.plan_drop.Goals as goal

pub returns : goal.returns
returns c =
    ap (λ (p : Plan). committed p c.args.self.now.state) c.of.ensures
    ∙ drop_planned c.args.self.now.state c.args.at.now (option_copied c.get.result) (change.Edit c.in_ok-changed.changed edit.Drop) (stacking.Fall c.in_ok-changed.fallen) (awaiting.Forget c.in_ok-forgotten.forgotten) c.in_ok-forgotten.batches.items (search rules) (search rules) (search rules) (search rules) (search rules)
