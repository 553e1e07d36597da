use Rattle.std.specs.Prelude.{Option, Some, None}
use Rattle.std.specs.Option.{option_copied}
use Rattle.std.proofs.Common.{◌≡◌, rules, subst}
use Rattle.mh_model.specs.declared.object.Object.{Object}
use Rattle.mh_model.specs.Arguments.{values}
use Rattle.mh_model.specs.Bodies.{changed_by}
use Rattle.mh_model.specs.State.{all}
use Rattle.mh_machine.specs.Plans.{MakesFound}
use Rattle.mh_machine.proofs.ChangeLemmas.{makes_none, makes_edit}
use Rattle.mh_machine.proofs.plan.acting.edit_of.Goals as goal

pub returns-in_default : goal.returns-in_default
returns-in_default c =
    let none : None ≡ option_copied c.args.found = search rules in
    subst (λ (m : Option Object). MakesFound None (changed_by c.args.name (values (all c.args.objects.now) c.args.arguments.now)) m) none
    (λ r. makes_none (changed_by c.args.name (values (all c.args.objects.now) c.args.arguments.now)) r)

pub returns : goal.returns
returns c =
    let some : Some c.in-Some.object.now ≡ option_copied c.args.found = search rules in
    subst (λ (m : Option Object). MakesFound c.in_ok-edit.edit (changed_by c.args.name (values (all c.args.objects.now) c.args.arguments.now)) m) some
    (λ r. makes_edit (changed_by c.args.name (values (all c.args.objects.now) c.args.arguments.now)) r c.in-Some.object.now c.in_ok-edit.edit c.in_ok-edit.ensures)
