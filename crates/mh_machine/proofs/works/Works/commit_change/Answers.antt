use Rattle.std.specs.Prelude.{◌≡◌, Option, Some}
use Rattle.std.proofs.Common.{rules, ◌∙◌, ap}
use Rattle.mh_model.specs.declared.edit.Edit.{Edit}
use Rattle.mh_model.specs.declared.edit.Edit.TheVariants as edit
use Rattle.mh_machine.specs.Plans.{changed_as, change_at, taken_from}
use Rattle.mh_machine.proofs.works.Works.commit_change.Goals as goal

pub returns-in-Some-Give-clause-done : goal.returns-in-Some-Give-clause-done
returns-in-Some-Give-clause-done c =
    let found : Some (edit.Give c.in-Some-Give.value) ≡ c.args.edit = search rules in
    c.commit_give.ensures
    ∙ ap (λ (m : Option Edit). record (taken_from c.args.self.now.state) { objects = changed_as (change_at c.args.at.now m) c.args.self.now.state.objects }) found
