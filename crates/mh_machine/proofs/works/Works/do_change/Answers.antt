use Rattle.std.specs.Prelude.{◌≡◌, List}
use Rattle.std.proofs.Common.{rules, ◌∙◌, ap}
use Rattle.mh_base.specs.declared.value.Value.{Value}
use Rattle.mh_model.specs.Arguments.{values}
use Rattle.mh_model.specs.Bodies.{changed_by}
use Rattle.mh_model.specs.Rules.{changed}
use Rattle.mh_model.specs.State.{Objects, all}
use Rattle.mh_machine.specs.Plans.{changed_as, change_at, taken_from}
use Rattle.mh_machine.proofs.works.Works.do_change.Goals as goal

pub returns-clause-done : goal.returns-clause-done
returns-clause-done c =
    let here : c.objects-objects.result.now ≡ c.args.self.now.state.objects = search rules in
    let written : c.as_slice-arguments.result.now ≡ c.args.act.now.arguments = search rules in
    let given = ap (λ (os : Objects). values (all os) c.as_slice-arguments.result.now) here ∙ ap (values (all c.args.self.now.state.objects)) written in
    let objects : changed_as (change_at c.args.at.now c.in_ok-edit.edit) c.args.self.now.state.objects ≡ changed (changed_by c.args.act.now.name (values (all c.objects-objects.result.now) c.as_slice-arguments.result.now)) c.args.at.now c.args.self.now.state.objects =
    c.in_ok-edit.ensures c.args.at.now c.args.self.now.state.objects (search rules) in
    let same : changed (changed_by c.args.act.now.name (values (all c.objects-objects.result.now) c.as_slice-arguments.result.now)) c.args.at.now c.args.self.now.state.objects ≡ changed (changed_by c.args.act.now.name (values (all c.args.self.now.state.objects) c.args.act.now.arguments)) c.args.at.now c.args.self.now.state.objects =
    ap (λ (vs : List Value). changed (changed_by c.args.act.now.name vs) c.args.at.now c.args.self.now.state.objects) given in
    c.in_ok-commit_change.ensures.done ∙ ap (λ (os : Objects). record (taken_from c.args.self.now.state) { objects = os }) (objects ∙ same)
