use Rattle.std.specs.Prelude.{◌≡◌, List}
use Rattle.std.proofs.Common.{rules, ap, ◌∙◌}
use Rattle.mh_base.specs.declared.value.Value.{Value}
use Rattle.mh_model.specs.Arguments.{values}
use Rattle.mh_model.specs.State.{all}
use Rattle.mh_model.specs.Widget.{Worked}
use Rattle.mh_model.specs.Worked.{worked}
use Rattle.mh_machine.specs.declared.plan.Plan.{Plan}
use Rattle.mh_work.specs.Batches.{written}
use Rattle.mh_machine.specs.Plans.{committed, change_with}
use Rattle.mh_machine.proofs.WidgetLemmas.{widget_planned, widget_absent}
use Rattle.mh_machine.proofs.works.Works.plan_widget.Goals as goal

pub returns-in_default : goal.returns-in_default
returns-in_default c =
    ap (λ (p : Plan). committed p c.args.self.now.state) c.nothing.ensures
    ∙ widget_absent c.args.self.now.state c.args.act.now.name (values (all c.args.self.now.state.objects) c.args.act.now.arguments) c.args.at.now (search rules)

pub returns : goal.returns
returns c =
    let given : c.as_slice-2.result.now ≡ values (all c.args.self.now.state.objects) c.args.act.now.arguments = search rules in
    let said = ap (λ (vs : List Value). worked c.args.act.now.name vs c.args.at.now c.in-Some.object.now.fixed c.in-Some.object.now.body) given in
    let does = c.in_ok-done.ensures.done in
    let same : c.in_ok-at.at ≡ c.args.at.now = search rules in
    let edit : c.in_ok-at.edit ≡ c.in_ok-done.done.edit = search rules in
    let placed : c.in_ok-at.placed.items ≡ c.in_ok-done.done.placed.items = search rules in
    let put : written c.in_ok-at.batches.items ≡ c.in_ok-done.done.items.items = search rules in
    ap (λ (p : Plan). committed p c.args.self.now.state) c.of.ensures
    ∙ widget_planned c.args.self.now.state c.args.act.now.name (values (all c.args.self.now.state.objects) c.args.act.now.arguments) c.args.at.now
    c.in-Some.object.now c.in_ok-done.done.edit c.in_ok-done.done.placed.items c.in_ok-done.done.items.items c.change_of-change.result c.in_ok-at.batches.items
    (search rules) (does.0 ∙ ap (λ (w : Worked). w.body) said) (does.1 ∙ ap (λ (w : Worked). w.placed) said) (does.2 ∙ ap (λ (w : Worked). w.items) said)
    c.in_ok-done.ensures.edited c.in_ok-done.ensures.unseen (c.change_of-change.ensures ∙ (λ i. change_with (same i) (edit i) (placed i))) put
