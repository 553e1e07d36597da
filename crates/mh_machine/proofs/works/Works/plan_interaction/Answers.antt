use Rattle.std.specs.Prelude.{◌≡◌, List}
use Rattle.std.specs.Option.{option_copied}
use Rattle.std.proofs.Common.{rules, ap, ◌∙◌}
use Rattle.mh_base.specs.declared.value.Value.{Value}
use Rattle.mh_model.specs.Arguments.{values, receivers}
use Rattle.mh_model.specs.Saying.{interaction_items}
use Rattle.mh_model.specs.State.{all}
use Rattle.mh_machine.specs.declared.plan.Plan.{Plan}
use Rattle.mh_work.specs.Batches.{written}
use Rattle.mh_machine.specs.Plans.{committed, interacting_as}
use Rattle.mh_machine.proofs.WidgetLemmas.{interaction_planned}
use Rattle.mh_machine.proofs.works.Works.plan_interaction.Goals as goal

pub returns : goal.returns
returns c =
    let given : c.as_slice-2.result.now ≡ values (all c.args.self.now.state.objects) c.args.act.now.arguments = search rules in
    let again : c.as_slice-3.result.now ≡ values (all c.args.self.now.state.objects) c.args.act.now.arguments = search rules in
    let by : c.in_ok-interacting.interacting ≡ interacting_as c.as_slice-2.result.now c.is_interacting-interacts.result c.args.at.now (option_copied c.get-found.result) = search rules in
    let puts : written c.in_ok-interacting.batches.items ≡ interaction_items c.as_slice-3.result.now c.is_interacting-interacts.result c.args.at.now = search rules in
    let becomes = by ∙ ap (λ (vs : List Value). interacting_as vs c.is_interacting-interacts.result c.args.at.now (option_copied c.get-found.result)) given in
    let told = puts ∙ ap (λ (vs : List Value). interaction_items vs c.is_interacting-interacts.result c.args.at.now) again in
    ap (λ (p : Plan). committed p c.args.self.now.state) c.interacting.ensures
    ∙ interaction_planned c.args.self.now.state (values (all c.args.self.now.state.objects) c.args.act.now.arguments) (receivers c.args.act.now.arguments) c.args.at.now
    (option_copied c.get-found.result) c.is_interacting-interacts.result c.in_ok-interacting.interacting c.in_ok-interacting.batches.items
    (search rules) (search rules) becomes told
