use Rattle.std.specs.Prelude.{◌≡◌, List}
use Rattle.std.specs.Option.{option_copied}
use Rattle.std.proofs.Common.{rules, ap, ◌∙◌}
use Rattle.mh_base.specs.declared.value.Value.{Value}
use Rattle.mh_model.specs.Arguments.{values, receivers}
use Rattle.mh_model.specs.Saying.{answers_at}
use Rattle.mh_model.specs.State.{all}
use Rattle.mh_machine.specs.declared.plan.Plan.{Plan}
use Rattle.mh_machine.specs.Plans.{committed}
use Rattle.mh_machine.proofs.PlanLemmas.{ask_planned}
use Rattle.mh_machine.proofs.works.Works.plan_ask.Goals as goal

pub returns : goal.returns
returns c =
    let given : c.as_slice-2.result.now ≡ values (all c.args.self.now.state.objects) c.args.act.now.arguments = search rules in
    let answered : c.in_ok-told.told ≡ answers_at c.args.act.now.name c.as_slice-2.result.now (option_copied c.get-found.result) = search rules in
    let told = answered ∙ ap (λ (vs : List Value). answers_at c.args.act.now.name vs (option_copied c.get-found.result)) given in
    ap (λ (p : Plan). committed p c.args.self.now.state) c.changing.ensures
    ∙ ask_planned c.args.self.now.state c.args.act.now.name (values (all c.args.self.now.state.objects) c.args.act.now.arguments) c.in_ok-told.told (receivers c.args.act.now.arguments) c.in_ok-told.receivers c.args.at.now (option_copied c.get-found.result) c.from_vec.result (search rules) told (search rules) (search rules)
