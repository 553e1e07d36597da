use Rattle.std.proofs.Common.{rules, ap, ◌∙◌}
use Rattle.mh_model.specs.Arguments.{values, receivers}
use Rattle.mh_model.specs.State.{all}
use Rattle.mh_machine.specs.declared.plan.Plan.{Plan}
use Rattle.mh_machine.specs.Plans.{committed}
use Rattle.mh_machine.proofs.WidgetLemmas.{interaction_asked}
use Rattle.mh_machine.proofs.works.Works.plan_interaction_asked.Goals as goal

pub returns : goal.returns
returns c =
    ap (λ (p : Plan). committed p c.args.self.now.state) c.changing.ensures
    ∙ interaction_asked c.args.self.now.state (values (all c.args.self.now.state.objects) c.args.act.now.arguments) (receivers c.args.act.now.arguments) c.in_ok-receivers.receivers c.args.at.now
    c.is_interacting.result c.from_vec.result (search rules) (search rules) (search rules)
