use Rattle.std.specs.Prelude.{◌≡◌, List}
use Rattle.std.proofs.Common.{rules, ap, ◌∙◌}
use Rattle.mh_model.specs.declared.act.Argument.{Argument}
use Rattle.mh_model.specs.Arguments.{values}
use Rattle.mh_model.specs.Faults.{passed}
use Rattle.mh_model.specs.Programs.{ins}
use Rattle.mh_model.specs.State.{Objects, all}
use Rattle.mh_machine.specs.declared.plan.Plan.{Plan}
use Rattle.mh_machine.specs.Plans.{committed}
use Rattle.mh_machine.proofs.PlanLemmas.{call_planned}
use Rattle.mh_machine.proofs.works.Works.plan_call.Goals as goal

pub returns : goal.returns
returns c =
    let here : c.objects-objects.result.now ≡ c.args.self.now.state.objects = search rules in
    let given : c.passed.result.now ≡ passed c.args.act.now.arguments = search rules in
    let go_in = c.in_ok-ins.ensures
    ∙ ap (λ (os : Objects). values (all os) (ins c.params_at-params.result.now c.passed.result.now)) here
    ∙ ap (λ (xs : List Argument). values (all c.args.self.now.state.objects) (ins c.params_at-params.result.now xs)) given in
    ap (λ (p : Plan). committed p c.args.self.now.state) c.of.ensures
    ∙ call_planned c.args.self.now.state c.args.act.now.name c.args.act.now.arguments c.args.at.now c.builtin_at-which.result
    c.params_at-params.result.now c.in_ok-ins.ins.items c.in_ok-said.said.items c.in_ok-said.receivers.items c.from_vec.result c.in_ok-gifts.batches.items
    (search rules) (search rules) go_in (search rules) (search rules) (search rules) (search rules)
