use Rattle.std.specs.Prelude.{◌≡◌, Some, None}
use Rattle.std.proofs.Common.{rules, ◌∙◌}
use Rattle.mh_actions.specs.Content.{new_content}
use Rattle.mh_model.specs.Arguments.{values}
use Rattle.mh_model.specs.State.{all}
use Rattle.mh_machine.specs.Plans.{taken_from}
use Rattle.mh_machine.proofs.PlanLemmas.{load_some, load_none}
use Rattle.mh_machine.proofs.works.Works.do_load.Goals as goal

pub replace-requires-clause-loadable : goal.replace-requires-clause-loadable
replace-requires-clause-loadable c =
    let given : Some c.in-Some.content.now ≡ new_content (values (all c.args.self.now.state.objects) c.args.act.now.arguments) = search rules in
    load_some (values (all c.args.self.now.state.objects) c.args.act.now.arguments) c.in-Some.content.now given

pub returns-clause-done : goal.returns-clause-done
returns-clause-done c =
    let given : None ≡ new_content (values (all c.args.self.now.state.objects) c.args.act.now.arguments) = search rules in
    c.pass.ensures ∙ load_none (values (all c.args.self.now.state.objects) c.args.act.now.arguments) c.args.at.now (taken_from c.args.self.now.state) given
