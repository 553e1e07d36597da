use Rattle.std.specs.Prelude.{◌≡◌, ℕ, Bool, List, Option}
use Rattle.std.specs.Option.{option_copied}
use Rattle.std.proofs.Common.{rules, ap, ◌∙◌}
use Rattle.mh_model.specs.declared.edit.Edit.TheVariants as edit
use Rattle.mh_model.specs.Lifecycle.{lacking_at, is_unavailable_at}
use Rattle.mh_machine.specs.declared.plan.Change.TheVariants as change
use Rattle.mh_machine.specs.declared.plan.Plan.{Plan}
use Rattle.mh_machine.specs.Plans.{committed, wait_if}
use Rattle.mh_machine.specs.Working.{Working}
use Rattle.mh_machine.proofs.PlanLemmas.{prepare_planned}
use Rattle.mh_machine.proofs.works.Works.plan_prepare.Goals as goal

pub returns : goal.returns
returns c =
    let lacks = c.lacking.ensures ∙ ap (λ (w : Working). lacking_at w.state.files (option_copied c.get-found.result)) c.self.view_is in
    let becomes : c.is_unavailable-becomes.result ≡ is_unavailable_at (option_copied c.get-found.result) = search rules in
    let awaits : c.in_ok-batches.awaiting ≡ wait_if c.is_unavailable-becomes.result c.args.at.now (option_copied c.lacking.result) = search rules in
    let waits = awaits
    ∙ ap (λ (m : Option (List ℕ)). wait_if c.is_unavailable-becomes.result c.args.at.now m) lacks
    ∙ ap (λ (b : Bool). wait_if b c.args.at.now (lacking_at c.args.self.now.state.files (option_copied c.get-found.result))) becomes in
    ap (λ (p : Plan). committed p c.args.self.now.state) c.of.ensures
    ∙ prepare_planned c.args.self.now.state c.args.at.now (option_copied c.get-found.result) c.in_ok-batches.text
    (change.Edit c.in_ok-batches.at (edit.Prepare c.in_ok-batches.text)) c.in_ok-batches.stacking c.in_ok-batches.awaiting c.in_ok-batches.batches.items
    (search rules) (search rules) (search rules) (search rules) waits (search rules)
