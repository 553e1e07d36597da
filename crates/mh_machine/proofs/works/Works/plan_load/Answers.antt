use Rattle.std.specs.Prelude.{◌≡◌, ◌&&◌, ℕ, Bool, List, Option}
use Rattle.std.specs.Option.{is_some, option_copied}
use Rattle.std.proofs.Common.{rules, ap, ◌∙◌}
use Rattle.mh_model.specs.Files.{comes_to, missing}
use Rattle.mh_model.specs.Lifecycle.{is_available_at}
use Rattle.mh_machine.specs.declared.plan.Change.TheVariants as change
use Rattle.mh_machine.specs.declared.plan.Plan.{Plan}
use Rattle.mh_model.specs.declared.edit.Edit.TheVariants as edit
use Rattle.mh_work.specs.Loading.{content_told}
use Rattle.mh_work.specs.Batches.{written}
use Rattle.mh_machine.specs.Plans.{committed, wait_if}
use Rattle.mh_machine.specs.Working.{Working}
use Rattle.mh_machine.proofs.PlanLemmas.{load_planned}
use Rattle.mh_machine.proofs.works.Works.plan_load.Goals as goal

pub returns : goal.returns
returns c =
    let text = c.comes_to-text.ensures ∙ ap (λ (w : Working). comes_to w.state.files c.args.content.now) c.self.view_is in
    let lacks = c.missing.ensures ∙ ap (λ (w : Working). missing w.state.files c.args.content.now) c.self.view_is in
    let there : c.is_available-is_there.result ≡ is_available_at (option_copied c.get.result) = search rules in
    let awaits : c.in_ok-awaiting.awaiting ≡ wait_if c.is_available-is_there.result c.args.at.now (option_copied c.missing.result) = search rules in
    let waits = awaits
    ∙ ap (λ (m : Option (List ℕ)). wait_if c.is_available-is_there.result c.args.at.now m) lacks
    ∙ ap (λ (b : Bool). wait_if b c.args.at.now (missing c.args.self.now.state.files c.args.content.now)) there in
    let tells : written c.in_ok-awaiting.batches.items ≡ content_told c.is_loaded.result c.args.at.now = search rules in
    let told = tells
    ∙ ap (λ (b : Bool). content_told b c.args.at.now) (c.is_loaded.ensures ∙ ap (λ (b : Bool). b && is_some (option_copied c.comes_to-text.result)) there) in
    let at : c.in_ok-awaiting.at ≡ c.args.at.now = search rules in
    let loads : c.in_ok-awaiting.edit ≡ edit.Load c.args.content.now (option_copied c.comes_to-text.result) = search rules in
    ap (λ (p : Plan). committed p c.args.self.now.state) c.of.ensures
    ∙ load_planned c.args.self.now.state c.args.content.now c.args.at.now (option_copied c.get.result) (option_copied c.comes_to-text.result)
    (change.Edit c.in_ok-awaiting.at c.in_ok-awaiting.edit) c.in_ok-awaiting.awaiting c.in_ok-awaiting.batches.items
    c.requires (search rules) text (λ i. change.Edit (at i) (loads i)) waits told
