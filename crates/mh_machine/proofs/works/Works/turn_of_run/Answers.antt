use Rattle.std.specs.Prelude.{◌≡◌, ℕ, Bool, List, Option, Some}
use Rattle.std.specs.Option.{is_some, option_copied}
use Rattle.std.proofs.Common.{rules, ap, refl, ◌∙◌, sym}
use Rattle.mh_model.specs.declared.edit.Edit.TheVariants as edit
use Rattle.mh_model.specs.Lifecycle.{lacking_at, loaded_at, is_unprepared_at}
use Rattle.mh_work.specs.Loading.{run_told}
use Rattle.mh_machine.specs.Plans.{change_with, wait_if}
use Rattle.mh_machine.specs.Working.{Working}
use Rattle.mh_machine.proofs.PlanLemmas.{run_planned, some_copied}
use Rattle.mh_machine.proofs.works.Works.turn_of_run.Goals as goal

pub returns : goal.returns
returns c =
    let lacks = c.lacking.ensures ∙ ap (λ (w : Working). lacking_at w.state.files (option_copied c.get-found.result)) c.self.view_is in
    let text = c.in_ok-text.ensures ∙ c.loaded-text.ensures ∙ ap (λ (w : Working). loaded_at w.state.files (option_copied c.get-found.result)) c.self.view_is in
    let becomes : c.is_unprepared-becomes.result ≡ is_unprepared_at (option_copied c.get-found.result) = search rules in
    let waits = c.in_ok-awaiting.ensures
    ∙ ap (λ (m : Option (List ℕ)). wait_if c.is_unprepared-becomes.result c.args.at.now m) lacks
    ∙ ap (λ (b : Bool). wait_if b c.args.at.now (lacking_at c.args.self.now.state.files (option_copied c.get-found.result))) becomes in
    let there : c.is_some.result ≡ is_some c.in_ok-text.text = c.is_some.ensures ∙ some_copied c.loaded-text.result ∙ ap (λ (m : Option (List ℕ)). is_some m) (sym c.in_ok-text.ensures) in
    let told = c.in_ok-batches.ensures ∙ ap (λ (b : Bool). run_told b c.args.at.now (option_copied c.get-found.result)) there in
    run_planned c.args.self.now.state c.args.at.now (option_copied c.get-found.result) c.in_ok-text.text c.in_ok-places.places.items
    (change_with c.args.at.now (Some (edit.Start c.in_ok-text.text)) c.in_ok-places.places.items) c.in_ok-stacking.stacking c.in_ok-awaiting.awaiting c.in_ok-batches.batches.items
    (search rules) text c.in_ok-places.ensures refl (search rules) waits told
