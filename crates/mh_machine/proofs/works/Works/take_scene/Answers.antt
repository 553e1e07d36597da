use Rattle.std.specs.Prelude.{◌≡◌, ℕ, Bool, true, if◌then◌else◌, List, refl}
use Rattle.std.proofs.Common.{rules, ap, ◌∙◌, sym}
use Rattle.mh_group.specs.declared.action_name.ActionName.TheVariants as action
use Rattle.mh_model.specs.declared.item.Item.{Item}
use Rattle.mh_model.specs.declared.transition.Transition.TheVariants as transition
use Rattle.mh_model.specs.Reference.{group_ref}
use Rattle.mh_model.specs.Rules.{begins, way_out}
use Rattle.mh_model.specs.State.{State}
use Rattle.mh_model.specs.Step.{awaits, scene_arrived, scene_taken}
use Rattle.mh_machine.specs.Plans.{taken_from}
use Rattle.mh_machine.specs.Taking.{shifted}
use Rattle.mh_machine.proofs.works.Works.take_scene.Goals as goal

-- the transition that waits for this scene begins
awaited_begins : (g : List ℕ) (s : State) (work : List Item) → awaits g s.transition ≡ true → work ≡ way_out action.TransitionTo (group_ref g) (taken_from s) → record (scene_arrived g (shifted s)) { transition = transition.Begun; work = work } ≡ scene_taken g (shifted s)
awaited_begins g s work waits is =
    (λ i. record (scene_arrived g (shifted s)) { transition = transition.Begun; work = is i })
    ∙ sym (ap (λ (b : Bool). if b then begins action.TransitionTo (group_ref g) (scene_arrived g (shifted s)) else scene_arrived g (shifted s)) waits)

pub returns-clause-done : goal.returns-clause-done
returns-clause-done c =
    c.take_arrived-2.ensures
    ∙ ap (λ (s : State). scene_arrived c.args.scene.now (shifted s)) c.begin.ensures
    ∙ awaited_begins c.args.scene.now c.args.self.now.state c.in_ok-work.work.items (search rules) (c.in_ok-work.ensures (group_ref c.args.scene.now) refl)
