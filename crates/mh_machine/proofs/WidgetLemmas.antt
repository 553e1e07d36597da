-- What a plan makes of a state, of a widget or of who interacts, is what the rule of its action makes.
use Rattle.std.specs.Prelude.{◌≡◌, ◌+◌, Bool, true, false, not, ◌&&◌, if◌then◌else◌, List, [], ◌∷◌, ◌++◌, drop, Option, Some, None, refl}
use Rattle.std.proofs.Common.{ap, ◌∙◌}
use Rattle.mh_base.specs.declared.obj_ref.ObjRef.{ObjRef}
use Rattle.mh_base.specs.declared.value.Value.{Value}
use Rattle.mh_base.specs.declared.value.Value.TheVariants as value
use Rattle.mh_group.specs.declared.action_name.ActionName.{ActionName}
use Rattle.mh_group.specs.declared.action_name.ActionName.TheVariants as action
use Rattle.mh_group.specs.declared.written.Position.{Position}
use Rattle.mh_group.specs.Table.{is_visible}
use Rattle.mh_model.specs.declared.edit.Edit.{Edit}
use Rattle.mh_model.specs.declared.interaction.Interaction.{Interaction}
use Rattle.mh_model.specs.declared.item.Item.{Item}
use Rattle.mh_model.specs.declared.key.Key.{Key}
use Rattle.mh_model.specs.declared.object.Body.{Body}
use Rattle.mh_model.specs.declared.object.Object.{Object}
use Rattle.mh_model.specs.Bodies.{text_of}
use Rattle.mh_model.specs.Edits.{edited_if}
use Rattle.mh_model.specs.EntryFields.{pressed_of}
use Rattle.mh_model.specs.Lifecycle.{is_visible_at}
use Rattle.mh_model.specs.Rules.{all_placed, changed, filled, interact_rule, interaction_set, widget_at, widget_rule}
use Rattle.mh_model.specs.Saying.{interaction_items}
use Rattle.mh_model.specs.Service.{object_at}
use Rattle.mh_model.specs.State.{State, all}
use Rattle.mh_model.specs.Step.{pressed_at}
use Rattle.mh_model.specs.Worked.{worked, is_interacting}
use Rattle.mh_widgets.specs.Does.{placed_with, placed_by}
use Rattle.mh_work.specs.declared.batch.Batch.{Batch}
use Rattle.mh_machine.specs.declared.plan.Awaiting.TheVariants as awaiting
use Rattle.mh_machine.specs.declared.plan.Change.{Change}
use Rattle.mh_machine.specs.declared.plan.Change.TheVariants as change
use Rattle.mh_machine.specs.declared.plan.Gift.{Gift}
use Rattle.mh_machine.specs.declared.plan.Interacting.{Interacting}
use Rattle.mh_machine.specs.declared.plan.Interacting.TheVariants as interacting
use Rattle.mh_machine.specs.declared.plan.Stacking.TheVariants as stacking
use Rattle.mh_work.specs.Batches.{written}
use Rattle.mh_machine.specs.Plans.{changed_as, change_at, change_with, given_all, gifts, interacted, interacting_as, plan_of, committed, taken_from}
use Rattle.mh_machine.specs.Taking.{shifted}
use Rattle.mh_machine.proofs.ChangeLemmas.{makes_edit}
use Rattle.mh_machine.proofs.PlacingLemmas.{placing_if}
use Rattle.mh_machine.proofs.PlanLemmas.{given_gifts}

pub widget_planned : (s : State) (n : ActionName) (vs : List Value) (r : ObjRef) (o : Object) (m : Option Edit) (ps : List (ObjRef × Position)) (is : List Item) (c : Change) (batches : List Batch) → Some o ≡ object_at r (all s.objects) → edited_if m o.fixed o.body ≡ (worked n vs r o.fixed o.body).body → ps ≡ (worked n vs r o.fixed o.body).placed → is ≡ (worked n vs r o.fixed o.body).items → ps ≡ placed_with m ps → ps ≡ placed_by ps (is_visible o.fixed.class) → c ≡ change_with r m ps → written batches ≡ is → committed (plan_of c stacking.Same awaiting.Same batches) s ≡ widget_rule n vs r (taken_from s)
widget_planned s n vs r o m ps is c batches here body placed items edit unseen is_change is_put =
    let behind : Body = (worked n vs r o.fixed o.body).body in
    let objects : changed_as c s.objects ≡ all_placed (worked n vs r o.fixed o.body).placed (changed (λ p b. behind) r s.objects) =
    ap (λ (y : Change). changed_as y s.objects) is_change
    ∙ placing_if r m ps s.objects edit (unseen ∙ ap (λ (x : Option Object). placed_by ps (is_visible_at x)) here)
    ∙ ap (all_placed ps) (makes_edit (λ p b. behind) r o m body s.objects here)
    ∙ ap (λ (qs : List (ObjRef × Position)). all_placed qs (changed (λ p b. behind) r s.objects)) placed in
    let work : written batches ++ drop 1 s.work ≡ (worked n vs r o.fixed o.body).items ++ drop 1 s.work = ap (λ (x : List Item). x ++ drop 1 s.work) (is_put ∙ items) in
    (λ i. record s { objects = objects i; work = work i; taken = s.taken + 1 })
    ∙ ap (λ (x : Option Object). widget_at n vs r x (taken_from s)) here

-- where there is no object nothing is done
pub widget_absent : (s : State) (n : ActionName) (vs : List Value) (r : ObjRef) → None ≡ object_at r (all s.objects) → taken_from s ≡ widget_rule n vs r (taken_from s)
widget_absent s n vs r here = ap (λ (x : Option Object). widget_at n vs r x (taken_from s)) here

-- Interaction

set_as : (vs : List Value) (r : ObjRef) (o : Option Object) (i : Option Interaction) → interacted (interacting_as vs (is_interacting r i) r o) i ≡ interaction_set vs r o i
set_as [] r o i = refl
set_as (value.Bool true ∷ []) r None i = refl
set_as (value.Bool true ∷ []) r (Some o) i = by (o.body.running && not (is_interacting r i))
  where
    by : (b : Bool) → interacted (if b then interacting.Begins (record { object = r; before = text_of o.body }) else interacting.Same) i ≡ (if b then Some (record { object = r; before = text_of o.body }) else i)
    by true = refl
    by false = refl
set_as (value.Bool false ∷ []) r o i = refl
set_as (value.Int n ∷ []) r o i = refl
set_as (value.Octets os ∷ []) r o i = refl
set_as (value.Object q ∷ []) r o i = refl
set_as (value.Content name ∷ []) r o i = refl
set_as (value.Bool true ∷ v ∷ vs) r o i = refl
set_as (value.Bool false ∷ v ∷ vs) r o i = refl
set_as (value.Int n ∷ v ∷ vs) r o i = refl
set_as (value.Octets os ∷ v ∷ vs) r o i = refl
set_as (value.Object q ∷ v ∷ vs) r o i = refl
set_as (value.Content name ∷ v ∷ vs) r o i = refl

pub interaction_planned : (s : State) (vs : List Value) (rs : List ObjRef) (r : ObjRef) (found : Option Object) (b : Bool) (x : Interacting) (batches : List Batch) → found ≡ object_at r (all s.objects) → b ≡ is_interacting r s.interaction → x ≡ interacting_as vs b r found → written batches ≡ interaction_items vs b r → committed (record (plan_of change.Nothing stacking.Same awaiting.Same batches) { interacting = x }) s ≡ interact_rule action.SetInteractionStatus vs rs r (taken_from s)
interaction_planned s vs rs r found b x batches here is_interacting_now is_x is_put =
    let interaction : interacted x s.interaction ≡ interaction_set vs r (object_at r (all s.objects)) s.interaction =
    ap (λ (y : Interacting). interacted y s.interaction) is_x
    ∙ ap (λ (t : Bool). interacted (interacting_as vs t r found) s.interaction) is_interacting_now
    ∙ set_as vs r found s.interaction
    ∙ ap (λ (o : Option Object). interaction_set vs r o s.interaction) here in
    let work : written batches ++ drop 1 s.work ≡ interaction_items vs (is_interacting r s.interaction) r ++ drop 1 s.work =
    ap (λ (y : List Item). y ++ drop 1 s.work) (is_put ∙ ap (λ (t : Bool). interaction_items vs t r) is_interacting_now) in
    λ i. record s { interaction = interaction i; work = work i; taken = s.taken + 1 }

pub interaction_asked : (s : State) (vs : List Value) (rs receivers : List ObjRef) (r : ObjRef) (b : Bool) (gs : List Gift) → b ≡ is_interacting r s.interaction → receivers ≡ rs → gs ≡ gifts receivers (value.Bool b ∷ []) → committed (plan_of (change.Give gs) stacking.Same awaiting.Same []) s ≡ interact_rule action.GetInteractionStatus vs rs r (taken_from s)
interaction_asked s vs rs receivers r b gs is_interacting_now is_receivers are_gifts =
    let objects : given_all gs s.objects ≡ filled rs (value.Bool (is_interacting r s.interaction) ∷ []) s.objects =
    ap (λ (x : List Gift). given_all x s.objects) are_gifts ∙ given_gifts receivers (value.Bool b ∷ []) s.objects
    ∙ ap (λ (x : List ObjRef). filled x (value.Bool b ∷ []) s.objects) is_receivers
    ∙ ap (λ (t : Bool). filled rs (value.Bool t ∷ []) s.objects) is_interacting_now in
    λ i. record s { objects = objects i; work = drop 1 s.work; taken = s.taken + 1 }

-- a key, to the object that interacts
pub pressed_planned : (s : State) (k : Key) (begun : Interaction) (o : Object) (m : Option Edit) (is : List Item) (ends : Bool) → Some o ≡ object_at begun.object (all s.objects) → edited_if m o.fixed o.body ≡ (pressed_of o.fixed.class k begun.before begun.object o.fixed o.body).body → is ≡ (pressed_of o.fixed.class k begun.before begun.object o.fixed o.body).items → ends ≡ (pressed_of o.fixed.class k begun.before begun.object o.fixed o.body).ends → record (shifted s) { objects = changed_as (change_at begun.object m) s.objects; interaction = if ends then None else s.interaction; work = is } ≡ pressed_at k begun (object_at begun.object (all s.objects)) (shifted s)
pressed_planned s k begun o m is ends here body items ends_as =
    let objects : changed_as (change_at begun.object m) s.objects ≡ changed (λ p b. (pressed_of o.fixed.class k begun.before begun.object o.fixed o.body).body) begun.object s.objects =
    makes_edit (λ p b. (pressed_of o.fixed.class k begun.before begun.object o.fixed o.body).body) begun.object o m body s.objects here in
    let interaction : (if ends then None else s.interaction) ≡ (if (pressed_of o.fixed.class k begun.before begun.object o.fixed o.body).ends then None else s.interaction) =
    ap (λ (t : Bool). if t then None else s.interaction) ends_as in
    (λ i. record (shifted s) { objects = objects i; interaction = interaction i; work = items i })
    ∙ ap (λ (x : Option Object). pressed_at k begun x (shifted s)) here
