-- What is described of an action is what its rule puts.
use Rattle.std.specs.Prelude.{◌≡◌, ℕ, Bool, true, false, not, if◌then◌else◌, ◌&&◌, List, [], ◌∷◌, ◌++◌, filter, reverse, Option, Some, None, refl}
use Rattle.std.specs.Option.{is_some}
use Rattle.std.proofs.Common.{ap, ◌∙◌, sym, subst}
use Rattle.mh_base.specs.declared.event.EventType.TheVariants as event
use Rattle.mh_base.specs.declared.obj_ref.ObjRef.{ObjRef}
use Rattle.mh_base.specs.declared.value.Value.{Value}
use Rattle.mh_group.specs.declared.action_name.ActionName.{ActionName}
use Rattle.mh_group.specs.declared.action_name.ActionName.TheVariants as action
use Rattle.mh_group.specs.declared.attribute.Attribute.{Attribute}
use Rattle.mh_group.specs.declared.attribute.Attribute.TheVariants as attribute
use Rattle.mh_group.specs.Table.{is_runnable}
use Rattle.mh_model.specs.declared.act.Act.{Act}
use Rattle.mh_model.specs.declared.act.Argument.{Argument}
use Rattle.mh_model.specs.declared.item.Item.{Item}
use Rattle.mh_model.specs.declared.item.Item.TheVariants as item
use Rattle.mh_model.specs.declared.object.Fixed.{Fixed}
use Rattle.mh_model.specs.declared.object.Object.{Object}
use Rattle.mh_model.specs.declared.sort.Sort.{Sort}
use Rattle.mh_model.specs.declared.sort.Sort.TheVariants as sort
use Rattle.mh_model.specs.Arguments.{values}
use Rattle.mh_laws.specs.Describing.{kinds, is_transition, items_by, way_in, PutsByItsRule}
use Rattle.mh_model.specs.Files.{comes_to, is_loadable}
use Rattle.mh_model.specs.Groups.{group_effect, effect_of, is_initially_active, is_shared, runs, halts, scene_closing, scene_halts, all_halts, unshared_halts, entering, leaving, quitting}
use Rattle.mh_model.specs.Items.{acts, plain_event}
use Rattle.mh_model.specs.Lifecycle.{is_available_at, emit_if}
use Rattle.mh_model.specs.Property.{as_effect, held}
use Rattle.mh_model.specs.Reference.{group_ref}
use Rattle.mh_model.specs.Rules.{rule_by, load_rule, loaded_with, widget_at, quit_before, way_out, transition_rule, is_begun, leads_to_late, begins_or_waits}
use Rattle.mh_model.specs.Saying.{put_items_at, load_items}
use Rattle.mh_model.specs.Service.{object_at, part_at, group_parts, with_parts}
use Rattle.mh_model.specs.Sort.{sort_of}
use Rattle.mh_model.specs.State.{State, all}
use Rattle.mh_model.specs.Worked.{is_interacting}

-- Actions, and objects that run or halt, emit nothing themselves.

silent_before : (is js : List Item) → kinds is ≡ [] → kinds (is ++ js) ≡ kinds js
silent_before [] js h = refl
silent_before (item.Emit e ∷ is) js h = absurd cc
silent_before (item.Act a ∷ is) js h = silent_before is js h
silent_before (item.Prepare a ∷ is) js h = silent_before is js h
silent_before (item.Run a ∷ is) js h = silent_before is js h
silent_before (item.Halt a ∷ is) js h = silent_before is js h
silent_before (item.RunMember a ∷ is) js h = silent_before is js h
silent_before (item.HaltMember a ∷ is) js h = silent_before is js h
silent_before (item.Drop a ∷ is) js h = silent_before is js h
silent_before (item.Enter g ∷ is) js h = silent_before is js h
silent_before (item.Exchange g ∷ is) js h = silent_before is js h
silent_before (item.End ∷ is) js h = silent_before is js h

silent_both : (is js : List Item) → kinds is ≡ [] → kinds js ≡ [] → kinds (is ++ js) ≡ []
silent_both is js h k = silent_before is js h ∙ k

acts_silent : (xs : List Act) → kinds (acts xs) ≡ []
acts_silent [] = refl
acts_silent (x ∷ xs) = acts_silent xs

effect_silent : (p : Option Fixed) (a : Attribute) → kinds (effect_of p a) ≡ []
effect_silent None a = refl
effect_silent (Some p) a = acts_silent (as_effect (held a p.properties))

runs_silent : (ps : List Fixed) → kinds (runs ps) ≡ []
runs_silent [] = refl
runs_silent (p ∷ ps) = runs_silent ps

halts_silent : (ps : List Fixed) → kinds (halts ps) ≡ []
halts_silent [] = refl
halts_silent (p ∷ ps) = halts_silent ps

-- a group that is entered tells of itself that it runs
pub entered_runs : (g : List ℕ) (ps : List Fixed) → kinds (entering g ps) ≡ event.IsRunning ∷ []
entered_runs g ps =
    silent_before (group_effect g ps attribute.OnStartUp ++ runs (filter is_initially_active ps)) (plain_event (group_ref g) event.IsRunning ∷ [])
    (silent_both (group_effect g ps attribute.OnStartUp) (runs (filter is_initially_active ps))
    (effect_silent (part_at (group_ref g) ps) attribute.OnStartUp) (runs_silent (filter is_initially_active ps)))

-- What is left closes down and halts.

closing_silent : (scene : Option (List ℕ × List Fixed)) → kinds (scene_closing scene) ≡ []
closing_silent None = refl
closing_silent (Some (g, ps)) = effect_silent (part_at (group_ref g) ps) attribute.OnCloseDown

scene_silent : (scene : Option (List ℕ × List Fixed)) → kinds (scene_halts scene) ≡ []
scene_silent None = refl
scene_silent (Some (g, ps)) = halts_silent (filter (λ p. is_runnable p.class) (reverse ps))

unshared_silent : (ps : List Fixed) → kinds (unshared_halts ps) ≡ []
unshared_silent ps = halts_silent (filter (λ p. is_runnable p.class && not (is_shared p)) (reverse ps))

all_silent : (ps : List Fixed) → kinds (all_halts ps) ≡ []
all_silent ps = halts_silent (filter (λ p. is_runnable p.class) (reverse ps))

abbrev Leads : List Item → List Item → Type 0
Leads is work = (left : List Item) × (kinds left ≡ []) × (work ≡ left ++ is)

leaving_leads : (ps : List Fixed) (scene : Option (List ℕ × List Fixed)) (g : List ℕ) → Leads (item.Exchange g ∷ []) (leaving ps scene g)
leaving_leads ps scene g = (
  scene_closing scene ++ scene_halts scene ++ unshared_halts ps,
  silent_both (scene_closing scene ++ scene_halts scene) (unshared_halts ps)
      (silent_both (scene_closing scene) (scene_halts scene) (closing_silent scene) (scene_silent scene)) (unshared_silent ps),
  refl,
)

quitting_leads : (g : List ℕ) (ps : List Fixed) (scene : Option (List ℕ × List Fixed)) (last : Item) → Leads (last ∷ []) (quitting g ps scene last)
quitting_leads g ps scene last =
    let closed = scene_closing scene ++ group_effect g ps attribute.OnCloseDown in (
      closed ++ scene_halts scene ++ all_halts ps,
      silent_both (closed ++ scene_halts scene) (all_halts ps)
          (silent_both closed (scene_halts scene)
          (silent_both (scene_closing scene) (group_effect g ps attribute.OnCloseDown) (closing_silent scene) (effect_silent (part_at (group_ref g) ps) attribute.OnCloseDown))
          (scene_silent scene)) (all_silent ps),
      refl,
    )

quits_leads : (s : State) (last : Item) → Leads (last ∷ []) (quit_before last s)
quits_leads s last =
    quitting_leads s.application (group_parts s.service s.application) (with_parts s.service s.scene) last

way_leads : (n : ActionName) (r : ObjRef) (s : State) → is_transition n ≡ true → Leads (way_in n r) (way_out n r s)
way_leads action.TransitionTo r s h = leaving_leads (group_parts s.service s.application) (with_parts s.service s.scene) r.group
way_leads action.Launch r s h = quits_leads s (item.Exchange r.group)
way_leads action.Quit r s h = quits_leads s item.End
way_leads _ r s h = absurd cc

-- The rules, by what kind of thing they do.

abbrev Stays : Sort → ActionName → List Argument → ObjRef → Object → State → Type 0
Stays k n xs r o s =
    (rule_by k n xs r s).work
    ≡ items_by k s.files (is_interacting r s.interaction) n (values (all s.objects) xs) r o ++ s.work

load_stays : (vs : List Value) (r : ObjRef) (o : Object) (s : State) → object_at r (all s.objects) ≡ Some o → (load_rule vs r s).work ≡ load_items s.files vs r (Some o) ++ s.work
load_stays [] r o s found = refl
load_stays (v ∷ []) r o s found = by (is_loadable v) refl
  where
    told : Bool → Option Object → List Item
    told b m = emit_if (b && is_available_at m && is_some (comes_to s.files v)) r event.ContentAvailable ++ s.work

    by : (b : Bool) → is_loadable v ≡ b → (if b then loaded_with v r s else s).work ≡ told b (Some o)
    by true h = ap (λ (b : Bool). told b (object_at r (all s.objects))) h ∙ ap (told true) found
    by false h = refl
load_stays (v ∷ w ∷ vs) r o s found = refl

interact_stays : (n : ActionName) (xs : List Argument) (r : ObjRef) (o : Object) (s : State) → Stays sort.Interact n xs r o s
interact_stays action.SetInteractionStatus xs r o s = refl
interact_stays action.GetInteractionStatus xs r o s = refl
interact_stays _ xs r o s = refl

whole_stays : (n : ActionName) (xs : List Argument) (r : ObjRef) (o : Object) (s : State) → is_transition n ≡ false → Stays sort.Whole n xs r o s
whole_stays action.TransitionTo xs r o s h = absurd cc
whole_stays action.Launch xs r o s h = absurd cc
whole_stays action.Quit xs r o s h = absurd cc
whole_stays action.LockScreen xs r o s h = refl
whole_stays action.UnlockScreen xs r o s h = refl
whole_stays action.SetTimer xs r o s h = refl
whole_stays _ xs r o s h = refl

sort_stays : (k : Sort) (n : ActionName) (xs : List Argument) (r : ObjRef) (o : Object) (s : State) → object_at r (all s.objects) ≡ Some o → is_transition n ≡ false → Stays k n xs r o s
sort_stays sort.Change n xs r o s found h = refl
sort_stays sort.Ask n xs r o s found h = refl
sort_stays sort.Put n xs r o s found h = ap (λ m. put_items_at n (values (all s.objects) xs) r m ++ s.work) found
sort_stays sort.Load n xs r o s found h = load_stays (values (all s.objects) xs) r o s found
sort_stays sort.Call n xs r o s found h = refl
sort_stays sort.Order n xs r o s found h = refl
sort_stays sort.Widget n xs r o s found h = ap (λ m. (widget_at n (values (all s.objects) xs) r m s).work) found
sort_stays sort.Interact n xs r o s found h = interact_stays n xs r o s
sort_stays sort.Whole n xs r o s found h = whole_stays n xs r o s h

-- a transition, where one has begun, and where none has

abbrev Begun : ActionName → List Argument → ObjRef → State → Type 0
Begun n xs r s = (rule_by (sort_of n) n xs r s).work ≡ s.work

work_of : (n : ActionName) (r : ObjRef) (s : State) → is_begun s.transition ≡ true → (transition_rule n r s).work ≡ s.work
work_of n r s b = ap (λ (t : Bool). (if t then s else begins_or_waits (leads_to_late n r s) n r s).work) b

-- one that waits
waiting_keeps : (n : ActionName) (xs : List Argument) (r : ObjRef) (s : State) → leads_to_late n r s ≡ true → Begun n xs r s
waiting_keeps action.TransitionTo xs r s late = by (is_begun s.transition) ∙ ap (λ (t : Bool). (begins_or_waits t action.TransitionTo r s).work) late
  where
    -- whether one has begun or not
    by : (t : Bool) → (if t then s else begins_or_waits (leads_to_late action.TransitionTo r s) action.TransitionTo r s).work ≡ (begins_or_waits (leads_to_late action.TransitionTo r s) action.TransitionTo r s).work
    by true = sym (ap (λ (t : Bool). (begins_or_waits t action.TransitionTo r s).work) late)
    by false = refl
waiting_keeps _ xs r s late = absurd cc

begun_keeps : (n : ActionName) (xs : List Argument) (r : ObjRef) (s : State) → is_transition n ≡ true → is_begun s.transition ≡ true → Begun n xs r s
begun_keeps action.TransitionTo xs r s h b = work_of action.TransitionTo r s b
begun_keeps action.Launch xs r s h b = work_of action.Launch r s b
begun_keeps action.Quit xs r s h b = work_of action.Quit r s b
begun_keeps _ xs r s h b = absurd cc

leads_by : (n : ActionName) (r : ObjRef) (s : State) → is_transition n ≡ true → is_begun s.transition ≡ false → leads_to_late n r s ≡ false → Leads (way_in n r) (transition_rule n r s).work
leads_by n r s h b late =
    subst (λ (t : Bool). Leads (way_in n r) (if t then s else begins_or_waits (leads_to_late n r s) n r s).work) (sym b)
    (subst (λ (t : Bool). Leads (way_in n r) (begins_or_waits t n r s).work) (sym late) (way_leads n r s h))

leads_to : (n : ActionName) (xs : List Argument) (r : ObjRef) (o : Object) (s : State) → is_transition n ≡ true → is_begun s.transition ≡ false → leads_to_late n r s ≡ false → Leads (items_by (sort_of n) s.files (is_interacting r s.interaction) n (values (all s.objects) xs) r o) (rule_by (sort_of n) n xs r s).work
leads_to action.TransitionTo xs r o s h b late = leads_by action.TransitionTo r s refl b late
leads_to action.Launch xs r o s h b late = leads_by action.Launch r s refl b late
leads_to action.Quit xs r o s h b late = leads_by action.Quit r s refl b late
leads_to _ xs r o s h b late = absurd cc

pub rules_put : PutsByItsRule
rules_put n xs r o s found = record {
  stays = sort_stays (sort_of n) n xs r o s found;
  begun = begun_keeps n xs r s;
  waits = waiting_keeps n xs r s;
  leads = leads_to n xs r o s;
}
