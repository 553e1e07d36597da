-- The steps of a run: at most what the start costs, and the bounds of the inputs that were accepted.
use Rattle.std.specs.Option.{option_map_or}
use Rattle.std.specs.Prelude.{◌++◌, ◌+◌, ◌∷◌, ◌≡◌, ◌≤◌, Bool, List, None, Option, Some, [], drop, false, if◌then◌else◌, slice_get, true, ℕ}
use Rattle.std.proofs.Common.{ap, arith, refl, subst, sym}
use Rattle.mh_base.specs.Event.{is_sync}
use Rattle.mh_base.specs.declared.obj_ref.ObjRef.{ObjRef}
use Rattle.mh_base.specs.declared.value.Value.{Value}
use Rattle.mh_group.specs.Table.{is_application}
use Rattle.mh_group.specs.declared.action_name.ActionName.{ActionName}
use Rattle.mh_group.specs.declared.action_name.ActionName.TheVariants as action
use Rattle.mh_model.specs.declared.act.Argument.{Argument}
use Rattle.mh_model.specs.declared.event.Event.{Event}
use Rattle.mh_model.specs.declared.fault.Fault.{Fault}
use Rattle.mh_model.specs.declared.input.Input.{Input}
use Rattle.mh_model.specs.declared.input.Input.TheVariants as input
use Rattle.mh_model.specs.declared.input.Obstacle.{Obstacle}
use Rattle.mh_model.specs.declared.input.Waiting.{Waiting}
use Rattle.mh_model.specs.declared.input.Waiting.TheVariants as waiting
use Rattle.mh_model.specs.declared.interaction.Interaction.{Interaction}
use Rattle.mh_model.specs.declared.item.Item.{Item}
use Rattle.mh_model.specs.declared.item.Item.TheVariants as item
use Rattle.mh_model.specs.declared.key.Key.{Key}
use Rattle.mh_model.specs.declared.object.Object.{Object}
use Rattle.mh_model.specs.declared.program.Outcome.{Outcome}
use Rattle.mh_model.specs.declared.sort.Sort.{Sort}
use Rattle.mh_model.specs.declared.sort.Sort.TheVariants as sort
use Rattle.mh_model.specs.Arguments.{receivers, referred, values}
use Rattle.mh_model.specs.Configuration.{is_group_of}
use Rattle.mh_model.specs.Files.{is_loadable}
use Rattle.mh_model.specs.Items.{heard}
use Rattle.mh_model.specs.Receiver.{told}
use Rattle.mh_model.specs.Reference.{group_ref}
use Rattle.mh_model.specs.Rules.{act_on, application_exchanged, begins, begins_or_waits, emitted, exchange_rule, is_begun, interact_rule, leads_to_late, load_rule, loaded_with, rule, rule_by, scene_exchanged, transition_rule, whole_rule, widget_at}
use Rattle.mh_model.specs.Service.{object_at}
use Rattle.mh_model.specs.Sort.{sort_of}
use Rattle.mh_model.specs.State.{State, all}
use Rattle.mh_model.specs.Step.{awaits, scene_arrived, did, done, key_taken, posted, posted_by, pressed_at, step, step_by, taking, took}
use Rattle.mh_model.specs.Stuck.{stuck}
use Rattle.mh_laws.specs.Budget.{AreBounds, Bounds, bound_of, paid_unless, queue_cost}
use Rattle.mh_laws.specs.Flow.{Flow}
use Rattle.mh_laws.proofs.ActCostLemmas.{done_falls}
use Rattle.mh_laws.proofs.ItemCostLemmas.{IsReadyItem, Ready, queue_append}
use Rattle.mh_laws.proofs.TakenCostLemmas.{Attends, IsFromHere, took_falls}
use Rattle.mh_laws.specs.Weighing.{left, Weights}

-- the steps taken, and those that are still to be paid for
abbrev pub spent : Flow → Weights → Bounds → State → ℕ
spent w f b s = s.taken + left w f b s

-- What the law of safety gives: from something that holds of a state all is known that a step of it needs.
pub record IsReadied (w : Flow) (f : Weights) (b : Bounds) (Safe : State → Type 0) : Type 0 where
  pub ready : (s : State) → Safe s → Ready w f s
  pub attends : (s : State) → Safe s → Attends w s
  pub bounds : (s : State) → Safe s → AreBounds s.service w f.cost b
  pub item : (s : State) → Safe s → (i : Item) → slice_get s.work 0 ≡ Some i → IsReadyItem w f s i
  pub free : (s : State) → Safe s → (i : Item) → slice_get s.work 0 ≡ Some i → stuck i s ≡ None
  pub waits : (s : State) → Safe s → (x : Waiting) → slice_get s.queue 0 ≡ Some x → IsFromHere f s x

-- and it holds of each state of a run
pub record IsKept (w : Flow) (f : Weights) (b : Bounds) (Safe : State → Type 0) : Type 0 where
  pub readied : IsReadied w f b Safe
  pub told : (s : State) → Safe s → (o : Outcome) → Safe (told o s)
  pub stepped : (s : State) → Safe s → Safe (step s)
  pub posted : (s : State) → Safe s → (i : Input) → Safe (posted i s)

-- the first of a list, and the rest
in_front : {X : Type 0} (xs : List X) (x : X) → slice_get xs 0 ≡ Some x → xs ≡ x ∷ drop 1 xs
in_front {X} [] x e = absurd cc
in_front {X} (y ∷ xs) x e = ap (λ (z : X). z ∷ xs) (ap (λ (m : Option X). option_map_or (λ (z : X). z) m x) e)

none_there : {X : Type 0} (xs : List X) → slice_get xs 0 ≡ None → xs ≡ []
none_there {X} [] e = refl
none_there {X} (y ∷ xs) e = absurd cc

counted : (t a b : ℕ) → 1 + a ≤ b → t + 1 + a ≤ t + b
counted t a b h = omega (arith, h)

-- the step counts one
done_spent : (w : Flow) (f : Weights) (b : Bounds) (s : State) (i : Item) → (done i s).taken ≡ s.taken + 1 → 1 + left w f b (done i s) ≤ left w f b s → spent w f b (done i s) ≤ spent w f b s
done_spent w f b s i e h = omega (arith, e, h)

took_spent : (w : Flow) (f : Weights) (b : Bounds) (s : State) (x : Waiting) → (took x s).taken ≡ s.taken + 1 → 1 + left w f b (took x s) ≤ left w f b s → spent w f b (took x s) ≤ spent w f b s
took_spent w f b s x e h = omega (arith, e, h)

-- A rule counts no step of its own, and leaves the service as it is.

-- the steps taken and the service stay
abbrev Leaves : State → State → Type 0
Leaves s t = (t.taken ≡ s.taken) × (t.service ≡ s.service)

load_leaves : (vs : List Value) (r : ObjRef) (s : State) → Leaves s (load_rule vs r s)
load_leaves [] r s = (refl, refl)
load_leaves (v ∷ x ∷ vs) r s = (refl, refl)
load_leaves (v ∷ []) r s = by (is_loadable v)
  where
    by : (t : Bool) → Leaves s (if t then loaded_with v r s else s)
    by true = (refl, refl)
    by false = (refl, refl)

widget_leaves : (n : ActionName) (vs : List Value) (r : ObjRef) (m : Option Object) (s : State) → Leaves s (widget_at n vs r m s)
widget_leaves n vs r None s = (refl, refl)
widget_leaves n vs r (Some o) s = (refl, refl)

interact_leaves : (n : ActionName) (vs : List Value) (rs : List ObjRef) (r : ObjRef) (s : State) → Leaves s (interact_rule n vs rs r s)
interact_leaves action.SetInteractionStatus vs rs r s = (refl, refl)
interact_leaves action.GetInteractionStatus vs rs r s = (refl, refl)
interact_leaves _ vs rs r s = (refl, refl)

transition_leaves : (n : ActionName) (r : ObjRef) (s : State) → Leaves s (transition_rule n r s)
transition_leaves n r s = by (is_begun s.transition) (leads_to_late n r s)
  where
    by : (b late : Bool) → Leaves s (if b then s else begins_or_waits late n r s)
    by true late = (refl, refl)
    by false true = (refl, refl)
    by false false = (refl, refl)

whole_leaves : (n : ActionName) (vs : List Value) (r : ObjRef) (s : State) → Leaves s (whole_rule n vs r s)
whole_leaves action.TransitionTo vs r s = transition_leaves action.TransitionTo r s
whole_leaves action.Launch vs r s = transition_leaves action.Launch r s
whole_leaves action.Quit vs r s = transition_leaves action.Quit r s
whole_leaves action.LockScreen vs r s = (refl, refl)
whole_leaves action.UnlockScreen vs r s = (refl, refl)
whole_leaves action.SetTimer vs r s = (refl, refl)
whole_leaves _ vs r s = (refl, refl)

sort_leaves : (o : Sort) (n : ActionName) (xs : List Argument) (r : ObjRef) (s : State) → Leaves s (rule_by o n xs r s)
sort_leaves sort.Change n xs r s = (refl, refl)
sort_leaves sort.Ask n xs r s = (refl, refl)
sort_leaves sort.Put n xs r s = (refl, refl)
sort_leaves sort.Load n xs r s = load_leaves (values (all s.objects) xs) r s
sort_leaves sort.Call n xs r s = (refl, refl)
sort_leaves sort.Order n xs r s = (refl, refl)
sort_leaves sort.Widget n xs r s = widget_leaves n (values (all s.objects) xs) r (object_at r (all s.objects)) s
sort_leaves sort.Interact n xs r s = interact_leaves n (values (all s.objects) xs) (receivers xs) r s
sort_leaves sort.Whole n xs r s = whole_leaves n (values (all s.objects) xs) r s

act_leaves : (m : Option ObjRef) (n : ActionName) (xs : List Argument) (s : State) → Leaves s (act_on m n xs s)
act_leaves None n xs s = (refl, refl)
act_leaves (Some r) n xs s = sort_leaves (sort_of n) n xs r s

emit_leaves : (e : Event) (s : State) → Leaves s (emitted e s)
emit_leaves e s = by (is_sync e.kind)
  where
    by : (t : Bool) → Leaves s (if t then record s { work = heard e (all s.objects) ++ s.work } else record s { queue = s.queue ++ waiting.Event e ∷ [] })
    by true = (refl, refl)
    by false = (refl, refl)

exchange_leaves : (g : List ℕ) (s : State) → Leaves s (exchange_rule g s)
exchange_leaves g s = by (is_group_of is_application s.service g)
  where
    by : (t : Bool) → Leaves s (if t then application_exchanged g s else scene_exchanged g s)
    by true = (refl, refl)
    by false = (refl, refl)

rule_leaves : (i : Item) (s : State) → Leaves s (rule i s)
rule_leaves (item.Act a) s = act_leaves (referred a.target (all s.objects)) a.name a.arguments s
rule_leaves (item.Emit e) s = emit_leaves e s
rule_leaves (item.Exchange g) s = exchange_leaves g s
rule_leaves _ s = (refl, refl)

pub done_counts : (i : Item) (s : State) → (done i s).taken ≡ s.taken + 1
done_counts i s = (rule_leaves i (record s { work = drop 1 s.work; taken = s.taken + 1 })).0

pub done_serves : (i : Item) (s : State) → (done i s).service ≡ s.service
done_serves i s = (rule_leaves i (record s { work = drop 1 s.work; taken = s.taken + 1 })).1

key_leaves : (x : Key) (m : Option Interaction) (s : State) → Leaves s (key_taken x m s)
key_leaves x None s = (refl, refl)
key_leaves x (Some i) s = by (object_at i.object (all s.objects))
  where
    by : (m : Option Object) → Leaves s (pressed_at x i m s)
    by None = (refl, refl)
    by (Some o) = (refl, refl)

taking_leaves : (x : Waiting) (s : State) → Leaves s (taking x s)
taking_leaves (waiting.Event e) s = (refl, refl)
taking_leaves (waiting.Input (input.Key x)) s = key_leaves x s.interaction s
taking_leaves (waiting.Input (input.Tick n)) s = (refl, refl)
taking_leaves (waiting.Input (input.Stream n)) s = (refl, refl)
taking_leaves (waiting.Input (input.Engine n)) s = (refl, refl)
taking_leaves (waiting.Input (input.Arrive f)) s = (refl, refl)
taking_leaves (waiting.Input (input.Scene g x)) s = by (awaits g s.transition)
  where
    by : (b : Bool) → Leaves s (if b then begins action.TransitionTo (group_ref g) (scene_arrived g s) else scene_arrived g s)
    by true = (refl, refl)
    by false = (refl, refl)

pub took_counts : (x : Waiting) (s : State) → (took x s).taken ≡ s.taken + 1
took_counts x s = (taking_leaves x (record s { queue = drop 1 s.queue; taken = s.taken + 1 })).0

pub took_serves : (x : Waiting) (s : State) → (took x s).service ≡ s.service
took_serves x s = (taking_leaves x (record s { queue = drop 1 s.queue; taken = s.taken + 1 })).1

pub step_spent : (w : Flow) (f : Weights) (b : Bounds) (Safe : State → Type 0) → IsReadied w f b Safe → (s : State) → Safe s → spent w f b (step s) ≤ spent w f b s
step_spent w f b Safe k s safe = unless_ended s.ended
  where
    same : (n : ℕ) → n ≤ n
    same n = omega arith

    by : (m : Option Item) (x : Option Waiting) → slice_get s.work 0 ≡ m → slice_get s.queue 0 ≡ x → spent w f b (step_by m x s) ≤ spent w f b s
    by None None e h = same _
    by None (Some x) e h =
        let queue : s.queue ≡ x ∷ drop 1 s.queue = in_front s.queue x h in
        let work : s.work ≡ [] = none_there s.work e in
        let falls = took_falls w f b s (k.ready s safe) (k.attends s safe) (k.bounds s safe) x (drop 1 s.queue) work queue (k.waits s safe x h) in
        let now : queue_cost s.service w f.cost b s.queue ≡ queue_cost s.service w f.cost b (x ∷ drop 1 s.queue) = ap (queue_cost s.service w f.cost b) queue in
        took_spent w f b s x (took_counts x s) (omega (arith, falls, now))
    by (Some i) x e h =
        let falls = done_falls w f b s (k.ready s safe) i (drop 1 s.work) (in_front s.work i e) (k.item s safe i e) in
        subst (λ (m : Option Fault). spent w f b (did m i s) ≤ spent w f b s) (sym (k.free s safe i e)) (done_spent w f b s i (done_counts i s) falls)

    unless_ended : (t : Bool) → spent w f b (if t then s else step_by (slice_get s.work 0) (slice_get s.queue 0) s) ≤ spent w f b s
    unless_ended true = same _
    unless_ended false = by (slice_get s.work 0) (slice_get s.queue 0) refl refl

pub posted_spent : (w : Flow) (f : Weights) (b : Bounds) (s : State) (i : Input) (m : Option Obstacle) → spent w f b (posted_by m i s) ≤ spent w f b s + paid_unless m (bound_of b i)
posted_spent w f b s i None = let joined = queue_append s.service w f b s.queue (waiting.Input i ∷ []) in omega (arith, joined)
posted_spent w f b s i (Some o) = omega arith
