-- What a rule and a step leave as they are.
use Rattle.std.specs.List.{list_any}
use Rattle.std.specs.Option.{option_map_or}
use Rattle.std.specs.Prelude.{◌≡◌, ◌⊎◌, ◌++◌, ◌+◌, ◌∷◌, ◌||◌, Bool, List, None, Option, Some, [], drop, filter, false, if◌then◌else◌, map, not, slice_get, true, ℕ}
use Rattle.std.specs.Str.{bytes_eq}
use Rattle.std.proofs.Common.{ap, refl, subst, sym, inl, inr, ◌∙◌}
use Rattle.std.proofs.lemmas.Slice.Eq.{bytes_eq-Decides}
use Rattle.mh_base.specs.Event.{is_sync}
use Rattle.mh_base.specs.declared.obj_ref.ObjRef.{ObjRef}
use Rattle.mh_base.specs.declared.value.Value.{Value}
use Rattle.mh_group.specs.Table.{is_application}
use Rattle.mh_group.specs.declared.action_name.ActionName.{ActionName}
use Rattle.mh_group.specs.declared.action_name.ActionName.TheVariants as action
use Rattle.mh_model.specs.declared.act.Argument.{Argument}
use Rattle.mh_model.specs.declared.event.Event.{Event}
use Rattle.mh_model.specs.declared.fault.Fault.{Fault}
use Rattle.mh_model.specs.declared.input.Input.{Input}
use Rattle.mh_model.specs.declared.input.Input.TheVariants as input
use Rattle.mh_model.specs.declared.input.Waiting.{Waiting}
use Rattle.mh_model.specs.declared.input.Waiting.TheVariants as waiting
use Rattle.mh_model.specs.declared.interaction.Interaction.{Interaction}
use Rattle.mh_model.specs.declared.item.Item.{Item}
use Rattle.mh_model.specs.declared.item.Item.TheVariants as item
use Rattle.mh_model.specs.declared.key.Key.{Key}
use Rattle.mh_model.specs.declared.object.Object.{Object}
use Rattle.mh_model.specs.declared.sort.Sort.{Sort}
use Rattle.mh_model.specs.declared.sort.Sort.TheVariants as sort
use Rattle.mh_model.specs.Arguments.{receivers, referred, values}
use Rattle.mh_model.specs.Configuration.{is_group_of}
use Rattle.mh_model.specs.Files.{is_loadable}
use Rattle.mh_model.specs.Items.{heard}
use Rattle.mh_model.specs.Late.{is_late_scene, late_without}
use Rattle.mh_model.specs.Reference.{group_ref}
use Rattle.mh_model.specs.Rules.{act_on, application_exchanged, begins, begins_or_waits, emitted, exchange_rule, interact_rule, is_begun, is_input, leads_to_late, load_rule, loaded_with, rule, rule_by, scene_exchanged, stays, transition_rule, whole_rule, widget_at}
use Rattle.mh_model.specs.Service.{object_at}
use Rattle.mh_model.specs.Sort.{sort_of}
use Rattle.mh_model.specs.State.{State, all}
use Rattle.mh_model.specs.Step.{awaits, did, is_file_of, key_taken, pressed_at, scene_arrived, step, step_by, taking}
use Rattle.mh_model.specs.Stuck.{stuck}

-- Lists

pub either_of : (b y : Bool) → (b || y) ≡ true → (b ≡ true) ⊎ (y ≡ true)
either_of true y e = inl refl
either_of false y e = inr e

or_first : (b y : Bool) → b ≡ true → (b || y) ≡ true
or_first true y e = refl
or_first false y e = absurd cc

or_second : (b y : Bool) → y ≡ true → (b || y) ≡ true
or_second true y e = refl
or_second false y e = e

some_filtered : {X : Type 0} (p q : X → Bool) (xs : List X) → list_any q (filter p xs) ≡ true → list_any q xs ≡ true
some_filtered {X} p q [] e = e
some_filtered {X} p q (x ∷ xs) e = by (p x) (some_filtered p q xs) e
  where
    kept : (list_any q (filter p xs) ≡ true → list_any q xs ≡ true) → (q x ≡ true) ⊎ (list_any q (filter p xs) ≡ true) → (q x || list_any q xs) ≡ true
    kept more (inl h) = or_first (q x) (list_any q xs) h
    kept more (inr h) = or_second (q x) (list_any q xs) (more h)

    by : (b : Bool) → (list_any q (filter p xs) ≡ true → list_any q xs ≡ true) → list_any q (if b then x ∷ filter p xs else filter p xs) ≡ true → (q x || list_any q xs) ≡ true
    by true more h = kept more (either_of (q x) (list_any q (filter p xs)) h)
    by false more h = or_second (q x) (list_any q xs) (more h)

pub some_appended : {X : Type 0} (q : X → Bool) (xs ys : List X) → list_any q (xs ++ ys) ≡ true → (list_any q xs ≡ true) ⊎ (list_any q ys ≡ true)
some_appended {X} q [] ys e = inr e
some_appended {X} q (x ∷ xs) ys e = by (q x) (some_appended q xs ys) e
  where
    by : (b : Bool) → (list_any q (xs ++ ys) ≡ true → (list_any q xs ≡ true) ⊎ (list_any q ys ≡ true)) → (b || list_any q (xs ++ ys)) ≡ true → ((b || list_any q xs) ≡ true) ⊎ (list_any q ys ≡ true)
    by true more h = inl refl
    by false more h = more h

no_event : {X : Type 0} (g : List ℕ) (f : X → Event) (xs : List X) → list_any (is_file_of g) (map (λ x. waiting.Event (f x)) xs) ≡ true → false ≡ true
no_event {X} g f [] e = e
no_event {X} g f (x ∷ xs) e = no_event g f xs e

-- a queue with events more has no file more
with_events : {X : Type 0} (g : List ℕ) (f : X → Event) (xs : List X) (ws : List Waiting) → list_any (is_file_of g) (ws ++ map (λ x. waiting.Event (f x)) xs) ≡ true → list_any (is_file_of g) ws ≡ true
with_events {X} g f xs ws e = by (some_appended (is_file_of g) ws (map (λ x. waiting.Event (f x)) xs) e)
  where
    none : false ≡ true → list_any (is_file_of g) ws ≡ true
    none h = absurd cc

    by : (list_any (is_file_of g) ws ≡ true) ⊎ (list_any (is_file_of g) (map (λ x. waiting.Event (f x)) xs) ≡ true) → list_any (is_file_of g) ws ≡ true
    by (inl h) = h
    by (inr h) = none (no_event g f xs h)

-- What a rule leaves as it is: the service, what is late, and which files wait.

abbrev pub Leaves : State → State → Type 0
Leaves s t = (t.service ≡ s.service) × (t.late ≡ s.late) × ((g : List ℕ) → list_any (is_file_of g) t.queue ≡ true → list_any (is_file_of g) s.queue ≡ true)

load_leaves : (vs : List Value) (r : ObjRef) (s : State) → Leaves s (load_rule vs r s)
load_leaves [] r s = (refl, refl, λ g h. h)
load_leaves (v ∷ x ∷ vs) r s = (refl, refl, λ g h. h)
load_leaves (v ∷ []) r s = by (is_loadable v)
  where
    by : (t : Bool) → Leaves s (if t then loaded_with v r s else s)
    by true = (refl, refl, λ g h. h)
    by false = (refl, refl, λ g h. h)

widget_leaves : (n : ActionName) (vs : List Value) (r : ObjRef) (m : Option Object) (s : State) → Leaves s (widget_at n vs r m s)
widget_leaves n vs r None s = (refl, refl, λ g h. h)
widget_leaves n vs r (Some o) s = (refl, refl, λ g h. h)

interact_leaves : (n : ActionName) (vs : List Value) (rs : List ObjRef) (r : ObjRef) (s : State) → Leaves s (interact_rule n vs rs r s)
interact_leaves action.SetInteractionStatus vs rs r s = (refl, refl, λ g h. h)
interact_leaves action.GetInteractionStatus vs rs r s = (refl, refl, λ g h. h)
interact_leaves _ vs rs r s = (refl, refl, λ g h. h)

transition_leaves : (n : ActionName) (r : ObjRef) (s : State) → Leaves s (transition_rule n r s)
transition_leaves n r s = by (is_begun s.transition) (leads_to_late n r s)
  where
    by : (b late : Bool) → Leaves s (if b then s else begins_or_waits late n r s)
    by true late = (refl, refl, λ g h. h)
    by false true = (refl, refl, λ g h. h)
    by false false = (refl, refl, λ g h. h)

whole_leaves : (n : ActionName) (vs : List Value) (r : ObjRef) (s : State) → Leaves s (whole_rule n vs r s)
whole_leaves action.TransitionTo vs r s = transition_leaves action.TransitionTo r s
whole_leaves action.Launch vs r s = transition_leaves action.Launch r s
whole_leaves action.Quit vs r s = transition_leaves action.Quit r s
whole_leaves action.LockScreen vs r s = (refl, refl, λ g h. h)
whole_leaves action.UnlockScreen vs r s = (refl, refl, λ g h. h)
whole_leaves action.SetTimer vs r s = (refl, refl, λ g h. h)
whole_leaves _ vs r s = (refl, refl, λ g h. h)

sort_leaves : (o : Sort) (n : ActionName) (xs : List Argument) (r : ObjRef) (s : State) → Leaves s (rule_by o n xs r s)
sort_leaves sort.Load n xs r s = load_leaves (values (all s.objects) xs) r s
sort_leaves sort.Widget n xs r s = widget_leaves n (values (all s.objects) xs) r (object_at r (all s.objects)) s
sort_leaves sort.Interact n xs r s = interact_leaves n (values (all s.objects) xs) (receivers xs) r s
sort_leaves sort.Whole n xs r s = whole_leaves n (values (all s.objects) xs) r s
sort_leaves _ n xs r s = (refl, refl, λ g h. h)

act_leaves : (m : Option ObjRef) (n : ActionName) (xs : List Argument) (s : State) → Leaves s (act_on m n xs s)
act_leaves None n xs s = (refl, refl, λ g h. h)
act_leaves (Some r) n xs s = sort_leaves (sort_of n) n xs r s

emit_leaves : (e : Event) (s : State) → Leaves s (emitted e s)
emit_leaves e s = by (is_sync e.kind)
  where
    by : (t : Bool) → Leaves s (if t then record s { work = heard e (all s.objects) ++ s.work } else record s { queue = s.queue ++ waiting.Event e ∷ [] })
    by true = (refl, refl, λ g h. h)
    by false = (refl, refl, λ g h. with_events g (λ (x : Event). x) (e ∷ []) s.queue h)

exchange_leaves : (g : List ℕ) (s : State) → Leaves s (exchange_rule g s)
exchange_leaves g s = by (is_group_of is_application s.service g)
  where
    by : (t : Bool) → Leaves s (if t then application_exchanged g s else scene_exchanged g s)
    by true = (refl, refl, λ f h. some_filtered is_input (is_file_of f) s.queue h)
    by false = (refl, refl, λ f h. some_filtered (stays s.application) (is_file_of f) s.queue h)

ended_leaves : (g : List ℕ) (ws : List Waiting) → false ≡ true → list_any (is_file_of g) ws ≡ true
ended_leaves g ws h = absurd cc

rule_leaves : (i : Item) (s : State) → Leaves s (rule i s)
rule_leaves (item.Act a) s = act_leaves (referred a.target (all s.objects)) a.name a.arguments s
rule_leaves (item.Emit e) s = emit_leaves e s
rule_leaves (item.Exchange g) s = exchange_leaves g s
rule_leaves item.End s = (refl, refl, λ g h. ended_leaves g s.queue h)
rule_leaves _ s = (refl, refl, λ g h. h)

pub did_leaves : (m : Option Fault) (i : Item) (s : State) → Leaves s (did m i s)
did_leaves None i s = rule_leaves i (record s { work = drop 1 s.work; taken = s.taken + 1 })
did_leaves (Some f) i s = (refl, refl, λ g h. h)

-- What was late and is not had its file wait in front, and no other file came

pub record Passes (s t : State) : Type 0 where
  pub fewer : (g : List ℕ) → is_late_scene g t.late ≡ true → is_late_scene g s.late ≡ true
  pub service : t.service ≡ s.service
  pub late : (g : List ℕ) → is_late_scene g t.late ≡ false → (is_late_scene g s.late ≡ false) ⊎ (list_any (is_file_of g) s.queue ≡ true)
  pub queue : (g : List ℕ) → list_any (is_file_of g) t.queue ≡ true → list_any (is_file_of g) s.queue ≡ true

passes_of : (s t : State) → Leaves s t → Passes s t
passes_of s t l = record { fewer = λ g h. ap (is_late_scene g) (sym l.1) ∙ h; service = l.0; late = λ g h. inl (ap (is_late_scene g) (sym l.1) ∙ h); queue = l.2 }

dropped : (p : Waiting → Bool) (ws : List Waiting) → list_any p (drop 1 ws) ≡ true → list_any p ws ≡ true
dropped p [] e = e
dropped p (w ∷ ws) e = or_second (p w) (list_any p ws) e

in_front : (p : Waiting → Bool) (ws : List Waiting) (x : Waiting) → slice_get ws 0 ≡ Some x → p x ≡ true → list_any p ws ≡ true
in_front p [] x e h = absurd cc
in_front p (w ∷ ws) x e h = or_first (p w) (list_any p ws) (ap (λ (m : Option Waiting). option_map_or p m false) e ∙ h)

pub key_leaves : (x : Key) (m : Option Interaction) (s : State) → Leaves s (key_taken x m s)
key_leaves x None s = (refl, refl, λ g h. h)
key_leaves x (Some i) s = by (object_at i.object (all s.objects))
  where
    by : (m : Option Object) → Leaves s (pressed_at x i m s)
    by None = (refl, refl, λ g h. h)
    by (Some o) = (refl, refl, λ g h. h)

-- a scene that is late no longer was not late, or is this one
late_or_this : (g h : List ℕ) (gs : List (List ℕ)) → is_late_scene h (late_without g gs) ≡ false → (is_late_scene h gs ≡ false) ⊎ (bytes_eq h g ≡ true)
late_or_this g h [] e = inl refl
late_or_this g h (x ∷ gs) e = by (bytes_eq g x) refl (bytes_eq h x) refl (late_or_this g h gs) e
  where
    same : bytes_eq g x ≡ true → bytes_eq h x ≡ true → bytes_eq h g ≡ true
    same a b = subst (λ (y : List ℕ). bytes_eq h y ≡ true) (sym ((bytes_eq-Decides g x).0 a)) b

    no : true ≡ false → (is_late_scene h (x ∷ gs) ≡ false) ⊎ (bytes_eq h g ≡ true)
    no h = absurd cc

    further : (c : Bool) → bytes_eq h x ≡ c → c ≡ false → (is_late_scene h gs ≡ false) ⊎ (bytes_eq h g ≡ true) → (is_late_scene h (x ∷ gs) ≡ false) ⊎ (bytes_eq h g ≡ true)
    further c is none (inl none_more) = inl (ap (λ (b : Bool). b || is_late_scene h gs) (is ∙ none) ∙ none_more)
    further c is none (inr this) = inr this

    by : (b : Bool) → bytes_eq g x ≡ b → (c : Bool) → bytes_eq h x ≡ c → (is_late_scene h (late_without g gs) ≡ false → (is_late_scene h gs ≡ false) ⊎ (bytes_eq h g ≡ true)) → is_late_scene h (if not b then x ∷ late_without g gs else late_without g gs) ≡ false → (is_late_scene h (x ∷ gs) ≡ false) ⊎ (bytes_eq h g ≡ true)
    by true a true c more e = inr (same a c)
    by true a false c more e = further false c refl (more e)
    by false a true c more e = no (sym (ap (λ (b : Bool). b || is_late_scene h (late_without g gs)) c) ∙ e)
    by false a false c more e = further false c refl (more (sym (ap (λ (b : Bool). b || is_late_scene h (late_without g gs)) c) ∙ e))

-- taking what waits first
took_passes : (x : Waiting) (s : State) → slice_get s.queue 0 ≡ Some x → Passes s (taking x (record s { queue = drop 1 s.queue; taken = s.taken + 1 }))
took_passes (waiting.Event e) s first = record { fewer = λ g h. h; service = refl; late = λ g h. inl h; queue = λ g h. dropped (is_file_of g) s.queue h }
took_passes (waiting.Input (input.Key x)) s first =
    let l = key_leaves x s.interaction (record s { queue = drop 1 s.queue; taken = s.taken + 1 }) in
    record { fewer = λ g h. ap (is_late_scene g) (sym l.1) ∙ h; service = l.0; late = λ g h. inl (ap (is_late_scene g) (sym l.1) ∙ h); queue = λ g h. dropped (is_file_of g) s.queue (l.2 g h) }
took_passes (waiting.Input (input.Tick n)) s first = record { fewer = λ g h. h; service = refl; late = λ g h. inl h; queue = λ g h. dropped (is_file_of g) s.queue (with_events g _ _ (drop 1 s.queue) h) }
took_passes (waiting.Input (input.Stream n)) s first = record { fewer = λ g h. h; service = refl; late = λ g h. inl h; queue = λ g h. dropped (is_file_of g) s.queue (with_events g _ _ (drop 1 s.queue) h) }
took_passes (waiting.Input (input.Engine n)) s first = record { fewer = λ g h. h; service = refl; late = λ g h. inl h; queue = λ g h. dropped (is_file_of g) s.queue h }
took_passes (waiting.Input (input.Arrive f)) s first = record { fewer = λ g h. h; service = refl; late = λ g h. inl h; queue = λ g h. dropped (is_file_of g) s.queue (with_events g _ _ (drop 1 s.queue) h) }
took_passes (waiting.Input (input.Scene g x)) s first = by (awaits g s.transition)
  where
    s0 : State
    s0 = record s { queue = drop 1 s.queue; taken = s.taken + 1 }

    late : (h : List ℕ) → is_late_scene h (late_without g s.late) ≡ false → (is_late_scene h s.late ≡ false) ⊎ (list_any (is_file_of h) s.queue ≡ true)
    late h e = told (late_or_this g h s.late e)
      where
        told : (is_late_scene h s.late ≡ false) ⊎ (bytes_eq h g ≡ true) → (is_late_scene h s.late ≡ false) ⊎ (list_any (is_file_of h) s.queue ≡ true)
        told (inl a) = inl a
        told (inr b) = inr (in_front (is_file_of h) s.queue (waiting.Input (input.Scene g x)) first b)

    by : (b : Bool) → Passes s (if b then begins action.TransitionTo (group_ref g) (scene_arrived g s0) else scene_arrived g s0)
    by true = record { fewer = λ h e. some_filtered (λ (y : List ℕ). not (bytes_eq g y)) (bytes_eq h) s.late e; service = refl; late = late; queue = λ h e. dropped (is_file_of h) s.queue e }
    by false = record { fewer = λ h e. some_filtered (λ (y : List ℕ). not (bytes_eq g y)) (bytes_eq h) s.late e; service = refl; late = late; queue = λ h e. dropped (is_file_of h) s.queue e }

pub step_passes : (s : State) → Passes s (step s)
step_passes s = unless_ended s.ended
  where
    still : Passes s s
    still = record { fewer = λ g h. h; service = refl; late = λ g h. inl h; queue = λ g h. h }

    by : (m : Option Item) (x : Option Waiting) → slice_get s.queue 0 ≡ x → Passes s (step_by m x s)
    by None None e = still
    by None (Some x) e = took_passes x s e
    by (Some i) x e = passes_of s (did (stuck i s) i s) (did_leaves (stuck i s) i s)

    unless_ended : (t : Bool) → Passes s (if t then s else step_by (slice_get s.work 0) (slice_get s.queue 0) s)
    unless_ended true = still
    unless_ended false = by (slice_get s.work 0) (slice_get s.queue 0) refl
