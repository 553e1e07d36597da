-- What is taken keeps a state safe.
use Rattle.std.specs.Prelude.{◌≡◌, ◌≤◌, ℕ, ◌+◌, Bool, true, false, ◌&&◌, if◌then◌else◌, List, [], ◌∷◌, ◌++◌, drop, filter, length, nat_lt, slice_get, Option, Some, None, refl, ℤ, pos, int_lt, not}
use Rattle.std.specs.List.{list_all}
use Rattle.std.specs.Option.{option_map_or}
use Rattle.std.specs.Ordering.{int_eq}
use Rattle.std.proofs.lemmas.Slice.Eq.{bytes_eq-Decides}
use Rattle.std.proofs.Common.{inl, inr, ap, ◌∙◌, sym, subst, append-nil}
use Rattle.mh_base.specs.declared.event.EventType.TheVariants as event
use Rattle.mh_base.specs.declared.obj_ref.ObjRef.{ObjRef}
use Rattle.mh_group.specs.declared.action_name.ActionName.TheVariants as action
use Rattle.mh_group.specs.declared.class.Class.TheVariants as class
use Rattle.mh_group.specs.declared.class.Class.{Class}
use Rattle.mh_model.specs.declared.config.Config.{Config}
use Rattle.mh_model.specs.declared.event.Event.{Event}
use Rattle.mh_model.specs.declared.input.Input.TheVariants as input
use Rattle.mh_model.specs.declared.input.Waiting.TheVariants as waiting
use Rattle.mh_model.specs.declared.input.Waiting.{Waiting}
use Rattle.mh_model.specs.declared.interaction.Interaction.{Interaction}
use Rattle.mh_model.specs.declared.item.Item.{Item}
use Rattle.mh_model.specs.declared.item.Item.TheVariants as item
use Rattle.mh_model.specs.declared.key.Key.TheVariants as key
use Rattle.mh_model.specs.declared.key.Key.{Key}
use Rattle.mh_model.specs.declared.object.Body.{Body}
use Rattle.mh_model.specs.declared.object.Fixed.{Fixed}
use Rattle.mh_model.specs.declared.object.Object.{Object}
use Rattle.mh_model.specs.declared.time.Timer.{Timer}
use Rattle.mh_model.specs.declared.transition.Transition.{Transition}
use Rattle.mh_model.specs.declared.transition.Transition.TheVariants as transition
use Rattle.mh_model.specs.Bodies.{text_of}
use Rattle.mh_model.specs.Configuration.{present}
use Rattle.mh_model.specs.EntryFields.{Pressed, not_pressed, pressed_by, most_typed, overtyped, put_in, typed, field_pressed, button_pressed, pressed_of}
use Rattle.mh_model.specs.Files.{with_file, arrived}
use Rattle.mh_model.specs.Items.{heard, plain_event}
use Rattle.mh_model.specs.Key.{passes}
use Rattle.mh_model.specs.ListItems.{has_item}
use Rattle.mh_model.specs.Listed.{Listed}
use Rattle.mh_group.specs.Same.{are_same}
use Rattle.mh_model.specs.Lists.{objects_of}
use Rattle.mh_model.specs.Reference.{group_ref}
use Rattle.mh_model.specs.Rules.{begins, changed, text_brought, way_out}
use Rattle.mh_model.specs.Service.{Service, object_at, is_there}
use Rattle.mh_model.specs.State.{State, Objects, all}
use Rattle.mh_model.specs.Late.{late_without}
use Rattle.mh_model.specs.Step.{awaits, scene_arrived, register_of, key_event, key_items, key_taken, pressed_at, took, engine_event, streams_told, timers_fired, contents_told}
use Rattle.mh_model.specs.Time.{is_due}
use Rattle.mh_model.specs.Widget.{no_work}
use Rattle.mh_laws.specs.Flow.{Flow, Sets}
use Rattle.mh_laws.specs.Safe.{config_of, has_origin, has_group, IsSafeItem, IsSafeTransition, IsSafeWork, IsSafeBy}
use Rattle.mh_model.proofs.ListLemmas.{some_same, and_left, and_right, all_joined}
use Rattle.mh_model.proofs.PartLemmas.{found_there, changed-own, changed-others, with_text-parts}
use Rattle.mh_laws.specs.Ways.{count_of}
use Rattle.mh_laws.proofs.ActLemmas.{sets_of}
use Rattle.mh_laws.proofs.HeldLemmas.{KeepsHeld, held_changed, held_brought, same_value_held}
use Rattle.mh_laws.proofs.StateLemmas.{held_now, parts_present, fine_objects, fine_scene, group_there, there, kept, turned, unseen, unasked, unwaited}
use Rattle.mh_laws.proofs.TimeLemmas.{all_filtered, fired_safe, streams_safe, contents_safe}
use Rattle.mh_laws.proofs.WorkLemmas.{safe_heard, safe_leaving}

-- the first that waits comes from something present, and so does the rest
pub first_waits : (ps : List Fixed) (ws : List Waiting) (w : Waiting) → slice_get ws 0 ≡ Some w → list_all (has_origin ps) ws ≡ true → (has_origin ps w ≡ true) × (list_all (has_origin ps) (drop 1 ws) ≡ true)
first_waits ps [] w e h = absurd cc
first_waits ps (x ∷ ws) w e h =
    (subst (λ (y : Waiting). has_origin ps y ≡ true) (ap (λ (m : Option Waiting). option_map_or (λ (y : Waiting). y) m x) e) (and_left (has_origin ps x) (list_all (has_origin ps) ws) h), and_right (has_origin ps x) (list_all (has_origin ps) ws) h)

-- what an event puts that is taken
heard_alone : {fw : Flow} (s : State) (k : IsSafeBy fw s) (e : Event) → is_there e.source (present s.service (config_of s)) ≡ true → IsSafeWork s.service fw (config_of s) (heard e (all s.objects))
heard_alone {fw} s k e here_it =
    subst (IsSafeWork s.service fw (config_of s)) (append-nil (heard e (all s.objects)))
    (safe_heard s.service fw (config_of s) e (present s.service (config_of s)) (all s.objects) [] here_it (fine_objects s k) tt)

key_alone : {fw : Flow} (s : State) (k : IsSafeBy fw s) (key : Key) (scene : Option (List ℕ)) → s.scene ≡ scene → IsSafeWork s.service fw (config_of s) (key_items key scene (all s.objects))
key_alone {fw} s k key None e = tt
key_alone {fw} s k key (Some g) e = passed (passes (register_of (object_at (group_ref g) (all s.objects))) key)
  where
    passed : (b : Bool) → IsSafeWork s.service fw (config_of s) (if b then heard (key_event key (group_ref g)) (all s.objects) else [])
    passed true = heard_alone s k (key_event key (group_ref g)) (group_there s k g (inr e))
    passed false = tt

-- what a key makes the object put that interacts

safe_typed : (v : Service) (fw : Flow) (c : Config) (x : ℕ) (r : ObjRef) (p : Fixed) (b : Body) → is_there r (present v c) ≡ true → IsSafeWork v fw c (typed x r p b).items
safe_typed v fw c x r p b here_it = by (b.overwrites && nat_lt b.point (length (text_of b))) (int_lt (pos (length (text_of b))) (most_typed p)) (int_eq (pos (length (text_of b) + 1)) (most_typed p))
  where
    by : (over room full : Bool) → IsSafeWork v fw c (if over then overtyped x b else (if room then record { body = (put_in x r p b).body; items = if full then plain_event r event.EntryFieldFull ∷ [] else []; ends = false } else not_pressed b)).items
    by true room full = tt
    by false true true = (here_it, tt)
    by false true false = tt
    by false false full = tt

safe_field : (v : Service) (fw : Flow) (c : Config) (k : Key) (before : List ℕ) (r : ObjRef) (p : Fixed) (b : Body) → is_there r (present v c) ≡ true → IsSafeWork v fw c (field_pressed k before r p b).items
safe_field v fw c key.Digit0 before r p b here_it = safe_typed v fw c 48 r p b here_it
safe_field v fw c key.Digit1 before r p b here_it = safe_typed v fw c 49 r p b here_it
safe_field v fw c key.Digit2 before r p b here_it = safe_typed v fw c 50 r p b here_it
safe_field v fw c key.Digit3 before r p b here_it = safe_typed v fw c 51 r p b here_it
safe_field v fw c key.Digit4 before r p b here_it = safe_typed v fw c 52 r p b here_it
safe_field v fw c key.Digit5 before r p b here_it = safe_typed v fw c 53 r p b here_it
safe_field v fw c key.Digit6 before r p b here_it = safe_typed v fw c 54 r p b here_it
safe_field v fw c key.Digit7 before r p b here_it = safe_typed v fw c 55 r p b here_it
safe_field v fw c key.Digit8 before r p b here_it = safe_typed v fw c 56 r p b here_it
safe_field v fw c key.Digit9 before r p b here_it = safe_typed v fw c 57 r p b here_it
safe_field v fw c key.Select before r p b here_it = (here_it, tt)
safe_field v fw c key.Cancel before r p b here_it = (here_it, tt)
safe_field v fw c _ before r p b here_it = tt

safe_button : (v : Service) (fw : Flow) (c : Config) (k : Key) (r : ObjRef) (b : Body) → is_there r (present v c) ≡ true → IsSafeWork v fw c (button_pressed k r b).items
safe_button v fw c key.Select r b here_it = by (are_same b.selected true)
  where
    by : (same : Bool) → IsSafeWork v fw c (pressed_by (if same then no_work b else record { body = record b { selected = true }; placed = []; items = plain_event r event.IsSelected ∷ [] })).items
    by true = tt
    by false = (here_it, tt)
safe_button v fw c key.Cancel r b here_it = (here_it, tt)
safe_button v fw c _ r b here_it = tt

safe_pressed : (v : Service) (fw : Flow) (c : Config) (x : Class) (k : Key) (before : List ℕ) (r : ObjRef) (p : Fixed) (b : Body) → is_there r (present v c) ≡ true → IsSafeWork v fw c (pressed_of x k before r p b).items
safe_pressed v fw c class.EntryField k before r p b here_it = safe_field v fw c k before r p b here_it
safe_pressed v fw c class.PushButton k before r p b here_it = safe_button v fw c k r b here_it
safe_pressed v fw c _ k before r p b here_it = tt

-- a key leaves alone what the object holds

abbrev LeavesIt : Body → Body → Type 0
LeavesIt b d = (d.value ≡ b.value) × (d.list ≡ b.list)

typed_leaves : (x : ℕ) (r : ObjRef) (p : Fixed) (b : Body) → LeavesIt b (typed x r p b).body
typed_leaves x r p b = by (b.overwrites && nat_lt b.point (length (text_of b))) (int_lt (pos (length (text_of b))) (most_typed p))
  where
    by : (over room : Bool) → LeavesIt b (if over then overtyped x b else (if room then put_in x r p b else not_pressed b)).body
    by true room = (refl, refl)
    by false true = (refl, refl)
    by false false = (refl, refl)

field_leaves : (k : Key) (before : List ℕ) (r : ObjRef) (p : Fixed) (b : Body) → LeavesIt b (field_pressed k before r p b).body
field_leaves key.Digit0 before r p b = typed_leaves 48 r p b
field_leaves key.Digit1 before r p b = typed_leaves 49 r p b
field_leaves key.Digit2 before r p b = typed_leaves 50 r p b
field_leaves key.Digit3 before r p b = typed_leaves 51 r p b
field_leaves key.Digit4 before r p b = typed_leaves 52 r p b
field_leaves key.Digit5 before r p b = typed_leaves 53 r p b
field_leaves key.Digit6 before r p b = typed_leaves 54 r p b
field_leaves key.Digit7 before r p b = typed_leaves 55 r p b
field_leaves key.Digit8 before r p b = typed_leaves 56 r p b
field_leaves key.Digit9 before r p b = typed_leaves 57 r p b
field_leaves _ before r p b = (refl, refl)

button_leaves : (k : Key) (r : ObjRef) (b : Body) → LeavesIt b (button_pressed k r b).body
button_leaves key.Select r b = by (are_same b.selected true)
  where
    by : (same : Bool) → LeavesIt b (pressed_by (if same then no_work b else record { body = record b { selected = true }; placed = []; items = plain_event r event.IsSelected ∷ [] })).body
    by true = (refl, refl)
    by false = (refl, refl)
button_leaves _ r b = (refl, refl)

pressed_leaves : (x : Class) (k : Key) (before : List ℕ) (r : ObjRef) (p : Fixed) (b : Body) → LeavesIt b (pressed_of x k before r p b).body
pressed_leaves class.EntryField k before r p b = field_leaves k before r p b
pressed_leaves class.PushButton k before r p b = button_leaves k r b
pressed_leaves _ k before r p b = (refl, refl)

pressed_held : (h : Sets) (k : Key) (before : List ℕ) (r : ObjRef) (o : Object) → KeepsHeld h (λ p b. (pressed_of o.fixed.class k before r o.fixed o.body).body) o
pressed_held h k before r o held =
    let same = pressed_leaves o.fixed.class k before r o.fixed o.body in
    record {
      value = λ is q e. held.value is q (same_value_held o.fixed o.body (pressed_of o.fixed.class k before r o.fixed o.body).body q same.0 e);
      items = λ is q e. held.items is q (sym (ap (λ (l : Listed). has_item q l.entries) same.1) ∙ e);
      once = λ q. subst (λ (l : Listed). count_of q (objects_of l.entries) ≤ 1) (sym same.1) (held.once q);
    }

-- what the streams tell that run
told_safe : {fw : Flow} (s : State) → IsSafeBy fw s → (n : ℤ) → list_all (has_origin (present s.service (config_of s))) (streams_told n s) ≡ true
told_safe {fw} s k n = subst (λ (ps : List Fixed). list_all (has_origin ps) (streams_told n s) ≡ true) (parts_present s k) (streams_safe n (all s.objects))

-- what those objects tell that waited for a file
contents_told_safe : {fw : Flow} (s : State) → IsSafeBy fw s → (name : List ℕ) → list_all (has_origin (present s.service (config_of s))) (contents_told name s) ≡ true
contents_told_safe {fw} s k name = subst (λ (ps : List Fixed). list_all (has_origin ps) (contents_told name s) ≡ true) (parts_present s k) (contents_safe name s.waits (all s.objects))

-- a scene that is waited for may be exchanged for the one that is there
awaited_safe : (v : Service) (fw : Flow) (c : Config) (g : List ℕ) (t : Transition) → awaits g t ≡ true → IsSafeTransition v fw c t → IsSafeItem v fw c (item.Exchange g)
awaited_safe v fw c g transition.Rests e is = absurd cc
awaited_safe v fw c g transition.Begun e is = absurd cc
awaited_safe v fw c g (transition.Awaits h) e is = subst (λ (x : List ℕ). IsSafeItem v fw c (item.Exchange x)) (sym ((bytes_eq-Decides g h).0 e)) is

-- a state stays safe where what waits first is taken
pub safe_took : {fw : Flow} (s : State) (k : IsSafeBy fw s) (w : Waiting) → has_origin (present s.service (config_of s)) w ≡ true → list_all (has_origin (present s.service (config_of s))) (drop 1 s.queue) ≡ true → IsSafeBy fw (took w s)
safe_took {fw} s k w here_it left = by w here_it
  where
    n : ℕ
    n = s.taken + 1

    put : (work : List Item) → IsSafeWork s.service fw (config_of s) work → IsSafeBy fw (record s { queue = drop 1 s.queue; work = work; taken = n })
    put work safe = kept s k s.objects s.stack s.timers (drop 1 s.queue) work n refl refl (held_now s k) safe k.timers left

    by : (w : Waiting) → has_origin (present s.service (config_of s)) w ≡ true → IsSafeBy fw (took w s)
    by (waiting.Event e) here_it = put _ (heard_alone s k e here_it)
    by (waiting.Input (input.Key key)) here_it = by_interaction s.interaction
      where
        by_interaction : (i : Option Interaction) → IsSafeBy fw (key_taken key i (record s { queue = drop 1 s.queue; taken = n }))
        by_interaction None = put _ (key_alone s k key s.scene refl)
        by_interaction (Some i) = by_object (object_at i.object (all s.objects)) refl
          where
            by_object : (m : Option Object) → object_at i.object (all s.objects) ≡ m → IsSafeBy fw (pressed_at key i m (record s { queue = drop 1 s.queue; taken = n }))
            by_object None e = put s.work k.work
            by_object (Some o) e =
                let w : Pressed = pressed_of o.fixed.class key i.before i.object o.fixed o.body in
                let os : Objects = changed (λ p b. w.body) i.object s.objects in
                unasked (record s { objects = os; queue = drop 1 s.queue; work = w.items; taken = n })
                (kept s k os s.stack s.timers (drop 1 s.queue) w.items n (changed-own (λ p b. w.body) i.object s.objects) (changed-others (λ p b. w.body) i.object s.objects)
                (held_changed (sets_of s k) (λ p b. w.body) i.object s.objects (λ x found. subst (λ (y : Object). KeepsHeld (sets_of s k) (λ p b. w.body) y) (some_same (sym e ∙ found)) (pressed_held (sets_of s k) key i.before i.object o)) (held_now s k))
                (safe_pressed s.service fw (config_of s) o.fixed.class key i.before i.object o.fixed o.body (there s k i.object (found_there i.object (all s.objects) o e))) k.timers left)
                (if w.ends then None else s.interaction)
    by (waiting.Input (input.Tick m)) here_it =
        let now : ℕ = s.moments.present + m in
        let ps = present s.service (config_of s) in
        let fired = all_joined (has_origin ps) (drop 1 s.queue) (timers_fired now s) left (fired_safe ps now s.application s.timers k.timers) in
        let other : List Timer = filter (λ t. not (is_due now t)) s.timers in
        unseen (record s { timers = other; queue = drop 1 s.queue ++ timers_fired now s; taken = n })
        (kept s k s.objects s.stack other (drop 1 s.queue ++ timers_fired now s) s.work n refl refl (held_now s k) k.work (all_filtered (λ t. not (is_due now t)) (has_group ps) s.timers k.timers) fired)
        (record s.moments { present = now }) s.ended s.locks s.frozen
    by (waiting.Input (input.Stream m)) here_it =
        kept s k s.objects s.stack s.timers (drop 1 s.queue ++ streams_told m s) s.work n refl refl (held_now s k) k.work k.timers
        (all_joined (has_origin (present s.service (config_of s))) (drop 1 s.queue) (streams_told m s) left (told_safe s k m))
    by (waiting.Input (input.Arrive f)) here_it =
        let told : List Waiting = contents_told f.name s in
        let queue : List Waiting = drop 1 s.queue ++ told in
        unwaited (record s { objects = text_brought _ f.content s.objects; queue = queue; taken = n })
        (kept s k (text_brought _ f.content s.objects) s.stack s.timers queue s.work n
        (with_text-parts _ f.content s.objects.application) (with_text-parts _ f.content s.objects.scene) (held_brought (sets_of s k) _ f.content s.objects (held_now s k)) k.work k.timers
        (all_joined (has_origin (present s.service (config_of s))) (drop 1 s.queue) told left (contents_told_safe s k f.name)))
        (with_file f s.files) (arrived f.name s.waits)
    by (waiting.Input (input.Scene g x)) here_it = by_course (awaits g s.transition) refl
      where
        by_course : (t : Bool) → awaits g s.transition ≡ t → IsSafeBy fw (if t then begins action.TransitionTo (group_ref g) (scene_arrived g (record s { queue = drop 1 s.queue; taken = n })) else scene_arrived g (record s { queue = drop 1 s.queue; taken = n }))
        by_course true e =
            let work : List Item = way_out action.TransitionTo (group_ref g) s in
            turned (record s { queue = drop 1 s.queue; work = work; taken = n })
            (put work (safe_leaving s.service fw (config_of s) s.application s.scene g (fine_scene s k) (awaited_safe s.service fw (config_of s) g s.transition e k.transition)))
            transition.Begun (late_without g s.late) tt
        by_course false e = turned (record s { queue = drop 1 s.queue; taken = n }) (put s.work k.work) s.transition (late_without g s.late) k.transition
    by (waiting.Input (input.Engine m)) here_it = put _ (heard_alone s k (engine_event m s.application) (group_there s k s.application (inl refl)))
