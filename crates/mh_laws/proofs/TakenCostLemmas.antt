-- What is taken costs what it takes off the queue, or less.
use Rattle.std.specs.Option.{option_map, option_map_or}
use Rattle.std.specs.Ordering.{int_eq, is_lt}
use Rattle.std.specs.Prelude.{◌&&◌, ◌++◌, ◌+◌, ◌∷◌, ◌≡◌, ◌≤◌, Bool, List, None, Option, Some, [], cond, drop, false, filter, if◌then◌else◌, int_lt, length, map, max, nat_lt, pos, true, ℕ, ℤ}
use Rattle.std.specs.Str.{bytes_eq}
use Rattle.std.proofs.Common.{◌∙◌, ap, append-nil, arith, inl, inr, refl, subst, sym}
use Rattle.std.proofs.Math.Nat.{le-max_left, le-max_right}
use Rattle.std.proofs.lemmas.Bool.Decides.{Decides-int_eq}
use Rattle.std.proofs.lemmas.Slice.Eq.{bytes_eq-Decides}
use Rattle.mh_base.specs.declared.event.EventType.TheVariants as event
use Rattle.mh_base.specs.declared.obj_ref.ObjRef.{ObjRef}
use Rattle.mh_base.specs.declared.value.Value.TheVariants as value
use Rattle.mh_group.specs.Table.{is_stream}
use Rattle.mh_group.specs.declared.action_name.ActionName.TheVariants as action
use Rattle.mh_group.specs.declared.class.Class.{Class}
use Rattle.mh_group.specs.declared.class.Class.TheVariants as class
use Rattle.mh_model.specs.declared.config.Config.{Config}
use Rattle.mh_model.specs.declared.event.Event.{Event}
use Rattle.mh_model.specs.declared.file.Wait.{Wait}
use Rattle.mh_model.specs.declared.input.Input.{Input}
use Rattle.mh_model.specs.declared.input.Input.TheVariants as input
use Rattle.mh_model.specs.declared.input.Waiting.{Waiting}
use Rattle.mh_model.specs.declared.input.Waiting.TheVariants as waiting
use Rattle.mh_model.specs.declared.interaction.Interaction.{Interaction}
use Rattle.mh_model.specs.declared.item.Item.{Item}
use Rattle.mh_model.specs.declared.key.Key.{Key}
use Rattle.mh_model.specs.declared.key.Key.TheVariants as key
use Rattle.mh_model.specs.declared.object.Body.{Body}
use Rattle.mh_model.specs.declared.object.Fixed.{Fixed}
use Rattle.mh_model.specs.declared.object.Object.{Object}
use Rattle.mh_model.specs.declared.time.Timer.{Timer}
use Rattle.mh_model.specs.declared.transition.Transition.{Transition}
use Rattle.mh_model.specs.declared.transition.Transition.TheVariants as transition
use Rattle.mh_model.specs.Bodies.{text_of}
use Rattle.mh_model.specs.Configuration.{present}
use Rattle.mh_model.specs.EntryFields.{button_pressed, field_pressed, most_typed, not_pressed, overtyped, pressed_by, pressed_of, put_in, typed}
use Rattle.mh_model.specs.Items.{heard, plain_event}
use Rattle.mh_model.specs.Key.{passes}
use Rattle.mh_model.specs.Known.{class_at}
use Rattle.mh_group.specs.Same.{are_same}
use Rattle.mh_model.specs.Reference.{group_ref, same_ref}
use Rattle.mh_model.specs.Service.{Service, is_there, object_at, part_at, parts}
use Rattle.mh_model.specs.State.{State, all}
use Rattle.mh_model.specs.Rules.{begins}
use Rattle.mh_model.specs.Step.{awaits, scene_arrived, content_event, contents_told, engine_event, is_streaming, is_waiting, key_event, key_items, key_taken, pressed_at, register_of, stream_event, streams_told, timers_fired, took}
use Rattle.mh_model.specs.Time.{by_due, in_order, is_due, placed, timer_event}
use Rattle.mh_model.specs.Widget.{no_work}
use Rattle.mh_model.proofs.ListLemmas.{and_left, and_right}
use Rattle.mh_model.proofs.ServiceLemmas.{same_ref-same}
use Rattle.mh_laws.specs.Budget.{AreBounds, Bounds, IsAwaited, bound_of, count_timer, queue_cost, timer_key, waiting_cost}
use Rattle.mh_laws.specs.Costs.{Effect, TimerKey, arrival, entry, fired, heard_by, input_price, is_reader, late_scenes, scene_change, content_entries, plain_emit, pressed, same_timer, timer_entry, timers}
use Rattle.mh_laws.specs.Each.{Among, Each}
use Rattle.mh_laws.specs.Flow.{Flow, reached}
use Rattle.mh_laws.specs.Price.{Nothing, Price, if_price, most_price, sum_price}
use Rattle.mh_laws.specs.Safe.{IsPartOf, config_of}
use Rattle.mh_laws.specs.Ways.{Sure, Unsure}
use Rattle.mh_laws.proofs.ActCostLemmas.{leaving_cost}
use Rattle.mh_laws.proofs.FiredLemmas.{entry_known, fired_unsure, heard_fits, if_worth, told_fits}
use Rattle.mh_laws.proofs.FitLemmas.{Fits, fits_less, fits_none}
use Rattle.mh_laws.proofs.ItemCostLemmas.{Ready, covered_now, found_part, queue_append}
use Rattle.mh_laws.proofs.NodeLemmas.{config_among}
use Rattle.mh_laws.proofs.PriceLemmas.{le_same, le_trans}
use Rattle.mh_laws.proofs.SumLemmas.{IsCount, sum_counted}
use Rattle.mh_laws.specs.Weighing.{left, AreCovered, Weights, hears_key, work_cost, worth}
use Rattle.mh_laws.proofs.WeighLemmas.{among_most}

-- an entry costs no less than what is heard of it here
fired_entry : (v : Service) (w : Flow) (f : Weights) (c : Config) (e : Event) → reached w c ≡ true → is_there e.source (present v c) ≡ true → 1 + worth f (fired v c e.source e.kind (Sure e.data)) ≤ worth f (entry v w e.source e.kind (Sure e.data))
fired_entry v w f c e among there =
    let most = among_most f (λ x. if_price (is_there e.source (present v x)) (fired v x e.source e.kind (Sure e.data))) w.configs c (config_among w.configs c among) in
    let here : worth f (if_price (is_there e.source (present v c)) (fired v c e.source e.kind (Sure e.data))) ≡ worth f (fired v c e.source e.kind (Sure e.data)) = if_worth f (is_there e.source (present v c)) (fired v c e.source e.kind (Sure e.data)) there in
    ends _ _ _ most here
  where
    ends : (a x y : ℕ) → x ≤ y → x ≡ a → 1 + a ≤ 1 + y
    ends a x y h same = omega (arith, h, same)

-- an input's bound is no less than what it costs here
bound_here : (v : Service) (w : Flow) (f : Weights) (b : Bounds) (c : Config) (i : Input) → AreBounds v w f.cost b → reached w c ≡ true → worth f (input_price v w c i) ≤ bound_of b i
bound_here v w f b c i bounds among = le_trans _ _ _ (among_most f (λ x. input_price v w x i) w.configs c (config_among w.configs c among)) (bounds.inputs i)

-- what an event puts that is taken
heard_now : (w : Flow) (f : Weights) (s : State) → Ready w f s → (e : Event) → is_there e.source (present s.service (config_of s)) ≡ true → f.may e ≡ true → work_cost s.service w f (config_of s) (heard e (all s.objects)) ≤ worth f (fired s.service (config_of s) e.source e.kind (Sure e.data))
heard_now w f s k e there may =
    let v : Service = s.service in
    let c : Config = config_of s in
    let covered = subst (AreCovered v w f c (present v c)) (sym k.objects) (covered_now w f s k) in
    let fits = heard_fits v w f c e (present v c) (all s.objects) there covered ((k.woken).heard e may) in
    let now : Fits v w f c (heard e (all s.objects)) (worth f (fired v c e.source e.kind (Sure e.data))) = subst (λ (ps : List Fixed). Fits v w f c (heard e (all s.objects)) (worth f (heard_by c e ps))) k.objects fits in
    alone v w f c (heard e (all s.objects)) _ now
  where
    plus_none : (a n : ℕ) → a ≤ n + 0 → a ≤ n
    plus_none a n h = omega (arith, h)

    alone : (v : Service) (w : Flow) (f : Weights) (c : Config) (is : List Item) (n : ℕ) → Fits v w f c is n → work_cost v w f c is ≤ n
    alone v w f c is n h = plus_none _ _ (subst (λ (t : List Item). work_cost v w f c t ≤ n + 0) (append-nil is) (h []))

-- Keys

typed_fits : (v : Service) (w : Flow) (f : Weights) (c : Config) (x : ℕ) (r : ObjRef) (p : Fixed) (b : Body) → Fits v w f c (typed x r p b).items (worth f (plain_emit v w c r event.EntryFieldFull))
typed_fits v w f c x r p b = by (b.overwrites && nat_lt b.point (length (text_of b))) (int_lt (pos (length (text_of b))) (most_typed p)) (int_eq (pos (length (text_of b) + 1)) (most_typed p))
  where
    by : (over room full : Bool) → Fits v w f c (if over then overtyped x b else (if room then record { body = (put_in x r p b).body; items = if full then plain_event r event.EntryFieldFull ∷ [] else []; ends = false } else not_pressed b)).items (worth f (plain_emit v w c r event.EntryFieldFull))
    by true room full = fits_none v w f c _
    by false true true = told_fits v w f c r event.EntryFieldFull (Sure None) (plain_event r event.EntryFieldFull ∷ []) (refl, refl, refl)
    by false true false = fits_none v w f c _
    by false false full = fits_none v w f c _

completed_fits : (v : Service) (w : Flow) (f : Weights) (c : Config) (r : ObjRef) → Fits v w f c (plain_event r event.InteractionCompleted ∷ []) (worth f (plain_emit v w c r event.InteractionCompleted))
completed_fits v w f c r = told_fits v w f c r event.InteractionCompleted (Sure None) (plain_event r event.InteractionCompleted ∷ []) (refl, refl, refl)

field_fits : (v : Service) (w : Flow) (f : Weights) (c : Config) (k : Key) (before : List ℕ) (r : ObjRef) (p : Fixed) (b : Body) → Fits v w f c (field_pressed k before r p b).items (worth f (pressed v w c r class.EntryField))
field_fits v w f c key.Select before r p b = fits_less v w f c (plain_event r event.InteractionCompleted ∷ []) _ _ (le-max_right _ _) (completed_fits v w f c r)
field_fits v w f c key.Cancel before r p b = fits_less v w f c (plain_event r event.InteractionCompleted ∷ []) _ _ (le-max_right _ _) (completed_fits v w f c r)
field_fits v w f c key.Digit0 before r p b = fits_less v w f c (typed 48 r p b).items _ _ (le-max_left _ _) (typed_fits v w f c 48 r p b)
field_fits v w f c key.Digit1 before r p b = fits_less v w f c (typed 49 r p b).items _ _ (le-max_left _ _) (typed_fits v w f c 49 r p b)
field_fits v w f c key.Digit2 before r p b = fits_less v w f c (typed 50 r p b).items _ _ (le-max_left _ _) (typed_fits v w f c 50 r p b)
field_fits v w f c key.Digit3 before r p b = fits_less v w f c (typed 51 r p b).items _ _ (le-max_left _ _) (typed_fits v w f c 51 r p b)
field_fits v w f c key.Digit4 before r p b = fits_less v w f c (typed 52 r p b).items _ _ (le-max_left _ _) (typed_fits v w f c 52 r p b)
field_fits v w f c key.Digit5 before r p b = fits_less v w f c (typed 53 r p b).items _ _ (le-max_left _ _) (typed_fits v w f c 53 r p b)
field_fits v w f c key.Digit6 before r p b = fits_less v w f c (typed 54 r p b).items _ _ (le-max_left _ _) (typed_fits v w f c 54 r p b)
field_fits v w f c key.Digit7 before r p b = fits_less v w f c (typed 55 r p b).items _ _ (le-max_left _ _) (typed_fits v w f c 55 r p b)
field_fits v w f c key.Digit8 before r p b = fits_less v w f c (typed 56 r p b).items _ _ (le-max_left _ _) (typed_fits v w f c 56 r p b)
field_fits v w f c key.Digit9 before r p b = fits_less v w f c (typed 57 r p b).items _ _ (le-max_left _ _) (typed_fits v w f c 57 r p b)
field_fits v w f c _ before r p b = fits_none v w f c _

button_fits : (v : Service) (w : Flow) (f : Weights) (c : Config) (k : Key) (r : ObjRef) (b : Body) → Fits v w f c (button_pressed k r b).items (worth f (pressed v w c r class.PushButton))
button_fits v w f c key.Select r b = by (are_same b.selected true)
  where
    by : (same : Bool) → Fits v w f c (pressed_by (if same then no_work b else record { body = record b { selected = true }; placed = []; items = plain_event r event.IsSelected ∷ [] })).items (worth f (pressed v w c r class.PushButton))
    by true = fits_none v w f c (worth f (pressed v w c r class.PushButton))
    by false = fits_less v w f c (plain_event r event.IsSelected ∷ []) (worth f (plain_emit v w c r event.IsSelected)) (worth f (pressed v w c r class.PushButton)) (le-max_left (worth f (plain_emit v w c r event.IsSelected)) (worth f (plain_emit v w c r event.InteractionCompleted))) (told_fits v w f c r event.IsSelected (Sure None) (plain_event r event.IsSelected ∷ []) (refl, refl, refl))
button_fits v w f c key.Cancel r b = fits_less v w f c (plain_event r event.InteractionCompleted ∷ []) _ _ (le-max_right _ _) (completed_fits v w f c r)
button_fits v w f c _ r b = fits_none v w f c _

pressed_fits : (v : Service) (w : Flow) (f : Weights) (c : Config) (x : Class) (k : Key) (before : List ℕ) (r : ObjRef) (p : Fixed) (b : Body) → Fits v w f c (pressed_of x k before r p b).items (worth f (pressed v w c r x))
pressed_fits v w f c class.EntryField k before r p b = field_fits v w f c k before r p b
pressed_fits v w f c class.PushButton k before r p b = button_fits v w f c k r b
pressed_fits v w f c _ k before r p b = fits_none v w f c 0

-- Streams and files: an event for each object at most

streams_cost : (v : Service) (w : Flow) (f : Weights) (b : Bounds) (n : ℤ) (os : List Object) → queue_cost v w f.cost b (map (λ o. waiting.Event (stream_event n o)) (filter is_streaming os)) ≤ worth f (sum_price (λ (p : Fixed). if_price (is_stream p.class) (entry v w p.key event.StreamEvent Unsure)) (parts os))
streams_cost v w f b n [] = le_same 0
streams_cost v w f b n (o ∷ os) = by (is_stream o.fixed.class) o.body.running (streams_cost v w f b n os) (entry_known v w f o.fixed.key event.StreamEvent Unsure (Some (value.Int n)) tt)
  where
    rest : ℕ
    rest = worth f (sum_price (λ (p : Fixed). if_price (is_stream p.class) (entry v w p.key event.StreamEvent Unsure)) (parts os))

    by : (is running : Bool) → queue_cost v w f.cost b (map (λ o. waiting.Event (stream_event n o)) (filter is_streaming os)) ≤ rest → worth f (entry v w o.fixed.key event.StreamEvent (Sure (Some (value.Int n)))) ≤ worth f (entry v w o.fixed.key event.StreamEvent Unsure) → queue_cost v w f.cost b (map (λ o. waiting.Event (stream_event n o)) (cond (is && running) (o ∷ filter is_streaming os) (filter is_streaming os))) ≤ worth f (if_price is (entry v w o.fixed.key event.StreamEvent Unsure)) + rest
    by true true h known = both _ _ _ _ known h
      where
        both : (a x r q : ℕ) → a ≤ x → r ≤ q → a + r ≤ x + q
        both a x r q h k = omega (arith, h, k)
    by true false h known = le_trans _ _ _ h (further _ _)
      where
        further : (x q : ℕ) → q ≤ x + q
        further x q = omega arith
    by false running h known = le_trans _ _ _ h (further _)
      where
        further : (q : ℕ) → q ≤ 0 + q
        further q = omega arith

contents_cost : (v : Service) (w : Flow) (f : Weights) (b : Bounds) (name : List ℕ) (ws : List Wait) (all : List Fixed) (os : List Object) → Each (λ (o : Object). is_waiting name ws o ≡ true → is_reader (class_at o.fixed.key all) ≡ true) os → queue_cost v w f.cost b (map (λ o. waiting.Event (content_event o)) (filter (is_waiting name ws) os)) ≤ worth f (sum_price (λ (p : Fixed). if_price (is_reader (class_at p.key all)) (entry v w p.key event.ContentAvailable (Sure None))) (parts os))
contents_cost v w f b name ws all [] h = le_same 0
contents_cost v w f b name ws all (o ∷ os) h = by (is_waiting name ws o) h.0 (contents_cost v w f b name ws all os h.1)
  where
    rest : ℕ
    rest = worth f (sum_price (λ (p : Fixed). if_price (is_reader (class_at p.key all)) (entry v w p.key event.ContentAvailable (Sure None))) (parts os))

    own : Price Effect
    own = entry v w o.fixed.key event.ContentAvailable (Sure None)

    by : (is : Bool) → (is ≡ true → is_reader (class_at o.fixed.key all) ≡ true) → queue_cost v w f.cost b (map (λ o. waiting.Event (content_event o)) (filter (is_waiting name ws) os)) ≤ rest → queue_cost v w f.cost b (map (λ o. waiting.Event (content_event o)) (cond is (o ∷ filter (is_waiting name ws) os) (filter (is_waiting name ws) os))) ≤ worth f (if_price (is_reader (class_at o.fixed.key all)) own) + rest
    by true has h = both _ _ _ _ h (if_worth f (is_reader (class_at o.fixed.key all)) own (has refl))
      where
        both : (a x r q : ℕ) → r ≤ q → x ≡ a → a + r ≤ x + q
        both a x r q h same = omega (arith, h, same)
    by false has h = le_trans _ _ _ h (further _ _)
      where
        further : (x q : ℕ) → q ≤ x + q
        further x q = omega arith

-- Timers

pub key_itself : (x : TimerKey) → same_timer x x ≡ true
key_itself x = both ((bytes_eq-Decides x.0 x.0).1 refl) ((Decides-int_eq x.1 x.1).1 refl)
  where
    both : {a b : Bool} → a ≡ true → b ≡ true → (a && b) ≡ true
    both {a} {b} h k = ap (λ (t : Bool). t && b) h ∙ k

pub key_same : (x y : TimerKey) → same_timer x y ≡ true → x ≡ y
key_same x y h =
    let groups : x.0 ≡ y.0 = (bytes_eq-Decides x.0 y.0).0 (and_left (bytes_eq x.0 y.0) (int_eq x.1 y.1) h) in
    let ids : x.1 ≡ y.1 = (Decides-int_eq x.1 y.1).0 (and_right (bytes_eq x.0 y.0) (int_eq x.1 y.1) h) in
    λ i. (groups i, ids i)

count_timers : IsCount same_timer count_timer
count_timers = record { none = λ q. refl; more = λ q y ys. refl; itself = key_itself; alike = key_same }

-- what the events of these timers cost
abbrev fired_cost : Service → Flow → Weights → List Timer → ℕ
fired_cost v w f ts = worth f (sum_price (timer_entry v w) (map timer_key ts))

placed_cost : (v : Service) (w : Flow) (f : Weights) (app : List ℕ) (t : Timer) (ts : List Timer) → fired_cost v w f (placed app t ts) ≡ worth f (timer_entry v w (timer_key t)) + fired_cost v w f ts
placed_cost v w f app t [] = refl
placed_cost v w f app t (x ∷ xs) = by (is_lt (by_due app t x)) (placed_cost v w f app t xs)
  where
    own : ℕ
    own = worth f (timer_entry v w (timer_key t))

    other : ℕ
    other = worth f (timer_entry v w (timer_key x))

    by : (b : Bool) → fired_cost v w f (placed app t xs) ≡ own + fired_cost v w f xs → fired_cost v w f (if b then t ∷ x ∷ xs else x ∷ placed app t xs) ≡ own + (other + fired_cost v w f xs)
    by true h = refl
    by false h = omega (arith, h)

ordered_cost : (v : Service) (w : Flow) (f : Weights) (app : List ℕ) (ts : List Timer) → fired_cost v w f (in_order app ts) ≡ fired_cost v w f ts
ordered_cost v w f app [] = refl
ordered_cost v w f app (t ∷ ts) = let h = ordered_cost v w f app ts in let k = placed_cost v w f app t (in_order app ts) in omega (arith, h, k)

filtered_cost : (v : Service) (w : Flow) (f : Weights) (p : Timer → Bool) (ts : List Timer) → fired_cost v w f (filter p ts) ≤ fired_cost v w f ts
filtered_cost v w f p [] = le_same 0
filtered_cost v w f p (t ∷ ts) = by (p t) (filtered_cost v w f p ts)
  where
    by : (b : Bool) → fired_cost v w f (filter p ts) ≤ fired_cost v w f ts → fired_cost v w f (cond b (t ∷ filter p ts) (filter p ts)) ≤ worth f (timer_entry v w (timer_key t)) + fired_cost v w f ts
    by true h = omega (arith, h)
    by false h = omega (arith, h)

events_cost : (v : Service) (w : Flow) (f : Weights) (b : Bounds) (ts : List Timer) → queue_cost v w f.cost b (map (λ t. waiting.Event (timer_event t)) ts) ≡ fired_cost v w f ts
events_cost v w f b [] = refl
events_cost v w f b (t ∷ ts) = let h = events_cost v w f b ts in omega (arith, h)

-- Taking

-- what else is known of a state: its groups are there, its timers are among those that can be set, none more often, and
-- only what has content waits for a file
pub record Attends (w : Flow) (s : State) : Type 0 where
  pub groups : (g : List ℕ) → IsPartOf (config_of s) g → is_there (group_ref g) (present s.service (config_of s)) ≡ true
  pub timers : (x : TimerKey) → count_timer x (map timer_key s.timers) ≤ count_timer x (timers s.service w (config_of s))
  pub waits : (name : List ℕ) → Each (λ (o : Object). is_waiting name s.waits o ≡ true → is_reader (class_at o.fixed.key (present s.service (config_of s))) ≡ true) (all s.objects)
  pub awaited : IsAwaited s.service w (config_of s) s.transition

abbrev pub IsFromHere : Weights → State → Waiting → Type 0
IsFromHere f s (waiting.Event e) = (is_there e.source (present s.service (config_of s)) ≡ true) × (f.may e ≡ true)
IsFromHere f s (waiting.Input i) = Unit {0}

-- with an empty work list
abbrev TookFalls : Flow → Weights → Bounds → State → Waiting → List Waiting → State → Type 0
TookFalls w f b s x rest t = 1 + left w f b t ≤ waiting_cost s.service w f.cost b x + queue_cost s.service w f.cost b rest

-- the price of an input, and its bound
bounded : (v : Service) (w : Flow) (f : Weights) (b : Bounds) (c : Config) (i : Input) (n : ℕ) → AreBounds v w f.cost b → reached w c ≡ true → 1 + n ≤ worth f (input_price v w c i) → 1 + n ≤ bound_of b i
bounded v w f b c i n bounds among h = le_trans _ _ _ h (bound_here v w f b c i bounds among)

abbrev heard_key_of : Service → Config → Option (List ℕ) → Price Effect
heard_key_of v c m = option_map_or (λ (g : List ℕ). fired v c (group_ref g) event.UserInput Unsure) m Nothing

key_number_fits : (w : Flow) (f : Weights) (s : State) (k : Ready w f s) (m : Attends w s) (x : Key) (scene : Option (List ℕ)) → s.scene ≡ scene → work_cost s.service w f (config_of s) (key_items x scene (all s.objects)) ≤ worth f (heard_key_of s.service (config_of s) scene)
key_number_fits w f s k m x None e = le_same 0
key_number_fits w f s k m x (Some g) e = by (passes (register_of (object_at (group_ref g) (all s.objects))) x) refl
  where
    c : Config
    c = config_of s

    by : (t : Bool) → hears_key s g x ≡ t → work_cost s.service w f c (if t then heard (key_event x (group_ref g)) (all s.objects) else []) ≤ worth f (fired s.service c (group_ref g) event.UserInput Unsure)
    by true heard = le_trans _ _ _ (heard_now w f s k (key_event x (group_ref g)) (m.groups g (inr e)) ((k.woken).keys x g e heard)) (fired_unsure s.service f c (group_ref g) event.UserInput (key_event x (group_ref g)).data)
    by false heard = nothing _
      where
        nothing : (n : ℕ) → 0 ≤ n
        nothing n = omega arith

part_found : (r : ObjRef) (ps : List Fixed) (p : Fixed) → part_at r ps ≡ Some p → Among ps p × (r ≡ p.key)
part_found r [] p e = absurd cc
part_found r (x ∷ ps) p e = by (same_ref r x.key) refl e (λ h. part_found r ps p h)
  where
    by : (b : Bool) → same_ref r x.key ≡ b → cond b (Some x) (part_at r ps) ≡ Some p → (part_at r ps ≡ Some p → Among ps p × (r ≡ p.key)) → Among (x ∷ ps) p × (r ≡ p.key)
    by true is e further =
        let same : x ≡ p = ap (λ (m : Option Fixed). option_map_or (λ (z : Fixed). z) m x) e in
        (inl same, same_ref-same r x.key is ∙ ap (λ (z : Fixed). z.key) same)
    by false is e further = let h = further e in (inr h.0, h.1)

alone_cost : (v : Service) (w : Flow) (f : Weights) (c : Config) (is : List Item) (n : ℕ) → Fits v w f c is n → work_cost v w f c is ≤ n
alone_cost v w f c is n h = plus_none _ _ (subst (λ (t : List Item). work_cost v w f c t ≤ n + 0) (append-nil is) (h []))
  where
    plus_none : (a n : ℕ) → a ≤ n + 0 → a ≤ n
    plus_none a n h = omega (arith, h)

more_one : (x y : ℕ) → x ≤ y → 1 + x ≤ 1 + y
more_one x y h = omega (arith, h)

-- a scene that is waited for is one to which an active action can lead
awaited_here : (v : Service) (w : Flow) (c : Config) (g : List ℕ) (t : Transition) → awaits g t ≡ true → IsAwaited v w c t → Among (late_scenes v w c) g
awaited_here v w c g transition.Rests e is = absurd cc
awaited_here v w c g transition.Begun e is = absurd cc
awaited_here v w c g (transition.Awaits h) e is = subst (λ (x : List ℕ). Among (late_scenes v w c) x) (sym ((bytes_eq-Decides g h).0 e)) is

pub took_falls : (w : Flow) (f : Weights) (b : Bounds) (s : State) → Ready w f s → Attends w s → AreBounds s.service w f.cost b → (x : Waiting) (rest : List Waiting) → s.work ≡ [] → s.queue ≡ x ∷ rest → IsFromHere f s x → TookFalls w f b s x rest (took x s)
took_falls w f b s k m bounds x rest idle e here_it = by x here_it
  where
    v : Service
    v = s.service

    c : Config
    c = config_of s

    behind_it : drop 1 s.queue ≡ rest
    behind_it = ap (drop 1) e

    no_work : work_cost v w f c s.work ≡ 0
    no_work = ap (work_cost v w f c) idle

    queue_is : queue_cost v w f.cost b (drop 1 s.queue) ≡ queue_cost v w f.cost b rest
    queue_is = ap (queue_cost v w f.cost b) behind_it

    working : (a n r : ℕ) → a ≤ n → 1 + n ≤ r → 1 + (a + queue_cost v w f.cost b (drop 1 s.queue)) ≤ r + queue_cost v w f.cost b rest
    working a n r h l = let q = queue_is in omega (arith, q, h, l)

    waiting_on : (more : List Waiting) (n r : ℕ) → queue_cost v w f.cost b more ≤ n → 1 + n ≤ r → 1 + (work_cost v w f c s.work + queue_cost v w f.cost b (drop 1 s.queue ++ more)) ≤ r + queue_cost v w f.cost b rest
    waiting_on more n r h l =
        let q = queue_is in
        let joined = queue_append v w f b (drop 1 s.queue) more in
        let none = no_work in
        omega (arith, q, h, l, joined, none)

    -- the costliest transition that waits for a scene
    most_on : ℕ
    most_on = worth f (most_price (scene_change v w c) (late_scenes v w c))

    coming_bound : (i : Input) → input_price v w c i ≡ arrival v w c → (n : ℕ) → n ≤ max (worth f (content_entries v w c)) most_on → 1 + n ≤ bound_of b i
    coming_bound i is n h = bounded v w f b c i n bounds k.among (subst (λ (p : Price Effect). 1 + n ≤ worth f p) (sym is) (more_one _ _ h))

    by : (x : Waiting) → IsFromHere f s x → TookFalls w f b s x rest (took x s)
    by (waiting.Event ev) there = working _ _ _ (heard_now w f s k ev there.0 there.1) (fired_entry v w f c ev k.among there.0)
    by (waiting.Input (input.Stream n)) there =
        let own : queue_cost v w f.cost b (streams_told n s) ≤ worth f (sum_price (λ (p : Fixed). if_price (is_stream p.class) (entry v w p.key event.StreamEvent Unsure)) (present v c)) = subst (λ (ps : List Fixed). queue_cost v w f.cost b (streams_told n s) ≤ worth f (sum_price (λ (p : Fixed). if_price (is_stream p.class) (entry v w p.key event.StreamEvent Unsure)) ps)) k.objects (streams_cost v w f b n (all s.objects)) in
        waiting_on (streams_told n s) _ _ own (bounded v w f b c (input.Stream n) _ bounds k.among (le_same _))
    by (waiting.Input (input.Engine n)) there =
        let ev : Event = engine_event n s.application in
        working _ _ _ (le_trans _ _ _ (heard_now w f s k ev (m.groups s.application (inl refl)) ((k.woken).engine n)) (fired_unsure v f c (group_ref s.application) event.EngineEvent ev.data)) (bounded v w f b c (input.Engine n) _ bounds k.among (le_same _))
    by (waiting.Input (input.Arrive x)) there =
        let own : queue_cost v w f.cost b (contents_told x.name s) ≤ worth f (sum_price (λ (p : Fixed). if_price (is_reader (class_at p.key (present v c))) (entry v w p.key event.ContentAvailable (Sure None))) (present v c)) = subst (λ (ps : List Fixed). queue_cost v w f.cost b (contents_told x.name s) ≤ worth f (sum_price (λ (p : Fixed). if_price (is_reader (class_at p.key (present v c))) (entry v w p.key event.ContentAvailable (Sure None))) ps)) k.objects (contents_cost v w f b x.name s.waits (present v c) (all s.objects) (m.waits x.name)) in
        waiting_on (contents_told x.name s) _ _ own (coming_bound (input.Arrive x) refl _ (le-max_left (worth f (content_entries v w c)) most_on))
    by (waiting.Input (input.Scene g x)) there = by_course (awaits g s.transition) refl
      where
        by_course : (t : Bool) → awaits g s.transition ≡ t → TookFalls w f b s (waiting.Input (input.Scene g x)) rest (if t then begins action.TransitionTo (group_ref g) (scene_arrived g (record s { queue = drop 1 s.queue; taken = s.taken + 1 })) else scene_arrived g (record s { queue = drop 1 s.queue; taken = s.taken + 1 }))
        by_course true e =
            let on = among_most f (scene_change v w c) (late_scenes v w c) g (awaited_here v w c g s.transition e m.awaited) in
            working _ _ _ (leaving_cost w f s k g) (coming_bound (input.Scene g x) refl _ (le_trans _ _ _ on (le-max_right (worth f (content_entries v w c)) most_on)))
        by_course false e = working _ 0 _ (let none = no_work in omega (arith, none)) (coming_bound (input.Scene g x) refl 0 (omega arith))
    by (waiting.Input (input.Tick n)) there =
        let now : ℕ = s.moments.present + n in
        let fired_now : List Timer = filter (is_due now) s.timers in
        let told = events_cost v w f b (in_order s.application fired_now) in
        let ordered = ordered_cost v w f s.application fired_now in
        let fewer = filtered_cost v w f (is_due now) s.timers in
        let within = sum_counted same_timer count_timer count_timers f.cost (timer_entry v w) (map timer_key s.timers) (timers v w c) m.timers in
        let own : queue_cost v w f.cost b (timers_fired now s) ≤ worth f (sum_price (timer_entry v w) (timers v w c)) = omega (arith, told, ordered, fewer, within) in
        waiting_on (timers_fired now s) _ _ own (bounded v w f b c (input.Tick n) _ bounds k.among (le_same _))
    by (waiting.Input (input.Key x)) there = by_interaction s.interaction
      where
        keys : ℕ
        keys = worth f (heard_key_of v c s.scene)

        most : ℕ
        most = worth f (most_price (λ (p : Fixed). pressed v w c p.key p.class) (present v c))

        bound : (n : ℕ) → n ≤ max keys most → 1 + n ≤ bound_of b (input.Key x)
        bound n h = bounded v w f b c (input.Key x) n bounds k.among (more_one _ _ h)

        by_interaction : (i : Option Interaction) → TookFalls w f b s (waiting.Input (input.Key x)) rest (key_taken x i (record s { queue = drop 1 s.queue; taken = s.taken + 1 }))
        by_interaction None = working _ _ _ (key_number_fits w f s k m x s.scene refl) (bound keys (le-max_left keys most))
        by_interaction (Some i) = by_object (object_at i.object (all s.objects)) refl
          where
            by_object : (o : Option Object) → object_at i.object (all s.objects) ≡ o → TookFalls w f b s (waiting.Input (input.Key x)) rest (pressed_at x i o (record s { queue = drop 1 s.queue; taken = s.taken + 1 }))
            by_object None e = working _ 0 _ (let none = no_work in omega (arith, none)) (bound 0 (omega arith))
            by_object (Some o) e =
                let part : part_at i.object (present v c) ≡ Some o.fixed = found_part w f s k i.object ∙ ap (option_map (λ (z : Object). z.fixed)) e in
                let at = part_found i.object (present v c) o.fixed part in
                let price : worth f (pressed v w c i.object o.fixed.class) ≤ most = subst (λ (r : ObjRef). worth f (pressed v w c r o.fixed.class) ≤ most) (sym at.1) (among_most f (λ (p : Fixed). pressed v w c p.key p.class) (present v c) o.fixed at.0) in
                working _ _ _ (alone_cost v w f c (pressed_of o.fixed.class x i.before i.object o.fixed o.body).items _ (pressed_fits v w f c o.fixed.class x i.before i.object o.fixed o.body)) (bound (worth f (pressed v w c i.object o.fixed.class)) (le_trans _ _ _ price (le-max_right keys most)))
