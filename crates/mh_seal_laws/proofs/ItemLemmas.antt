-- Items that bring no scene that is late.
use Rattle.std.specs.List.{list_all, list_any}
use Rattle.std.specs.Ordering.{int_eq}
use Rattle.std.specs.Prelude.{◌≡◌, ◌++◌, ◌+◌, ◌∷◌, ◌&&◌, ◌||◌, ◌==◌, Bool, List, None, Option, Some, [], false, filter, if◌then◌else◌, int_lt, length, map, nat_lt, not, pos, reverse, true, ℕ}
use Rattle.std.proofs.Common.{ap, refl, inl, inr}
use Rattle.mh_base.specs.declared.event.EventType.TheVariants as event
use Rattle.mh_base.specs.declared.event.EventType.{EventType}
use Rattle.mh_base.specs.declared.obj_ref.ObjRef.{ObjRef}
use Rattle.mh_base.specs.declared.value.Value.{Value}
use Rattle.mh_base.specs.declared.value.Value.TheVariants as value
use Rattle.mh_group.specs.Table.{is_runnable}
use Rattle.mh_group.specs.declared.attribute.Attribute.{Attribute}
use Rattle.mh_group.specs.declared.attribute.Attribute.TheVariants as attribute
use Rattle.mh_group.specs.declared.class.Class.{Class}
use Rattle.mh_group.specs.declared.class.Class.TheVariants as class
use Rattle.mh_model.specs.declared.act.Act.{Act}
use Rattle.mh_model.specs.declared.event.Event.{Event}
use Rattle.mh_model.specs.declared.file.File.{File}
use Rattle.mh_model.specs.declared.interaction.Interaction.{Interaction}
use Rattle.mh_model.specs.declared.item.Item.{Item}
use Rattle.mh_model.specs.declared.item.Item.TheVariants as item
use Rattle.mh_model.specs.declared.key.Key.{Key}
use Rattle.mh_model.specs.declared.key.Key.TheVariants as key
use Rattle.mh_model.specs.declared.object.Body.{Body}
use Rattle.mh_model.specs.declared.object.Fixed.{Fixed}
use Rattle.mh_model.specs.declared.object.Object.{Object}
use Rattle.mh_model.specs.declared.object.member.Member.{Member}
use Rattle.mh_model.specs.Bodies.{text_of}
use Rattle.mh_model.specs.EntryFields.{button_pressed, field_pressed, most_typed, not_pressed, overtyped, pressed_by, pressed_of, put_in, typed}
use Rattle.mh_model.specs.Groups.{all_halts, effect_of, entering, group_effect, halts, is_initially_active, is_shared, leaving, quitting, runs, scene_closing, scene_halts, unshared_halts}
use Rattle.mh_model.specs.Items.{acts, heard, matches, plain_event}
use Rattle.mh_model.specs.Key.{passes}
use Rattle.mh_model.specs.Late.{is_late_scene}
use Rattle.mh_model.specs.Lifecycle.{emit_if, group_halts, group_runs, halt_items, is_unprepared_at, loads_if, rise_items, run_items, running_items, started_items, stopping_items, token_told}
use Rattle.mh_model.specs.Lists.{Shown, count_told, halted_members, is_shown, list_events, list_items, run_members, shows, truth_told, nothing_shown}
use Rattle.mh_model.specs.Property.{as_effect, held}
use Rattle.mh_model.specs.Reference.{group_ref}
use Rattle.mh_model.specs.Service.{object_at, part_at}
use Rattle.mh_model.specs.State.{State, all}
use Rattle.mh_model.specs.Step.{key_items, key_taken, pressed_at, register_of}
use Rattle.mh_model.specs.Programs.{counted}
use Rattle.mh_model.specs.Tokens.{members}
use Rattle.mh_group.specs.Same.{are_same}
use Rattle.mh_model.specs.Widget.{event_with, no_work}
use Rattle.mh_model.proofs.ListLemmas.{and_left, and_right}
use Rattle.mh_laws.specs.Describing.{AreOf, IsOf, IsOneOf, Piece, is_way_piece}
use Rattle.mh_laws.specs.Describing as piece
use Rattle.mh_seal_laws.proofs.Whole.{AreHere, is_here}

-- Lists of items

pub and_both : (a b : Bool) → a ≡ true → b ≡ true → (a && b) ≡ true
and_both true b e f = f
and_both false b e f = absurd cc

pub both_here : (gs : List (List ℕ)) (xs ys : List Item) → AreHere gs xs → AreHere gs ys → AreHere gs (xs ++ ys)
both_here gs [] ys a b = b
both_here gs (x ∷ xs) ys a b = and_both (is_here gs x) (list_all (is_here gs) (xs ++ ys)) (and_left (is_here gs x) (list_all (is_here gs) xs) a) (both_here gs xs ys (and_right (is_here gs x) (list_all (is_here gs) xs) a) b)

mapped_here : {X : Type 0} (gs : List (List ℕ)) (f : X → Item) → ((x : X) → is_here gs (f x) ≡ true) → (xs : List X) → AreHere gs (map f xs)
mapped_here {X} gs f h [] = refl
mapped_here {X} gs f h (x ∷ xs) = and_both (is_here gs (f x)) (list_all (is_here gs) (map f xs)) (h x) (mapped_here gs f h xs)

acts_here : (gs : List (List ℕ)) (written : List Act) → AreHere gs (acts written)
acts_here gs written = mapped_here gs item.Act (λ a. refl) written

pub heard_here : (gs : List (List ℕ)) (e : Event) (os : List Object) → AreHere gs (heard e os)
heard_here gs e [] = refl
heard_here gs e (o ∷ os) = both_here gs (if matches e o then acts (as_effect (held attribute.LinkEffect o.fixed.properties)) else []) (heard e os) (by (matches e o)) (heard_here gs e os)
  where
    by : (b : Bool) → AreHere gs (if b then acts (as_effect (held attribute.LinkEffect o.fixed.properties)) else [])
    by true = acts_here gs (as_effect (held attribute.LinkEffect o.fixed.properties))
    by false = refl

pub emits_here : (gs : List (List ℕ)) (b : Bool) (r : ObjRef) (t : EventType) → AreHere gs (emit_if b r t)
emits_here gs true r t = refl
emits_here gs false r t = refl

-- What an action puts

piece_here : (gs : List (List ℕ)) (r : ObjRef) (vs : List Value) (o : Object) (p : Piece) (i : Item) → (is_way_piece p ≡ true → false ≡ true) → IsOf r vs o p i → is_here gs i ≡ true
piece_here gs r vs o piece.Prepares (item.Prepare x) none of = refl
piece_here gs r vs o piece.Runs (item.Run x) none of = refl
piece_here gs r vs o piece.Halts (item.Halt x) none of = refl
piece_here gs r vs o piece.Drops (item.Drop x) none of = refl
piece_here gs r vs o (piece.Tells kind) (item.Emit e) none of = refl
piece_here gs r vs o piece.Sends (item.Emit e) none of = refl
piece_here gs r vs o piece.Slots (item.Act a) none of = refl
piece_here gs r vs o piece.Lists (item.RunMember x) none of = refl
piece_here gs r vs o piece.Lists (item.HaltMember x) none of = refl
piece_here gs r vs o piece.Enters i none of = let never : false ≡ true = none refl in absurd cc
piece_here gs r vs o piece.Ends i none of = let never : false ≡ true = none refl in absurd cc
piece_here gs r vs o _ _ none of = absurd cc

or_first : (b y : Bool) → b ≡ true → (b || y) ≡ true
or_first true y e = refl
or_first false y e = absurd cc

or_second : (b y : Bool) → y ≡ true → (b || y) ≡ true
or_second true y e = refl
or_second false y e = e

one_here : (gs : List (List ℕ)) (r : ObjRef) (vs : List Value) (o : Object) (ps : List Piece) (i : Item) → (list_any is_way_piece ps ≡ true → false ≡ true) → IsOneOf r vs o ps i → is_here gs i ≡ true
one_here gs r vs o [] i none of = absurd cc
one_here gs r vs o (p ∷ ps) i none (inl of) = piece_here gs r vs o p i (λ h. none (or_first (is_way_piece p) (list_any is_way_piece ps) h)) of
one_here gs r vs o (p ∷ ps) i none (inr of) = one_here gs r vs o ps i (λ h. none (or_second (is_way_piece p) (list_any is_way_piece ps) h)) of

pub put_here : (gs : List (List ℕ)) (r : ObjRef) (vs : List Value) (o : Object) (ps : List Piece) (is : List Item) → (list_any is_way_piece ps ≡ true → false ≡ true) → AreOf r vs o ps is → AreHere gs is
put_here gs r vs o ps [] none of = refl
put_here gs r vs o ps (i ∷ is) none of = and_both (is_here gs i) (list_all (is_here gs) is) (one_here gs r vs o ps i none of.0) (put_here gs r vs o ps is none of.1)

-- What comes of the lives of objects

pub rise_here : (gs : List (List ℕ)) (fs : List File) (becomes : Option Object → Bool) (r : ObjRef) (o : Option Object) → AreHere gs (rise_items fs becomes r o)
rise_here gs fs becomes r o = both_here gs (emit_if (becomes o) r event.IsAvailable) (emit_if (loads_if fs becomes o) r event.ContentAvailable) (emits_here gs (becomes o) r event.IsAvailable) (emits_here gs (loads_if fs becomes o) r event.ContentAvailable)

truth_here : (gs : List (List ℕ)) (t : EventType) (r : ObjRef) (a b : Bool) → AreHere gs (truth_told t r a b)
truth_here gs t r a b = by (are_same a b)
  where
    by : (c : Bool) → AreHere gs (if c then [] else event_with r t (value.Bool b) ∷ [])
    by true = refl
    by false = refl

count_here : (gs : List (List ℕ)) (t : EventType) (r : ObjRef) (a b : ℕ) → AreHere gs (count_told t r a b)
count_here gs t r a b = by (a == b)
  where
    by : (c : Bool) → AreHere gs (if c then [] else event_with r t (value.Int (counted b)) ∷ [])
    by true = refl
    by false = refl

list_here : (gs : List (List ℕ)) (r : ObjRef) (a b : Shown) → AreHere gs (list_items r a b)
list_here gs r a b =
    both_here gs (halted_members a.items b.items ++ run_members a.items b.items) (list_events r a b)
    (both_here gs (halted_members a.items b.items) (run_members a.items b.items) (mapped_here gs item.HaltMember (λ x. refl) (filter (λ x. not (is_shown x b.items)) a.items)) (mapped_here gs item.RunMember (λ x. refl) (filter (λ x. not (is_shown x a.items)) b.items)))
    (both_here gs (truth_told event.FirstItemPresented r a.has_first b.has_first ++ truth_told event.LastItemPresented r a.has_last b.has_last ++ count_told event.HeadItems r a.head b.head) (count_told event.TailItems r a.tail b.tail)
    (both_here gs (truth_told event.FirstItemPresented r a.has_first b.has_first ++ truth_told event.LastItemPresented r a.has_last b.has_last) (count_told event.HeadItems r a.head b.head)
    (both_here gs (truth_told event.FirstItemPresented r a.has_first b.has_first) (truth_told event.LastItemPresented r a.has_last b.has_last) (truth_here gs event.FirstItemPresented r a.has_first b.has_first) (truth_here gs event.LastItemPresented r a.has_last b.has_last))
    (count_here gs event.HeadItems r a.head b.head))
    (count_here gs event.TailItems r a.tail b.tail))

group_runs_here : (gs : List (List ℕ)) (k : Class) (r : ObjRef) (o : Object) → AreHere gs (group_runs k r o)
group_runs_here gs class.TokenGroup r o = mapped_here gs (λ (m : Member). item.RunMember m.object) (λ m. refl) (members o.fixed)
group_runs_here gs class.ListGroup r o = list_here gs r nothing_shown (shows true o.fixed o.body.list)
group_runs_here gs _ r o = refl

group_halts_here : (gs : List (List ℕ)) (k : Class) (o : Object) → AreHere gs (group_halts k o)
group_halts_here gs class.TokenGroup o = mapped_here gs (λ (m : Member). item.HaltMember m.object) (λ m. refl) (members o.fixed)
group_halts_here gs class.ListGroup o = mapped_here gs item.HaltMember (λ x. refl) (filter (λ x. not (is_shown x [])) (shows o.body.running o.fixed o.body.list).items)
group_halts_here gs _ o = refl

token_here : (gs : List (List ℕ)) (k : Class) (r : ObjRef) → AreHere gs (plain_event r event.IsRunning ∷ token_told k r)
token_here gs class.TokenGroup r = refl
token_here gs _ r = refl

started_here : (gs : List (List ℕ)) (r : ObjRef) (m : Option Object) → AreHere gs (started_items r m)
started_here gs r None = refl
started_here gs r (Some o) = by o.body.running
  where
    by : (b : Bool) → AreHere gs (if b then [] else running_items r o)
    by true = refl
    by false = both_here gs (group_runs o.fixed.class r o) (plain_event r event.IsRunning ∷ token_told o.fixed.class r) (group_runs_here gs o.fixed.class r o) (token_here gs o.fixed.class r)

pub run_here : (gs : List (List ℕ)) (fs : List File) (r : ObjRef) (m : Option Object) → AreHere gs (run_items fs r m)
run_here gs fs r m = both_here gs (rise_items fs is_unprepared_at r m) (started_items r m) (rise_here gs fs is_unprepared_at r m) (started_here gs r m)

pub halt_here : (gs : List (List ℕ)) (r : ObjRef) (m : Option Object) → AreHere gs (halt_items r m)
halt_here gs r None = refl
halt_here gs r (Some o) = by o.body.running
  where
    by : (b : Bool) → AreHere gs (if b then stopping_items r o else [])
    by true = both_here gs (group_halts o.fixed.class o) (plain_event r event.IsStopped ∷ []) (group_halts_here gs o.fixed.class o) refl
    by false = refl

-- What comes of groups

effect_here : (gs : List (List ℕ)) (m : Option Fixed) (a : Attribute) → AreHere gs (effect_of m a)
effect_here gs None a = refl
effect_here gs (Some p) a = acts_here gs (as_effect (held a p.properties))

runs_here : (gs : List (List ℕ)) (ps : List Fixed) → AreHere gs (runs ps)
runs_here gs ps = mapped_here gs (λ (p : Fixed). item.Run p.key) (λ p. refl) ps

halts_here : (gs : List (List ℕ)) (ps : List Fixed) → AreHere gs (halts ps)
halts_here gs ps = mapped_here gs (λ (p : Fixed). item.Halt p.key) (λ p. refl) ps

pub entering_here : (gs : List (List ℕ)) (g : List ℕ) (ps : List Fixed) → AreHere gs (entering g ps)
entering_here gs g ps =
    both_here gs (group_effect g ps attribute.OnStartUp ++ runs (filter is_initially_active ps)) (plain_event (group_ref g) event.IsRunning ∷ [])
    (both_here gs (group_effect g ps attribute.OnStartUp) (runs (filter is_initially_active ps)) (effect_here gs (part_at (group_ref g) ps) attribute.OnStartUp) (runs_here gs (filter is_initially_active ps))) refl

closing_here : (gs : List (List ℕ)) (m : Option (List ℕ × List Fixed)) → AreHere gs (scene_closing m)
closing_here gs None = refl
closing_here gs (Some (g, ps)) = effect_here gs (part_at (group_ref g) ps) attribute.OnCloseDown

scene_halts_here : (gs : List (List ℕ)) (m : Option (List ℕ × List Fixed)) → AreHere gs (scene_halts m)
scene_halts_here gs None = refl
scene_halts_here gs (Some (g, ps)) = halts_here gs (filter (λ p. is_runnable p.class) (reverse ps))

pub leaving_here : (gs : List (List ℕ)) (ps : List Fixed) (m : Option (List ℕ × List Fixed)) (g : List ℕ) → is_late_scene g gs ≡ false → AreHere gs (leaving ps m g)
leaving_here gs ps m g h =
    both_here gs (scene_closing m ++ scene_halts m ++ unshared_halts ps) (item.Exchange g ∷ [])
    (both_here gs (scene_closing m ++ scene_halts m) (unshared_halts ps)
    (both_here gs (scene_closing m) (scene_halts m) (closing_here gs m) (scene_halts_here gs m))
    (halts_here gs (filter (λ p. is_runnable p.class && not (is_shared p)) (reverse ps))))
    (and_both (not (is_late_scene g gs)) true (ap not h) refl)

pub quitting_here : (gs : List (List ℕ)) (g : List ℕ) (ps : List Fixed) (m : Option (List ℕ × List Fixed)) (last : Item) → is_here gs last ≡ true → AreHere gs (quitting g ps m last)
quitting_here gs g ps m last h =
    both_here gs (scene_closing m ++ group_effect g ps attribute.OnCloseDown ++ scene_halts m ++ all_halts ps) (last ∷ [])
    (both_here gs (scene_closing m ++ group_effect g ps attribute.OnCloseDown ++ scene_halts m) (all_halts ps)
    (both_here gs (scene_closing m ++ group_effect g ps attribute.OnCloseDown) (scene_halts m)
    (both_here gs (scene_closing m) (group_effect g ps attribute.OnCloseDown) (closing_here gs m) (effect_here gs (part_at (group_ref g) ps) attribute.OnCloseDown))
    (scene_halts_here gs m))
    (halts_here gs (filter (λ p. is_runnable p.class) (reverse ps))))
    (and_both (is_here gs last) true h refl)

-- Keys

field_here : (gs : List (List ℕ)) (c : ℕ) (r : ObjRef) (p : Fixed) (b : Body) → AreHere gs (typed c r p b).items
field_here gs c r p b = by (b.overwrites && nat_lt b.point (length (text_of b))) (int_lt (pos (length (text_of b))) (most_typed p)) (int_eq (pos (length (text_of b) + 1)) (most_typed p))
  where
    by : (over room full : Bool) → AreHere gs (if over then overtyped c b else (if room then record { body = (put_in c r p b).body; items = if full then plain_event r event.EntryFieldFull ∷ [] else []; ends = false } else not_pressed b)).items
    by true room full = refl
    by false true true = refl
    by false true false = refl
    by false false full = refl

key_field_here : (gs : List (List ℕ)) (x : Key) (before : List ℕ) (r : ObjRef) (p : Fixed) (b : Body) → AreHere gs (field_pressed x before r p b).items
key_field_here gs key.Digit0 before r p b = field_here gs 48 r p b
key_field_here gs key.Digit1 before r p b = field_here gs 49 r p b
key_field_here gs key.Digit2 before r p b = field_here gs 50 r p b
key_field_here gs key.Digit3 before r p b = field_here gs 51 r p b
key_field_here gs key.Digit4 before r p b = field_here gs 52 r p b
key_field_here gs key.Digit5 before r p b = field_here gs 53 r p b
key_field_here gs key.Digit6 before r p b = field_here gs 54 r p b
key_field_here gs key.Digit7 before r p b = field_here gs 55 r p b
key_field_here gs key.Digit8 before r p b = field_here gs 56 r p b
key_field_here gs key.Digit9 before r p b = field_here gs 57 r p b
key_field_here gs _ before r p b = refl

key_button_here : (gs : List (List ℕ)) (x : Key) (r : ObjRef) (b : Body) → AreHere gs (button_pressed x r b).items
key_button_here gs key.Select r b = by (are_same b.selected true)
  where
    by : (same : Bool) → AreHere gs (pressed_by (if same then no_work b else record { body = record b { selected = true }; placed = []; items = plain_event r event.IsSelected ∷ [] })).items
    by true = refl
    by false = refl
key_button_here gs _ r b = refl

pressed_here : (gs : List (List ℕ)) (k : Class) (x : Key) (before : List ℕ) (r : ObjRef) (p : Fixed) (b : Body) → AreHere gs (pressed_of k x before r p b).items
pressed_here gs class.EntryField x before r p b = key_field_here gs x before r p b
pressed_here gs class.PushButton x before r p b = key_button_here gs x r b
pressed_here gs _ x before r p b = refl

pub key_here : (gs : List (List ℕ)) (x : Key) (m : Option Interaction) (s : State) → AreHere gs s.work → AreHere gs (key_taken x m s).work
key_here gs x None s h = by s.scene
  where
    through : (b : Bool) (e : Event) → AreHere gs (if b then heard e (all s.objects) else [])
    through true e = heard_here gs e (all s.objects)
    through false e = refl

    by : (m : Option (List ℕ)) → AreHere gs (key_items x m (all s.objects))
    by None = refl
    by (Some g) = through (passes (register_of (object_at (group_ref g) (all s.objects))) x) _
key_here gs x (Some i) s h = by (object_at i.object (all s.objects))
  where
    by : (m : Option Object) → AreHere gs (pressed_at x i m s).work
    by None = h
    by (Some o) = pressed_here gs o.fixed.class x i.before i.object o.fixed o.body
