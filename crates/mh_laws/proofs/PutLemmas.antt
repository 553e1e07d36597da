-- What an action puts is safe, and what it gives to receivers changes bodies alone.
use Rattle.std.specs.Prelude.{◌≡◌, ◌==◌, not, if◌then◌else◌, cond, map, filter, Bool, true, false, ◌||◌, List, [], ◌∷◌, ◌++◌, slice_get, Option, Some, None, refl}
use Rattle.std.specs.List.{flat_map, list_all, list_any}
use Rattle.std.specs.Option.{option_to_list, option_map, option_map_or}
use Rattle.std.proofs.Common.{inl, inr, ap, ◌∙◌, sym, subst}
use Rattle.mh_base.specs.declared.event.EventType.TheVariants as event
use Rattle.mh_base.specs.declared.event.EventType.{EventType}
use Rattle.mh_base.specs.declared.obj_ref.ObjRef.{ObjRef}
use Rattle.mh_base.specs.declared.value.Kind.TheVariants as kind
use Rattle.mh_base.specs.declared.value.Value.TheVariants as value
use Rattle.mh_base.specs.declared.value.Value.{Value}
use Rattle.mh_group.specs.declared.action_name.ActionName.TheVariants as action
use Rattle.mh_group.specs.declared.action_name.ActionName.{ActionName}
use Rattle.mh_group.specs.declared.class.Class.TheVariants as class
use Rattle.mh_group.specs.declared.class.Class.{Class}
use Rattle.mh_group.specs.declared.shape.Need.TheVariants as need
use Rattle.mh_group.specs.Table.{needs_of, is_list_group, is_visible}
use Rattle.mh_model.specs.declared.act.Act.{Act}
use Rattle.mh_model.specs.declared.act.Argument.TheVariants as argument
use Rattle.mh_model.specs.declared.act.Argument.{Argument}
use Rattle.mh_model.specs.declared.act.Target.{Target}
use Rattle.mh_model.specs.declared.config.Config.{Config}
use Rattle.mh_model.specs.declared.item.Item.TheVariants as item
use Rattle.mh_model.specs.declared.item.Item.{Item}
use Rattle.mh_model.specs.declared.object.member.Member.{Member}
use Rattle.mh_model.specs.declared.object.Fixed.{Fixed}
use Rattle.mh_model.specs.declared.object.Object.{Object}
use Rattle.mh_model.specs.Arguments.{values, value_in}
use Rattle.mh_model.specs.Bodies.{stored}
use Rattle.mh_model.specs.Configuration.{present}
use Rattle.mh_model.specs.Faults.{variable_wrongs, argument_wrongs, named_wrongs, takes_object, arguments_wrongs, object_wrongs}
use Rattle.mh_model.specs.Known.{Known, class_at}
use Rattle.mh_model.specs.Lifecycle.{members_run, members_halted, group_runs, group_halts, token_told}
use Rattle.mh_model.specs.ListItems.{has_item}
use Rattle.mh_group.specs.Same.{are_same}
use Rattle.mh_model.specs.Lists.{Shown, nothing_shown, shows, is_shown, halted_members, run_members, truth_told, count_told, list_events, list_items}
use Rattle.mh_model.specs.Programs.{counted}
use Rattle.mh_model.specs.Property.{as_reference}
use Rattle.mh_model.specs.Rules.{changed, filled}
use Rattle.mh_model.specs.Service.{Service, part_at, parts, is_there}
use Rattle.mh_model.specs.State.{State, Objects, all}
use Rattle.mh_model.specs.Step.{is_empty}
use Rattle.mh_model.specs.Tokens.{members, slot_actions}
use Rattle.mh_model.specs.Variables.{same_kind}
use Rattle.mh_model.specs.Widget.{event_with}
use Rattle.mh_laws.specs.Active.{member_wrongs}
use Rattle.mh_laws.specs.Describing as piece
use Rattle.mh_laws.specs.Describing.{is_way_piece, IsListed, Piece, is_sent, is_list_piece, is_slot_piece, can_put, IsOf, IsOneOf, AreOf}
use Rattle.mh_laws.specs.Each.{Each as Each, Each}
use Rattle.mh_laws.specs.Flow.{Flow}
use Rattle.mh_laws.specs.Safe.{IsFine, IsSafeWork, IsSafeBy}
use Rattle.mh_model.proofs.ListLemmas.{empty_is, and_left, and_right, some_same, empty_left, empty_right}
use Rattle.mh_model.proofs.PartLemmas.{changed-own, changed-others}
use Rattle.mh_laws.proofs.ActLemmas.{parts_of, refers_now, known_now, IsSound}
use Rattle.mh_laws.proofs.EachLemmas.{each_contained}
use Rattle.mh_laws.proofs.FaultLemmas.{fit_object}
use Rattle.mh_laws.proofs.HandLemmas.{sent_placed}
use Rattle.mh_laws.proofs.ListedLemmas.{own_among, shown_among}
use Rattle.mh_laws.proofs.WorkLemmas.{IsSafeFront, both_safe}

-- what receivers are given changes bodies alone

pub filled-own : (rs : List ObjRef) (vs : List Value) (os : Objects) → parts (filled rs vs os).application ≡ parts os.application
filled-own [] vs os = refl
filled-own (r ∷ rs) [] os = refl
filled-own (r ∷ rs) (v ∷ vs) os = filled-own rs vs (changed (λ p b. stored v b) r os) ∙ changed-own (λ p b. stored v b) r os

pub filled-others : (rs : List ObjRef) (vs : List Value) (os : Objects) → parts (filled rs vs os).scene ≡ parts os.scene
filled-others [] vs os = refl
filled-others (r ∷ rs) [] os = refl
filled-others (r ∷ rs) (v ∷ vs) os = filled-others rs vs (changed (λ p b. stored v b) r os) ∙ changed-others (λ p b. stored v b) r os

-- What an action puts comes from objects that are present.

-- an object with which nothing is wrong is there
pub fit_there : (is : Class → Bool) (v : Option ObjRef) (r : ObjRef) (ps : List Fixed) → object_wrongs is v r (class_at r ps) ≡ [] → is_there r ps ≡ true
fit_there is v r ps e =
    let fit = fit_object is v r (class_at r ps) e in
    by (part_at r ps) fit.0 fit.1
  where
    by : (m : Option Fixed) (c : Class) → option_map (λ (p : Fixed). p.class) m ≡ Some c → option_map_or (λ (p : Fixed). true) m false ≡ true
    by None c e = absurd cc
    by (Some p) c e = refl

-- the source of an event that is sent is one that the action names
pub sent_right : (k : Known) (n : ActionName) (t : Target) (xs : List Argument) (y : Argument) → list_any is_sent (can_put n) ≡ true → arguments_wrongs k (record { name = n; target = t; arguments = xs }) (needs_of n) xs ≡ [] → slice_get xs 0 ≡ Some y → argument_wrongs k (record { name = n; target = t; arguments = xs }) need.Ref y ≡ []
sent_right k action.SendEvent t xs y sends good e = by xs e good
  where
    a : Act
    a = record { name = action.SendEvent; target = t; arguments = xs }

    by : (ys : List Argument) → slice_get ys 0 ≡ Some y → arguments_wrongs k a (need.Ref ∷ need.Event ∷ need.Data ∷ []) ys ≡ [] → argument_wrongs k a need.Ref y ≡ []
    by [] e good = absurd cc
    by (x ∷ ys) e good = subst (λ (z : Argument). argument_wrongs k a need.Ref z ≡ []) (some_same e) (empty_left (argument_wrongs k a need.Ref x) _ good)
sent_right k _ t xs y sends good e = absurd cc

pub named_there : {fw : Flow} (s : State) (k : IsSafeBy fw s) (a : Act) (r q : ObjRef) → IsSound fw s k a r → list_any is_sent (can_put a.name) ≡ true → slice_get (values (all s.objects) a.arguments) 0 ≡ Some (value.Object q) → is_there q (parts_of s) ≡ true
named_there {fw} s k a r q so sends first = by at.0 at.1 at.2
  where
    placed : (n : ActionName) (t : Target) (xs : List Argument) → list_any is_sent (can_put n) ≡ true → arguments_wrongs (known_now s) (record { name = n; target = t; arguments = xs }) (needs_of n) xs ≡ [] → slice_get (values (all s.objects) xs) 0 ≡ Some (value.Object q) → (y : Argument) × (slice_get xs 0 ≡ Some y) × (value_in (all s.objects) y ≡ Some (value.Object q))
    placed action.SendEvent t xs sends good first = sent_placed s k t xs (value.Object q) good first
    placed _ t xs sends good first = absurd cc

    at : (y : Argument) × (slice_get a.arguments 0 ≡ Some y) × (value_in (all s.objects) y ≡ Some (value.Object q))
    at = placed a.name a.target a.arguments sends so.good first

    by : (y : Argument) → slice_get a.arguments 0 ≡ Some y → value_in (all s.objects) y ≡ Some (value.Object q) → is_there q (parts_of s) ≡ true
    by (argument.Direct v) stands is_it =
        fit_there (takes_object a.name) None q (parts_of s)
        (subst (λ (x : Value). argument_wrongs (known_now s) a need.Ref (argument.Direct x) ≡ []) (some_same is_it) (sent_right (known_now s) a.name a.target a.arguments (argument.Direct v) sends so.good stands))
    by (argument.Through v u) stands is_it =
        let free = sent_right (known_now s) a.name a.target a.arguments (argument.Through v u) sends so.good stands in
        let named = named_wrongs (known_now s) a.name (Some v) in
        let behind_it = empty_right (variable_wrongs (same_kind kind.Object) v (class_at v (parts_of s))) (flat_map named (refers_now s v)) free in
        fit_there (takes_object a.name) (Some v) q (parts_of s)
        (empty_left (named q) [] (subst (λ (m : Option ObjRef). flat_map named (option_to_list m) ≡ []) (ap as_reference is_it) behind_it))
    by (argument.Receiver v) stands is_it = absurd cc

-- an item that a list can run and halt
abbrev pub IsGoodItem : List Fixed → ObjRef → Type 0
IsGoodItem ps x = object_wrongs is_visible None x (class_at x ps) ≡ []

-- What has to hold where an action puts items of these pieces, done with these values to this object: what it is done
-- to is there, and what it names to send an event; its slots do nothing that can be stuck; what it lists can run and halt;
-- and it is no transition.
pub record Grounds (v : Service) (fw : Flow) (c : Config) (r : ObjRef) (vs : List Value) (o : Object) (ps : List Piece) : Type 0 where
  pub here_it : is_there r (present v c) ≡ true
  pub named : list_any is_sent ps ≡ true → (q : ObjRef) → slice_get vs 0 ≡ Some (value.Object q) → is_there q (present v c) ≡ true
  pub slots : list_any is_slot_piece ps ≡ true → Each (IsFine v fw c) (slot_actions o.fixed)
  pub listed : list_any is_list_piece ps ≡ true → (x : ObjRef) → IsListed vs o x → IsGoodItem (present v c) x
  pub stays : list_any is_way_piece ps ≡ true → false ≡ true

or_second : (a b : Bool) → b ≡ true → (a || b) ≡ true
or_second true b h = refl
or_second false b h = h

rest_grounds : (v : Service) (fw : Flow) (c : Config) (r : ObjRef) (vs : List Value) (o : Object) (p : Piece) (ps : List Piece) → Grounds v fw c r vs o (p ∷ ps) → Grounds v fw c r vs o ps
rest_grounds v fw c r vs o p ps g = record {
  here_it = g.here_it;
  named = λ h. g.named (or_second (is_sent p) (list_any is_sent ps) h);
  slots = λ h. g.slots (or_second (is_slot_piece p) (list_any is_slot_piece ps) h);
  listed = λ h. g.listed (or_second (is_list_piece p) (list_any is_list_piece ps) h);
  stays = λ h. g.stays (or_second (is_way_piece p) (list_any is_way_piece ps) h);
}

-- an item of a piece, in front of safe work
safe_piece : (v : Service) (fw : Flow) (c : Config) (r : ObjRef) (vs : List Value) (o : Object) (p : Piece) (ps : List Piece) (i : Item) (rest : List Item) → IsOf r vs o p i → Grounds v fw c r vs o (p ∷ ps) → IsSafeWork v fw c rest → IsSafeWork v fw c (i ∷ rest)
safe_piece v fw c r vs o piece.Prepares ps (item.Prepare x) rest of g k = (tt, k)
safe_piece v fw c r vs o piece.Runs ps (item.Run x) rest of g k = (tt, k)
safe_piece v fw c r vs o piece.Halts ps (item.Halt x) rest of g k = (tt, k)
safe_piece v fw c r vs o piece.Drops ps (item.Drop x) rest of g k = (tt, k)
safe_piece v fw c r vs o (piece.Tells kind) ps (item.Emit e) rest of g k = (subst (λ (x : ObjRef). is_there x (present v c) ≡ true) (sym of.0) g.here_it, k)
safe_piece v fw c r vs o piece.Sends ps (item.Emit e) rest of g k = (g.named refl e.source of, k)
safe_piece v fw c r vs o piece.Slots ps (item.Act a) rest of g k = (each_contained (IsFine v fw c) (slot_actions o.fixed) a (g.slots refl) of, k)
safe_piece v fw c r vs o piece.Lists ps (item.RunMember x) rest of g k = (g.listed refl x of, k)
safe_piece v fw c r vs o piece.Lists ps (item.HaltMember x) rest of g k = (g.listed refl x of, k)
safe_piece v fw c r vs o piece.Enters ps i rest of g k = let never : false ≡ true = g.stays refl in absurd cc
safe_piece v fw c r vs o piece.Ends ps i rest of g k = let never : false ≡ true = g.stays refl in absurd cc
safe_piece v fw c r vs o _ ps _ rest of g k = absurd cc

safe_one : (v : Service) (fw : Flow) (c : Config) (r : ObjRef) (vs : List Value) (o : Object) (ps : List Piece) (i : Item) (rest : List Item) → IsOneOf r vs o ps i → Grounds v fw c r vs o ps → IsSafeWork v fw c rest → IsSafeWork v fw c (i ∷ rest)
safe_one v fw c r vs o [] i rest of g k = absurd cc
safe_one v fw c r vs o (p ∷ ps) i rest (inl of) g k = safe_piece v fw c r vs o p ps i rest of g k
safe_one v fw c r vs o (p ∷ ps) i rest (inr of) g k = safe_one v fw c r vs o ps i rest of (rest_grounds v fw c r vs o p ps g) k

pub safe_all : (v : Service) (fw : Flow) (c : Config) (r : ObjRef) (vs : List Value) (o : Object) (ps : List Piece) (is rest : List Item) → AreOf r vs o ps is → Grounds v fw c r vs o ps → IsSafeWork v fw c rest → IsSafeWork v fw c (is ++ rest)
safe_all v fw c r vs o ps [] rest of g k = k
safe_all v fw c r vs o ps (i ∷ is) rest of g k = safe_one v fw c r vs o ps i (is ++ rest) of.0 g (safe_all v fw c r vs o ps is rest of.1 g k)

-- Members that a group runs or halts

abbrev AreGood : List Fixed → List Member → Type 0
AreGood ps ms = list_all (λ m. is_empty (member_wrongs ps m)) ms ≡ true

first_good : (ps : List Fixed) (m : Member) (ms : List Member) → AreGood ps (m ∷ ms) → member_wrongs ps m ≡ []
first_good ps m ms h = empty_is (member_wrongs ps m) (and_left (is_empty (member_wrongs ps m)) (list_all (λ x. is_empty (member_wrongs ps x)) ms) h)

rest_good : (ps : List Fixed) (m : Member) (ms : List Member) → AreGood ps (m ∷ ms) → AreGood ps ms
rest_good ps m ms h = and_right (is_empty (member_wrongs ps m)) (list_all (λ x. is_empty (member_wrongs ps x)) ms) h

safe_members_run : (v : Service) (fw : Flow) (c : Config) (ms : List Member) → AreGood (present v c) ms → IsSafeFront v fw c (members_run ms)
safe_members_run v fw c [] h rest k = k
safe_members_run v fw c (m ∷ ms) h rest k =
    (first_good (present v c) m ms h, safe_members_run v fw c ms (rest_good (present v c) m ms h) rest k)

safe_members_halted : (v : Service) (fw : Flow) (c : Config) (ms : List Member) → AreGood (present v c) ms → IsSafeFront v fw c (members_halted ms)
safe_members_halted v fw c [] h rest k = k
safe_members_halted v fw c (m ∷ ms) h rest k =
    (first_good (present v c) m ms h, safe_members_halted v fw c ms (rest_good (present v c) m ms h) rest k)

-- What lists run and halt

safe_halted_items : (v : Service) (fw : Flow) (c : Config) (xs : List ObjRef) (p : ObjRef → Bool) → Each (IsGoodItem (present v c)) xs → IsSafeFront v fw c (map item.HaltMember (filter p xs))
safe_halted_items v fw c [] p h rest k = k
safe_halted_items v fw c (x ∷ xs) p h rest k = by (p x) (safe_halted_items v fw c xs p h.1 rest k)
  where
    by : (b : Bool) → IsSafeWork v fw c (map item.HaltMember (filter p xs) ++ rest) → IsSafeWork v fw c (map item.HaltMember (cond b (x ∷ filter p xs) (filter p xs)) ++ rest)
    by true below = (h.0, below)
    by false below = below

safe_run_items : (v : Service) (fw : Flow) (c : Config) (xs : List ObjRef) (p : ObjRef → Bool) → Each (IsGoodItem (present v c)) xs → IsSafeFront v fw c (map item.RunMember (filter p xs))
safe_run_items v fw c [] p h rest k = k
safe_run_items v fw c (x ∷ xs) p h rest k = by (p x) (safe_run_items v fw c xs p h.1 rest k)
  where
    by : (b : Bool) → IsSafeWork v fw c (map item.RunMember (filter p xs) ++ rest) → IsSafeWork v fw c (map item.RunMember (cond b (x ∷ filter p xs) (filter p xs)) ++ rest)
    by true below = (h.0, below)
    by false below = below

safe_told : (v : Service) (fw : Flow) (c : Config) (r : ObjRef) (kind : EventType) (x : Value) (b : Bool) → is_there r (present v c) ≡ true → IsSafeFront v fw c (if b then [] else event_with r kind x ∷ [])
safe_told v fw c r kind x true here_it rest k = k
safe_told v fw c r kind x false here_it rest k = (here_it, k)

safe_list_events : (v : Service) (fw : Flow) (c : Config) (r : ObjRef) (a b : Shown) → is_there r (present v c) ≡ true → IsSafeFront v fw c (list_events r a b)
safe_list_events v fw c r a b here_it =
    let first = truth_told event.FirstItemPresented r a.has_first b.has_first in
    let last = truth_told event.LastItemPresented r a.has_last b.has_last in
    let head = count_told event.HeadItems r a.head b.head in
    let tail = count_told event.TailItems r a.tail b.tail in
    both_safe v fw c (first ++ last ++ head) tail
    (both_safe v fw c (first ++ last) head
    (both_safe v fw c first last (safe_told v fw c r event.FirstItemPresented (value.Bool b.has_first) (are_same a.has_first b.has_first) here_it) (safe_told v fw c r event.LastItemPresented (value.Bool b.has_last) (are_same a.has_last b.has_last) here_it))
    (safe_told v fw c r event.HeadItems (value.Int (counted b.head)) (a.head == b.head) here_it))
    (safe_told v fw c r event.TailItems (value.Int (counted b.tail)) (a.tail == b.tail) here_it)

safe_list_items : (v : Service) (fw : Flow) (c : Config) (r : ObjRef) (a b : Shown) → is_there r (present v c) ≡ true → Each (IsGoodItem (present v c)) a.items → Each (IsGoodItem (present v c)) b.items → IsSafeFront v fw c (list_items r a b)
safe_list_items v fw c r a b here_it h k =
    both_safe v fw c (halted_members a.items b.items ++ run_members a.items b.items) (list_events r a b)
    (both_safe v fw c (halted_members a.items b.items) (run_members a.items b.items) (safe_halted_items v fw c a.items (λ x. not (is_shown x b.items)) h) (safe_run_items v fw c b.items (λ x. not (is_shown x a.items)) k))
    (safe_list_events v fw c r a b here_it)

-- what is shown of a list is among its items
shown_good : (ps : List Fixed) (o : Object) (running : Bool) → ((x : ObjRef) → has_item x o.body.list.entries ≡ true → IsGoodItem ps x) → Each (IsGoodItem ps) (shows running o.fixed o.body.list).items
shown_good ps o running good = each (shows running o.fixed o.body.list).items (shown_among [] o running o.fixed o.body.list (own_among [] o))
  where
    one : (x : ObjRef) → IsListed [] o x → IsGoodItem ps x
    one x (inl has) = good x has
    one x (inr none) = absurd cc

    each : (xs : List ObjRef) → Each (IsListed [] o) xs → Each (IsGoodItem ps) xs
    each [] h = tt
    each (x ∷ xs) h = (one x h.0, each xs h.1)

-- what a group with good members puts that runs or halts

pub safe_group_runs : (v : Service) (fw : Flow) (c : Config) (k : Class) (r : ObjRef) (o : Object) → is_there r (present v c) ≡ true → (is_list_group k ≡ false → AreGood (present v c) (members o.fixed)) → (is_list_group k ≡ true → (x : ObjRef) → has_item x o.body.list.entries ≡ true → IsGoodItem (present v c) x) → IsSafeFront v fw c (group_runs k r o)
safe_group_runs v fw c class.TokenGroup r o here_it good items = safe_members_run v fw c (members o.fixed) (good refl)
safe_group_runs v fw c class.ListGroup r o here_it good items =
    safe_list_items v fw c r nothing_shown (shows true o.fixed o.body.list) here_it tt (shown_good (present v c) o true (items refl))
safe_group_runs v fw c _ r o here_it good items = λ rest k. k

pub safe_group_halts : (v : Service) (fw : Flow) (c : Config) (k : Class) (o : Object) → (is_list_group k ≡ false → AreGood (present v c) (members o.fixed)) → (is_list_group k ≡ true → (x : ObjRef) → has_item x o.body.list.entries ≡ true → IsGoodItem (present v c) x) → IsSafeFront v fw c (group_halts k o)
safe_group_halts v fw c class.TokenGroup o good items = safe_members_halted v fw c (members o.fixed) (good refl)
safe_group_halts v fw c class.ListGroup o good items =
    safe_halted_items v fw c (shows o.body.running o.fixed o.body.list).items (λ x. not (is_shown x [])) (shown_good (present v c) o o.body.running (items refl))
safe_group_halts v fw c _ o good items = λ rest k. k

pub safe_token_told : (v : Service) (fw : Flow) (c : Config) (k : Class) (r : ObjRef) → is_there r (present v c) ≡ true → IsSafeFront v fw c (token_told k r)
safe_token_told v fw c class.TokenGroup r here_it = λ rest k. (here_it, k)
safe_token_told v fw c _ r here_it = λ rest k. k
