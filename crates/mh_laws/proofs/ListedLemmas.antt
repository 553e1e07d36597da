-- What a list shows, and what it becomes, are items that it had, and what is put into it.
use Rattle.std.specs.Prelude.{◌≡◌, ℕ, zero, suc, ◌+◌, ◌-◌, ◌||◌, Bool, true, false, ◌&&◌, not, nat_le, nat_lt, if◌then◌else◌, List, [], ◌∷◌, ◌++◌, length, take, drop, slice_get, Option, Some, None, unwrap_or, option_and_then, refl, ℤ, pos, negsuc, ◌==◌}
use Rattle.std.specs.List.{Contains, flat_map, position}
use Rattle.std.specs.Option.{option_map}
use Rattle.std.proofs.Common.{inl, inr, sym, subst}
use Rattle.mh_base.specs.declared.obj_ref.ObjRef.{ObjRef}
use Rattle.mh_base.specs.declared.value.Value.{Value}
use Rattle.mh_base.specs.declared.value.Value.TheVariants as value
use Rattle.mh_group.specs.declared.action_name.ActionName.{ActionName}
use Rattle.mh_group.specs.declared.action_name.ActionName.TheVariants as action
use Rattle.mh_model.specs.declared.act.Act.{Act}
use Rattle.mh_model.specs.declared.object.listing.Entry.{Entry}
use Rattle.mh_model.specs.declared.object.member.Member.{Member}
use Rattle.mh_model.specs.declared.object.Body.{Body}
use Rattle.mh_model.specs.declared.object.Fixed.{Fixed}
use Rattle.mh_model.specs.declared.object.Object.{Object}
use Rattle.mh_model.specs.Listed.{Listed}
use Rattle.mh_model.specs.Lists.{objects_of, wraps, before_first, shows, inserted, removed, first_set, scrolled_to, relisted}
use Rattle.mh_model.specs.Limits.{most_items}
use Rattle.mh_model.specs.ListItems.{has_item}
use Rattle.mh_model.specs.Reference.{same_ref}
use Rattle.mh_model.specs.Tokens.{members, positions, member_actions, numbered, slot_actions, slot_of}
use Rattle.mh_laws.specs.Describing.{IsListed}
use Rattle.mh_laws.specs.Each.{Each, Among}
use Rattle.mh_laws.proofs.EachLemmas.{each_joined, among_left, among_right, contains_of, got_among}
use Rattle.mh_laws.proofs.SetLemmas.{same_itself}

-- Parts of a list

each_take : {X : Type 0} (P : X → Type 0) (n : ℕ) (xs : List X) → Each P xs → Each P (take n xs)
each_take {X} P zero xs h = tt
each_take {X} P (suc n) [] h = tt
each_take {X} P (suc n) (x ∷ xs) h = (h.0, each_take P n xs h.1)

each_drop : {X : Type 0} (P : X → Type 0) (n : ℕ) (xs : List X) → Each P xs → Each P (drop n xs)
each_drop {X} P zero xs h = h
each_drop {X} P (suc n) [] h = tt
each_drop {X} P (suc n) (x ∷ xs) h = each_drop P n xs h.1

each_itself : {X : Type 0} (xs : List X) → Each (Among xs) xs
each_itself {X} [] = tt
each_itself {X} (x ∷ xs) = (inl refl, behind xs (each_itself xs))
  where
    behind : (ys : List X) → Each (Among xs) ys → Each (Among (x ∷ xs)) ys
    behind [] h = tt
    behind (y ∷ ys) h = (inr h.0, behind ys h.1)

-- Slots

-- each of a list of lists has all that stands in one of its members
joined_among : {A : Type 0} (xss : List (List A)) (xs : List A) → Among xss xs → Each (Among (flat_map (λ (ys : List A). ys) xss)) xs
joined_among {A} [] xs h = absurd cc
joined_among {A} (ys ∷ xss) xs (inl same) =
    subst (λ (zs : List A). Each (Among (ys ++ flat_map (λ (t : List A). t) xss)) zs) same (each ys (each_itself ys))
  where
    each : (zs : List A) → Each (Among ys) zs → Each (Among (ys ++ flat_map (λ (t : List A). t) xss)) zs
    each [] k = tt
    each (z ∷ zs) k = (among_left ys (flat_map (λ (t : List A). t) xss) z k.0, each zs k.1)
joined_among {A} (ys ∷ xss) xs (inr more) = each xs (joined_among xss xs more)
  where
    each : (zs : List A) → Each (Among (flat_map (λ (t : List A). t) xss)) zs → Each (Among (ys ++ flat_map (λ (t : List A). t) xss)) zs
    each [] k = tt
    each (z ∷ zs) k = (among_right ys (flat_map (λ (t : List A). t) xss) z k.0, each zs k.1)

pub numbered_among : {A : Type 0} (xs : List A) (n : ℕ) (x : A) → numbered xs n ≡ Some x → Among xs x
numbered_among xs zero x e = absurd cc
numbered_among xs (suc n) x e = got_among xs n x e

-- what a member does is among what all members do
member_among : (ms : List Member) (m : Member) (a : Act) → Among ms m → Among (member_actions m) a → Among (flat_map member_actions ms) a
member_among [] m a h k = absurd cc
member_among (x ∷ ms) m a (inl same) k =
    among_left (member_actions x) (flat_map member_actions ms) a (subst (λ (y : Member). Among (member_actions y) a) (sym same) k)
member_among (x ∷ ms) m a (inr more) k = among_right (member_actions x) (flat_map member_actions ms) a (member_among ms m a more k)

pub slot_among : (n : ℕ) (p : Fixed) (b : Body) → Each (Contains (slot_actions p)) (slot_of n p b)
slot_among n p b = contained (slot_of n p b) (by (numbered (members p) b.token) refl)
  where
    contained : (acts : List Act) → Each (Among (slot_actions p)) acts → Each (Contains (slot_actions p)) acts
    contained [] h = tt
    contained (a ∷ acts) h = (contains_of (slot_actions p) a h.0, contained acts h.1)

    each : (m : Member) (acts : List Act) → Among (members p) m → Each (Among (member_actions m)) acts → Each (Among (slot_actions p)) acts
    each m [] h k = tt
    each m (a ∷ acts) h k = (member_among (members p) m a h k.0, each m acts h k.1)

    slot : (m : Member) (s : Option (List Act)) → numbered m.slots n ≡ s → Among (members p) m → Each (Among (slot_actions p)) (unwrap_or s [])
    slot m None e h = tt
    slot m (Some acts) e h = each m acts h (joined_among m.slots acts (numbered_among m.slots n acts e))

    by : (m : Option Member) → numbered (members p) b.token ≡ m → Each (Among (slot_actions p)) (unwrap_or (option_and_then (λ (x : Member). numbered x.slots n) m) [])
    by None e = tt
    by (Some m) e = slot m (numbered m.slots n) refl (numbered_among (members p) b.token m e)

-- Items

-- an item and its entry
abbrev pub EntriesListed : List Value → Object → List Entry → Type 0
EntriesListed vs o es = Each (λ (e : Entry). IsListed vs o e.object) es

as_objects : (vs : List Value) (o : Object) (es : List Entry) → EntriesListed vs o es → Each (IsListed vs o) (objects_of es)
as_objects vs o [] h = tt
as_objects vs o (e ∷ es) h = (h.0, as_objects vs o es h.1)

-- the items of the list are so
pub own_among : (vs : List Value) (o : Object) → EntriesListed vs o o.body.list.entries
own_among vs o = each o.body.list.entries (λ x h. h)
  where
    or_left : (a b : Bool) → a ≡ true → (a || b) ≡ true
    or_left true b h = refl
    or_left false b h = absurd cc

    or_right : (a b : Bool) → b ≡ true → (a || b) ≡ true
    or_right true b h = refl
    or_right false b h = h

    each : (es : List Entry) → ((x : ObjRef) → has_item x es ≡ true → has_item x o.body.list.entries ≡ true) → EntriesListed vs o es
    each [] into = tt
    each (e ∷ es) into =
        (inl (into e.object (or_left (same_ref e.object e.object) (has_item e.object es) (same_itself e.object))), each es (λ x h. into x (or_right (same_ref x e.object) (has_item x es) h)))

-- what is shown of a list of such
pub shown_among : (vs : List Value) (o : Object) (running : Bool) (p : Fixed) (l : Listed) → EntriesListed vs o l.entries → Each (IsListed vs o) (shows running p l).items
shown_among vs o false p l h = tt
shown_among vs o true p l h =
    let all : Each (IsListed vs o) (objects_of l.entries) = as_objects vs o l.entries h in
    each_take (IsListed vs o) (length (positions p)) _
    (each_joined (IsListed vs o) (drop (before_first l) (objects_of l.entries)) (if wraps p then take (before_first l) (objects_of l.entries) else [])
    (each_drop (IsListed vs o) (before_first l) (objects_of l.entries) all) (wrapped (wraps p) all))
  where
    wrapped : (b : Bool) → Each (IsListed vs o) (objects_of l.entries) → Each (IsListed vs o) (if b then take (before_first l) (objects_of l.entries) else [])
    wrapped true all = each_take (IsListed vs o) (before_first l) (objects_of l.entries) all
    wrapped false all = tt

abbrev pub IsListedIf : List Value → Object → Option Listed → Type 0
IsListedIf vs o None = Unit {0}
IsListedIf vs o (Some l) = EntriesListed vs o l.entries

first_among : (vs : List Value) (o : Object) (n : ℤ) → IsListedIf vs o (first_set n o.body.list)
first_among vs o (negsuc n) = tt
first_among vs o (pos n) = by (nat_le 1 n && nat_le n (length o.body.list.entries) && not (n == o.body.list.first))
  where
    by : (b : Bool) → IsListedIf vs o (if b then Some (record o.body.list { first = n }) else None)
    by true = own_among vs o
    by false = tt

removed_among : (vs : List Value) (o : Object) (m : Option ℕ) → IsListedIf vs o (option_map (removed o.body.list) m)
removed_among vs o None = tt
removed_among vs o (Some k) =
    each_joined (λ (e : Entry). IsListed vs o e.object) (take k o.body.list.entries) (drop (k + 1) o.body.list.entries)
    (each_take (λ (e : Entry). IsListed vs o e.object) k o.body.list.entries (own_among vs o))
    (each_drop (λ (e : Entry). IsListed vs o e.object) (k + 1) o.body.list.entries (own_among vs o))

inserted_among : (vs : List Value) (o : Object) (i : ℕ) (r : ObjRef) → slice_get vs 1 ≡ Some (value.Object r) → IsListedIf vs o (inserted i r o.body.list)
inserted_among vs o i r given = by (nat_le 1 i && nat_le i (length o.body.list.entries + 1) && nat_lt (length o.body.list.entries) most_items && not (has_item r o.body.list.entries))
  where
    by : (b : Bool) → IsListedIf vs o (if b then Some (record { entries = take (i - 1) o.body.list.entries ++ record { object = r; selected = false } ∷ drop (i - 1) o.body.list.entries; first = if nat_lt i o.body.list.first then o.body.list.first + 1 else o.body.list.first }) else None)
    by true =
        each_joined (λ (e : Entry). IsListed vs o e.object) (take (i - 1) o.body.list.entries) (record { object = r; selected = false } ∷ drop (i - 1) o.body.list.entries)
        (each_take (λ (e : Entry). IsListed vs o e.object) (i - 1) o.body.list.entries (own_among vs o))
        (inr given, each_drop (λ (e : Entry). IsListed vs o e.object) (i - 1) o.body.list.entries (own_among vs o))
    by false = tt

-- what an action makes of a list has its items, and what the action puts into it
pub relisted_among : (n : ActionName) (vs : List Value) (o : Object) → IsListedIf vs o (relisted n vs o.fixed o.body.list)
relisted_among action.AddItem (value.Int (pos i) ∷ value.Object r ∷ []) o = inserted_among (value.Int (pos i) ∷ value.Object r ∷ []) o i r refl
relisted_among action.AddItem _ o = tt
relisted_among action.DelItem (value.Object r ∷ []) o = removed_among (value.Object r ∷ []) o (position (λ (e : Entry). same_ref r e.object) o.body.list.entries)
relisted_among action.DelItem _ o = tt
relisted_among action.ScrollItems (value.Int n ∷ []) o = first_among (value.Int n ∷ []) o (scrolled_to (wraps o.fixed) n o.body.list)
relisted_among action.ScrollItems _ o = tt
relisted_among action.SetFirstItem (value.Int n ∷ []) o = first_among (value.Int n ∷ []) o n
relisted_among action.SetFirstItem _ o = tt
relisted_among _ vs o = tt
