-- What an object has at first: the value of a variable, and the items of a list.
use Rattle.std.proofs.Common.{◌≡◌, ◌⊎◌, inl, inr, Bool, true, false, ◌||◌, List, [], ◌∷◌, ◌++◌, map, Option, Some, None, refl, sym, ap, ◌∙◌, subst}
use Rattle.std.specs.Prelude.{if◌then◌else◌}
use Rattle.std.specs.List.{Contains}
use Rattle.std.specs.Option.{option_to_list}
use Rattle.std.proofs.Math.Bool.{or-true}
use Rattle.std.proofs.lemmas.List.Elements.{Contains-append_left, Contains-append_right, Contains-append_cases}
use Rattle.std.proofs.lemmas.Bool.Decides.{Decides-eqb}
use Rattle.std.proofs.lemmas.Slice.Eq.{bytes_eq-Decides}
use Rattle.mh_base.specs.declared.obj_ref.ObjRef.{ObjRef}
use Rattle.mh_group.specs.Table.{is_list_group}
use Rattle.mh_model.specs.declared.object.listing.Entry.{Entry}
use Rattle.mh_model.specs.declared.object.member.Member.{Member}
use Rattle.mh_model.specs.declared.object.Fixed.{Fixed}
use Rattle.mh_model.specs.ListItems.{has_item, with_item, entries_once, listed_once, no_list}
use Rattle.mh_model.specs.Property.{value_held, as_reference}
use Rattle.mh_model.specs.Reference.{same_ref}
use Rattle.mh_model.specs.Service.{fresh}
use Rattle.mh_model.specs.Tokens.{members}
use Rattle.mh_model.proofs.ServiceLemmas.{same_ref-same}
use Rattle.mh_laws.specs.Flow.{refers}
use Rattle.mh_flow.specs.Chart.{firsts}
use Rattle.mh_flow.proofs.ContainsLemmas.{both, no_member, here, behind, first_or_behind}

-- a reference is the same as itself
pub ref_itself : (q : ObjRef) → same_ref q q ≡ true
ref_itself q = both _ _ ((bytes_eq-Decides q.group q.group).1 refl) ((Decides-eqb q.number q.number).1 refl)

-- Items.

item_at_end : (q r : ObjRef) (es : List Entry) → has_item q (es ++ record { object = r; selected = false } ∷ []) ≡ (has_item q es || same_ref q r)
item_at_end q r [] = by (same_ref q r)
  where
    by : (b : Bool) → (b || false) ≡ (false || b)
    by true = refl
    by false = refl
item_at_end q r (e ∷ es) = by (same_ref q e.object) (item_at_end q r es)
  where
    by : (b : Bool) → has_item q (es ++ record { object = r; selected = false } ∷ []) ≡ (has_item q es || same_ref q r) → (b || has_item q (es ++ record { object = r; selected = false } ∷ [])) ≡ ((b || has_item q es) || same_ref q r)
    by true ih = refl
    by false ih = ih

either : (a b : Bool) → (a || b) ≡ true → (a ≡ true) ⊎ (b ≡ true)
either true b h = inl refl
either false b h = inr h

-- what is among them with one more was among them, or is that one
item_or_new : (q r : ObjRef) (es : List Entry) → has_item q (with_item r es) ≡ true → (has_item q es ≡ true) ⊎ (q ≡ r)
item_or_new q r es h = by (has_item r es) h
  where
    new : (has_item q es ≡ true) ⊎ (same_ref q r ≡ true) → (has_item q es ≡ true) ⊎ (q ≡ r)
    new (inl k) = inl k
    new (inr k) = inr (same_ref-same q r k)

    by : (b : Bool) → has_item q (if b then es else es ++ record { object = r; selected = false } ∷ []) ≡ true → (has_item q es ≡ true) ⊎ (q ≡ r)
    by true h = inl h
    by false h = new (either (has_item q es) (same_ref q r) (sym (item_at_end q r es) ∙ h))

item_stays : (q r : ObjRef) (es : List Entry) → has_item q es ≡ true → has_item q (with_item r es) ≡ true
item_stays q r es h = by (has_item r es)
  where
    by : (b : Bool) → has_item q (if b then es else es ++ record { object = r; selected = false } ∷ []) ≡ true
    by true = h
    by false = item_at_end q r es ∙ ap (λ (b : Bool). b || same_ref q r) h

item_comes : (r : ObjRef) (es : List Entry) → has_item r (with_item r es) ≡ true
item_comes r es = by (has_item r es) refl
  where
    by : (b : Bool) → has_item r es ≡ b → has_item r (if b then es else es ++ record { object = r; selected = false } ∷ []) ≡ true
    by true e = e
    by false e = item_at_end r r es ∙ ap (λ (b : Bool). has_item r es || b) (ref_itself r) ∙ or-true (has_item r es)

object_of : Member → ObjRef
object_of m = m.object

from_members : (q : ObjRef) (es : List Entry) (ms : List Member) → has_item q (entries_once es ms) ≡ true → (has_item q es ≡ true) ⊎ Contains (map (λ m. m.object) ms) q
from_members q es [] h = inl h
from_members q es (m ∷ ms) h = by (from_members q (with_item m.object es) ms h)
  where
    step : (has_item q es ≡ true) ⊎ (q ≡ m.object) → (has_item q es ≡ true) ⊎ Contains (m.object ∷ map (λ (m : Member). m.object) ms) q
    step (inl k) = inl k
    step (inr e) = inr (subst (λ (x : ObjRef). Contains (m.object ∷ map (λ (m : Member). m.object) ms) x) (sym e) (here m.object (map (λ (m : Member). m.object) ms)))

    by : (has_item q (with_item m.object es) ≡ true) ⊎ Contains (map (λ (m : Member). m.object) ms) q → (has_item q es ≡ true) ⊎ Contains (m.object ∷ map (λ (m : Member). m.object) ms) q
    by (inl k) = step (item_or_new q m.object es k)
    by (inr k) = inr (behind m.object (map (λ (m : Member). m.object) ms) q k)

stays_once : (q : ObjRef) (es : List Entry) (ms : List Member) → has_item q es ≡ true → has_item q (entries_once es ms) ≡ true
stays_once q es [] h = h
stays_once q es (m ∷ ms) h = stays_once q (with_item m.object es) ms (item_stays q m.object es h)

to_members : (q : ObjRef) (es : List Entry) (ms : List Member) → Contains (map (λ m. m.object) ms) q → has_item q (entries_once es ms) ≡ true
to_members q es [] h = absurd (no_member q h)
to_members q es (m ∷ ms) h = by (first_or_behind m.object (map (λ (m : Member). m.object) ms) q h) (to_members q (with_item m.object es) ms)
  where
    by : (m.object ≡ q) ⊎ Contains (map (λ (m : Member). m.object) ms) q → (Contains (map (λ (m : Member). m.object) ms) q → has_item q (entries_once (with_item m.object es) ms) ≡ true) → has_item q (entries_once (with_item m.object es) ms) ≡ true
    by (inl e) ih = stays_once q (with_item m.object es) ms (subst (λ (x : ObjRef). has_item x (with_item m.object es) ≡ true) e (item_comes m.object es))
    by (inr k) ih = ih k

-- What is held at first.

pub value_at_first : (p : Fixed) (q : ObjRef) → refers p.class ≡ true → as_reference (value_held p (fresh p).body) ≡ Some q → Contains (firsts p) q
value_at_first p q is e =
    Contains-append_left values items q
    (subst (λ (b : Bool). Contains (if b then option_to_list (as_reference (value_held p (fresh p).body)) else []) q) (sym is)
    (subst (λ (m : Option ObjRef). Contains (option_to_list m) q) (sym e) (here q [])))
  where
    values : List ObjRef
    values = if refers p.class then option_to_list (as_reference (value_held p (fresh p).body)) else []

    items : List ObjRef
    items = if is_list_group p.class then map (λ m. m.object) (members p) else []

pub item_at_first : (p : Fixed) (q : ObjRef) → is_list_group p.class ≡ true → has_item q (fresh p).body.list.entries ≡ true → Contains (firsts p) q
item_at_first p q is h =
    Contains-append_right values items q
    (subst (λ (b : Bool). Contains (if b then map (λ m. m.object) (members p) else []) q) (sym is) (one (from_members q [] (members p) (subst (λ (b : Bool). has_item q (if b then listed_once (members p) else no_list).entries ≡ true) is h))))
  where
    values : List ObjRef
    values = if refers p.class then option_to_list (as_reference (value_held p (fresh p).body)) else []

    items : List ObjRef
    items = if is_list_group p.class then map (λ m. m.object) (members p) else []

    one : (has_item q [] ≡ true) ⊎ Contains (map (λ (m : Member). m.object) (members p)) q → Contains (map (λ (m : Member). m.object) (members p)) q
    one (inl k) = absurd cc
    one (inr k) = k

-- a value that is held, or an item
abbrev pub IsFirst : Fixed → ObjRef → Type 0
IsFirst p q = ((refers p.class ≡ true) × (as_reference (value_held p (fresh p).body) ≡ Some q)) ⊎ ((is_list_group p.class ≡ true) × (has_item q (fresh p).body.list.entries ≡ true))

pub is_first : (p : Fixed) (q : ObjRef) → Contains (firsts p) q → IsFirst p q
is_first p q h = by (Contains-append_cases values items q h)
  where
    values : List ObjRef
    values = if refers p.class then option_to_list (as_reference (value_held p (fresh p).body)) else []

    items : List ObjRef
    items = if is_list_group p.class then map (λ m. m.object) (members p) else []

    one : (m : Option ObjRef) → Contains (option_to_list m) q → m ≡ Some q
    one None k = absurd (no_member q k)
    one (Some r) k = elim (first_or_behind r [] q k) [ inl e ↦ ap (λ (x : ObjRef). Some x) e | inr none ↦ absurd (no_member q none) ]

    value : (b : Bool) → refers p.class ≡ b → Contains (if b then option_to_list (as_reference (value_held p (fresh p).body)) else []) q → IsFirst p q
    value true is k = inl (is, one (as_reference (value_held p (fresh p).body)) k)
    value false is k = absurd (no_member q k)

    item : (b : Bool) → is_list_group p.class ≡ b → Contains (if b then map (λ m. m.object) (members p) else []) q → IsFirst p q
    item true is k = inr (is, subst (λ (b : Bool). has_item q (if b then listed_once (members p) else no_list).entries ≡ true) (sym is) (to_members q [] (members p) k))
    item false is k = absurd (no_member q k)

    by : Contains values q ⊎ Contains items q → IsFirst p q
    by (inl k) = value (refers p.class) refl k
    by (inr k) = item (is_list_group p.class) refl k
