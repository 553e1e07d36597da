-- References that may be held have numbers: those of objects at first, and those that are written where they are handed on.
use Rattle.std.specs.Prelude.{◌≡◌, ◌⊎◌, ℕ, Bool, true, false, ◌||◌, if◌then◌else◌, List, [], ◌∷◌, ◌++◌, map, slice_get, Option, Some, None, refl}
use Rattle.std.specs.List.{Contains, flat_map, list_any}
use Rattle.std.specs.Option.{option_to_list}
use Rattle.std.proofs.Common.{ap, ◌∙◌, sym, subst, inl, inr}
use Rattle.std.proofs.lemmas.List.Elements.{Contains-append_cases, Contains-append_left, Contains-append_right}
use Rattle.mh_base.specs.declared.obj_ref.ObjRef.{ObjRef}
use Rattle.mh_base.specs.declared.value.Value.TheVariants as value
use Rattle.mh_group.specs.Table.{is_list_group}
use Rattle.mh_model.specs.declared.act.Act.{Act}
use Rattle.mh_model.specs.declared.act.Argument.{Argument}
use Rattle.mh_model.specs.declared.act.Argument.TheVariants as argument
use Rattle.mh_model.specs.declared.act.Target.{Target}
use Rattle.mh_model.specs.declared.act.Target.TheVariants as target
use Rattle.mh_model.specs.declared.config.Config.{Config}
use Rattle.mh_model.specs.declared.object.listing.Entry.{Entry}
use Rattle.mh_model.specs.declared.object.member.Member.{Member}
use Rattle.mh_model.specs.declared.object.Fixed.{Fixed}
use Rattle.mh_model.specs.Configuration.{present}
use Rattle.mh_model.specs.Effects.{actions}
use Rattle.mh_model.specs.ListItems.{entries_once, has_item, listed_once, no_list, with_item}
use Rattle.mh_model.specs.Property.{value_held, as_reference}
use Rattle.mh_model.specs.Reference.{same_ref}
use Rattle.mh_model.specs.Service.{Service, fresh}
use Rattle.mh_model.specs.Tokens.{members}
use Rattle.mh_model.proofs.ServiceLemmas.{same_ref-same}
use Rattle.mh_laws.specs.Active.{active_actions}
use Rattle.mh_laws.specs.Describing.{Hands, Says, says}
use Rattle.mh_laws.specs.Flow.{refers}
use Rattle.mh_flow.specs.Chart.{Chart, IsChart, all_held, all_parts, all_targeted, firsts, goes_on, handed, handed_by, held_of, member_of, target_variables, targeted_by, targeted_of, written_reference}
use Rattle.mh_flow.proofs.ContainsLemmas.{here, first_or_behind, in_joined, no_member}
use Rattle.mh_flow.proofs.NumberLemmas.{has_member_number}
use Rattle.mh_flow.proofs.PlaceLemmas.{any_member, lone, member_any}
use Rattle.mh_flow.proofs.PresentLemmas.{acting, present_part, same_itself}

-- The items of a list at first

item_end : (q r : ObjRef) (es : List Entry) → has_item q (es ++ record { object = r; selected = false } ∷ []) ≡ (has_item q es || same_ref q r)
item_end q r [] = by (same_ref q r)
  where
    by : (b : Bool) → (b || false) ≡ b
    by true = refl
    by false = refl
item_end q r (e ∷ es) = by (same_ref q e.object) (item_end q r es)
  where
    by : (b : Bool) → has_item q (es ++ record { object = r; selected = false } ∷ []) ≡ (has_item q es || same_ref q r) → (b || has_item q (es ++ record { object = r; selected = false } ∷ [])) ≡ ((b || has_item q es) || same_ref q r)
    by true ih = refl
    by false ih = ih

with_has : (q r : ObjRef) (es : List Entry) → has_item q (with_item r es) ≡ (has_item q es || same_ref q r)
with_has q r es = by (has_item r es) refl
  where
    there : (b : Bool) → same_ref q r ≡ b → has_item r es ≡ true → has_item q es ≡ (has_item q es || b)
    there true same e =
        let it : has_item q es ≡ true = ap (λ (x : ObjRef). has_item x es) (same_ref-same q r same) ∙ e in
        it ∙ sym (ap (λ (x : Bool). x || true) it)
    there false same e = by_cases (has_item q es)
      where
        by_cases : (x : Bool) → x ≡ (x || false)
        by_cases true = refl
        by_cases false = refl

    by : (b : Bool) → has_item r es ≡ b → has_item q (if b then es else es ++ record { object = r; selected = false } ∷ []) ≡ (has_item q es || same_ref q r)
    by true e = there (same_ref q r) refl e
    by false e = item_end q r es

once_has : (q : ObjRef) (es : List Entry) (ms : List Member) → has_item q (entries_once es ms) ≡ (has_item q es || list_any (same_ref q) (map (λ (m : Member). m.object) ms))
once_has q es [] = by (has_item q es)
  where
    by : (b : Bool) → b ≡ (b || false)
    by true = refl
    by false = refl
once_has q es (m ∷ ms) =
    once_has q (with_item m.object es) ms
    ∙ ap (λ (b : Bool). b || list_any (same_ref q) (map (λ (x : Member). x.object) ms)) (with_has q m.object es)
    ∙ by (has_item q es) (same_ref q m.object) (list_any (same_ref q) (map (λ (x : Member). x.object) ms))
  where
    by : (a b c : Bool) → ((a || b) || c) ≡ (a || (b || c))
    by true b c = refl
    by false b c = refl

listed_has : (p : Fixed) (q : ObjRef) → is_list_group p.class ≡ true → has_item q (fresh p).body.list.entries ≡ list_any (same_ref q) (map (λ (m : Member). m.object) (members p))
listed_has p q is =
    ap (λ (b : Bool). has_item q (if b then listed_once (members p) else no_list).entries) is
    ∙ once_has q [] (members p)

-- What an object holds at first

-- it is the value of a variable, or an item of a list
abbrev pub HoldsFirst : Fixed → ObjRef → Type 0
HoldsFirst p q = ((refers p.class ≡ true) × (as_reference (value_held p (fresh p).body) ≡ Some q)) ⊎ ((is_list_group p.class ≡ true) × (has_item q (fresh p).body.list.entries ≡ true))

abbrev valued : Fixed → Bool → List ObjRef
valued p b = if b then option_to_list (as_reference (value_held p (fresh p).body)) else []

abbrev listed : Fixed → Bool → List ObjRef
listed p b = if b then map (λ (m : Member). m.object) (members p) else []

pub first_of : (p : Fixed) (q : ObjRef) → HoldsFirst p q → Contains (firsts p) q
first_of p q (inl (is, e)) =
    Contains-append_left (valued p (refers p.class)) (listed p (is_list_group p.class)) q
    (subst (λ (b : Bool). Contains (valued p b) q) (sym is) (subst (λ (o : Option ObjRef). Contains (option_to_list o) q) (sym e) (here q [])))
first_of p q (inr (is, e)) =
    Contains-append_right (valued p (refers p.class)) (listed p (is_list_group p.class)) q
    (subst (λ (b : Bool). Contains (listed p b) q) (sym is) among)
  where
    among : Contains (map (λ (m : Member). m.object) (members p)) q
    among =
        let found = member_any (same_ref q) (map (λ (m : Member). m.object) (members p)) (sym (listed_has p q is) ∙ e) in
        subst (λ (x : ObjRef). Contains (map (λ (m : Member). m.object) (members p)) x) (sym (same_ref-same q found.0 found.1)) found.2

pub holds_first : (p : Fixed) (q : ObjRef) → Contains (firsts p) q → HoldsFirst p q
holds_first p q m = by (Contains-append_cases (valued p (refers p.class)) (listed p (is_list_group p.class)) q m)
  where
    of_value : (b : Bool) → refers p.class ≡ b → (o : Option ObjRef) → as_reference (value_held p (fresh p).body) ≡ o → Contains (if b then option_to_list o else []) q → HoldsFirst p q
    of_value true is (Some r) e k = inl (is, e ∙ ap Some (lone r q k))
    of_value true is None e k = absurd (no_member q k)
    of_value false is o e k = absurd (no_member q k)

    of_list : (b : Bool) → is_list_group p.class ≡ b → Contains (listed p b) q → HoldsFirst p q
    of_list true is k = inr (is, listed_has p q is ∙ any_member (same_ref q) (map (λ (x : Member). x.object) (members p)) q (same_itself q) k)
    of_list false is k = absurd (no_member q k)

    by : Contains (valued p (refers p.class)) q ⊎ Contains (listed p (is_list_group p.class)) q → HoldsFirst p q
    by (inl k) = of_value (refers p.class) refl (as_reference (value_held p (fresh p).body)) refl k
    by (inr k) = of_list (is_list_group p.class) refl k

-- What is written

abbrev pub written : ObjRef → Argument
written q = argument.Direct (value.Object q)

pub handed_among : (ss : List Says) (xs : List Argument) (n : ℕ) (q : ObjRef) → Contains ss (Hands n) → slice_get xs n ≡ Some (written q) → Contains (handed_by ss xs) q
handed_among [] xs n q m e = absurd (no_member (Hands n) m)
handed_among (Hands i ∷ ss) xs n q m e = by (first_or_behind (Hands i) ss (Hands n) m) (handed_among ss xs n q)
  where
    front : List ObjRef
    front = flat_map written_reference (option_to_list (slice_get xs i))

    by : (Hands i ≡ Hands n) ⊎ Contains ss (Hands n) → (Contains ss (Hands n) → slice_get xs n ≡ Some (written q) → Contains (handed_by ss xs) q) → Contains (front ++ handed_by ss xs) q
    by (inl same) ih =
        let at : slice_get xs i ≡ Some (written q) = ap (slice_get xs) (ap number same) ∙ e in
        Contains-append_left front (handed_by ss xs) q (subst (λ (o : Option Argument). Contains (flat_map written_reference (option_to_list o)) q) (sym at) (here q []))
      where
        number : Says → ℕ
        number (Hands j) = j
    by (inr k) ih = Contains-append_right front (handed_by ss xs) q (ih k e)

-- Their numbers

numbered : (v : Service) (ch : Chart) (p : Fixed) (q : ObjRef) → IsChart v ch → Contains (all_parts v) p → Contains (held_of p) q → (m : ℕ) × (member_of ch q ≡ Some m)
numbered v ch p q is part m =
    has_member_number ch q (is.members q ∙ any_member (same_ref q) (all_held v) q (same_itself q) (in_joined held_of (all_parts v) p q part m))

pub first_number : (v : Service) (ch : Chart) (c : Config) (p : Fixed) (q : ObjRef) → IsChart v ch → Contains (present v c) p → Contains (firsts p) q → (m : ℕ) × (member_of ch q ≡ Some m)
first_number v ch c p q is part m =
    numbered v ch p q is (present_part v c p part) (Contains-append_left (firsts p) (flat_map handed (actions p)) q m)

pub written_number : (v : Service) (ch : Chart) (c : Config) (a : Act) (n : ℕ) (q : ObjRef) → IsChart v ch → Contains (active_actions (present v c)) a → Contains (says a.name) (Hands n) → slice_get a.arguments n ≡ Some (written q) → (m : ℕ) × (member_of ch q ≡ Some m)
written_number v ch c a n q is active says_it e =
    let by = acting (present v c) a active in
    numbered v ch by.0 q is (present_part v c by.0 by.1)
    (Contains-append_right (firsts by.0) (flat_map handed (actions by.0)) q (in_joined handed (actions by.0) a q by.2 (handed_among (says a.name) a.arguments n q says_it e)))

-- a variable through which an active action has its target that goes on from there is among those
pub targeted : (v : Service) (ch : Chart) (c : Config) (a : Act) (w : ObjRef) → IsChart v ch → Contains (active_actions (present v c)) a → goes_on a ≡ true → a.target ≡ target.Through w → list_any (same_ref w) ch.targeted ≡ true
targeted v ch c a w is active on e =
    let by = acting (present v c) a active in
    let of_target : Contains (target_variables a.target) w = subst (λ (t : Target). Contains (target_variables t) w) (sym e) (here w []) in
    let of_act : Contains (targeted_by a) w = subst (λ (b : Bool). Contains (if b then target_variables a.target else []) w) (sym on) of_target in
    let of_part : Contains (targeted_of by.0) w = in_joined targeted_by (actions by.0) a w by.2 of_act in
    is.targeted w ∙ any_member (same_ref w) (all_targeted v) w (same_itself w) (in_joined targeted_of (all_parts v) by.0 w (present_part v c by.0 by.1) of_part)
