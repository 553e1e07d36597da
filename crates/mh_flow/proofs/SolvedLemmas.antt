-- References that are chosen by bits: which those are, and that they stay in order.
use Rattle.std.specs.Prelude.{◌≡◌, ◌⊎◌, ℕ, zero, suc, ◌+◌, Bool, true, false, if◌then◌else◌, List, [], ◌∷◌, slice_get, Option, Some, None, refl}
use Rattle.std.specs.List.{Contains, cons_option, filter_map}
use Rattle.std.specs.Cmp.Derive.{both_true}
use Rattle.std.specs.Ordering.{is_lt}
use Rattle.std.proofs.Common.{ap, ◌∙◌, subst, arith}
use Rattle.mh_base.specs.declared.obj_ref.ObjRef.{ObjRef}
use Rattle.mh_laws.specs.Least.{are_ascending, by_reference}
use Rattle.mh_flow.specs.Rows.{has, is_at, places_from, row}
use Rattle.mh_flow.specs.Sets.{members_of}
use Rattle.mh_flow.specs.Solved.{named}
use Rattle.mh_flow.proofs.ContainsLemmas.{halves, here, behind, first_or_behind, no_member}
use Rattle.mh_flow.proofs.OrderLemmas.{skipped, tail_ascends}
use Rattle.mh_flow.proofs.PlaceLemmas.{kept_from, kept_member}
use Rattle.std.proofs.Common.{inl, inr}

-- The places of the bits that are set

place_there : (n : ℕ) (bs : List Bool) (i : ℕ) → is_at bs i ≡ true → Contains (places_from n bs) (n + i)
place_there n [] i e = absurd cc
place_there n (true ∷ bs) zero e = let same : n ≡ n + 0 = omega arith in subst (λ (x : ℕ). Contains (n ∷ places_from (suc n) bs) x) same (here n (places_from (suc n) bs))
place_there n (false ∷ bs) zero e = absurd cc
place_there n (true ∷ bs) (suc i) e =
    let same : suc n + i ≡ n + suc i = omega arith in
    behind n (places_from (suc n) bs) (n + suc i) (subst (λ (x : ℕ). Contains (places_from (suc n) bs) x) same (place_there (suc n) bs i e))
place_there n (false ∷ bs) (suc i) e =
    let same : suc n + i ≡ n + suc i = omega arith in
    subst (λ (x : ℕ). Contains (places_from (suc n) bs) x) same (place_there (suc n) bs i e)

place_set : (n : ℕ) (bs : List Bool) (x : ℕ) → Contains (places_from n bs) x → (i : ℕ) × (x ≡ n + i) × (is_at bs i ≡ true)
place_set n [] x m = absurd (no_member x m)
place_set n (true ∷ bs) x m = by (first_or_behind n (places_from (suc n) bs) x m) (place_set (suc n) bs x)
  where
    by : (n ≡ x) ⊎ Contains (places_from (suc n) bs) x → (Contains (places_from (suc n) bs) x → (i : ℕ) × (x ≡ suc n + i) × (is_at bs i ≡ true)) → (i : ℕ) × (x ≡ n + i) × (is_at (true ∷ bs) i ≡ true)
    by (inl same) ih = (0, omega (arith, same), refl)
    by (inr k) ih = let below = ih k in (suc below.0, omega (arith, below.1), below.2)
place_set n (false ∷ bs) x m = let below = place_set (suc n) bs x m in (suc below.0, omega (arith, below.1), below.2)

-- what is named has its bit set
pub named_has : (qs : List ObjRef) (rows : List (List Bool)) (u : ℕ) (q : ObjRef) → Contains (named qs (members_of rows u)) q → (m : ℕ) × (slice_get qs m ≡ Some q) × (has rows u m ≡ true)
named_has qs rows u q m =
    let from = kept_from (slice_get qs) (members_of rows u) q m in
    let place = place_set 0 (row rows u) from.0 from.1 in
    let same : from.0 ≡ place.0 = omega (arith, place.1) in
    (from.0, from.2, ap (is_at (row rows u)) same ∙ place.2)

-- what has its bit set is named
pub has_named : (qs : List ObjRef) (rows : List (List Bool)) (u m : ℕ) (q : ObjRef) → slice_get qs m ≡ Some q → has rows u m ≡ true → Contains (named qs (members_of rows u)) q
has_named qs rows u m q e h =
    let same : 0 + m ≡ m = omega arith in
    kept_member (slice_get qs) (members_of rows u) m q (subst (λ (x : ℕ). Contains (members_of rows u) x) same (place_there 0 (row rows u) m h)) e

-- Order

abbrev chosen : List ObjRef → List Bool → List ObjRef
chosen [] bs = []
chosen (q ∷ qs) [] = []
chosen (q ∷ qs) (true ∷ bs) = q ∷ chosen qs bs
chosen (q ∷ qs) (false ∷ bs) = chosen qs bs

-- those at the places of the bits, from a number on from which these stand
named_chosen : (all qs : List ObjRef) (bs : List Bool) (n : ℕ) → ((i : ℕ) → slice_get all (n + i) ≡ slice_get qs i) → filter_map (slice_get all) (places_from n bs) ≡ chosen qs bs
named_chosen all [] [] n h = refl
named_chosen all (q ∷ qs) [] n h = refl
named_chosen all [] (b ∷ bs) n h = by b (named_chosen all [] bs (suc n) later)
  where
    later : (i : ℕ) → slice_get all (suc n + i) ≡ None
    later i = let same : suc n + i ≡ n + suc i = omega arith in ap (slice_get all) same ∙ h (suc i)

    first : slice_get all n ≡ None
    first = let same : n ≡ n + 0 = omega arith in ap (slice_get all) same ∙ h 0

    by : (b : Bool) → filter_map (slice_get all) (places_from (suc n) bs) ≡ [] → filter_map (slice_get all) (if b then n ∷ places_from (suc n) bs else places_from (suc n) bs) ≡ []
    by true ih = ap (λ (o : Option ObjRef). cons_option o (filter_map (slice_get all) (places_from (suc n) bs))) first ∙ ih
    by false ih = ih
named_chosen all (q ∷ qs) (b ∷ bs) n h = by b (named_chosen all qs bs (suc n) later)
  where
    later : (i : ℕ) → slice_get all (suc n + i) ≡ slice_get qs i
    later i = let same : suc n + i ≡ n + suc i = omega arith in ap (slice_get all) same ∙ h (suc i)

    first : slice_get all n ≡ Some q
    first = let same : n ≡ n + 0 = omega arith in ap (slice_get all) same ∙ h 0

    by : (b : Bool) → filter_map (slice_get all) (places_from (suc n) bs) ≡ chosen qs bs → filter_map (slice_get all) (if b then n ∷ places_from (suc n) bs else places_from (suc n) bs) ≡ chosen (q ∷ qs) (b ∷ bs)
    by true ih = ap (λ (o : Option ObjRef). cons_option o (filter_map (slice_get all) (places_from (suc n) bs))) first ∙ ap (λ (t : List ObjRef). q ∷ t) ih
    by false ih = ih

chosen_behind : (q : ObjRef) (rs : List ObjRef) (bs : List Bool) → are_ascending (q ∷ rs) ≡ true → are_ascending (q ∷ chosen rs bs) ≡ true
chosen_behind q [] bs h = refl
chosen_behind q (r ∷ rs) [] h = refl
chosen_behind q (r ∷ rs) (true ∷ bs) h =
    let two = halves (is_lt (by_reference q r)) (are_ascending (r ∷ rs)) h in
    both_true two.0 (chosen_behind r rs bs two.1)
chosen_behind q (r ∷ rs) (false ∷ bs) h = chosen_behind q rs bs (skipped q r rs h)

chosen_ascend : (qs : List ObjRef) (bs : List Bool) → are_ascending qs ≡ true → are_ascending (chosen qs bs) ≡ true
chosen_ascend [] bs h = refl
chosen_ascend (q ∷ qs) [] h = refl
chosen_ascend (q ∷ qs) (true ∷ bs) h = chosen_behind q qs bs h
chosen_ascend (q ∷ qs) (false ∷ bs) h = chosen_ascend qs bs (tail_ascends q qs h)

pub named_ascend : (qs : List ObjRef) (rows : List (List Bool)) (u : ℕ) → are_ascending qs ≡ true → are_ascending (named qs (members_of rows u)) ≡ true
named_ascend qs rows u h = ap are_ascending (named_chosen qs qs (row rows u) 0 (λ i. zeroth i)) ∙ chosen_ascend qs (row rows u) h
  where
    zeroth : (i : ℕ) → slice_get qs (0 + i) ≡ slice_get qs i
    zeroth i = let same : 0 + i ≡ i = omega arith in ap (slice_get qs) same
