-- Members of sets, and that the least sets have all that is derived.
use Rattle.std.specs.Prelude.{◌≡◌, ℕ, zero, suc, ◌+◌, ◌<◌, ◌≤◌, Bool, true, false, List, [], ◌∷◌, length, slice_index, refl}
use Rattle.std.specs.List.{Contains}
use Rattle.std.specs.List.Sorted.{IsStrictlyIncreasing}
use Rattle.std.proofs.Common.{rules, arith, ap, ◌∙◌, subst}
use Rattle.std.proofs.lemmas.List.Elements.{Contains-append_right}
use Rattle.mh_flow.specs.declared.fixpoint.constraints.Item.{Item}
use Rattle.mh_flow.specs.declared.fixpoint.constraints.Item.TheVariants as item
use Rattle.mh_flow.specs.Rows.{row, is_at, has, places_from}
use Rattle.mh_flow.specs.Constraints.{ConstraintSystem, Derived, begun, opened, along}
use Rattle.mh_flow.specs.Sets.{IsThere, IsLeast, members_of}

-- all that is derived is in the least sets
pub all_there : (system : ConstraintSystem) (rows : List (List Bool)) (k : IsLeast system rows) (x : Item) → Derived system x → IsThere rows k.edges x
all_there system rows k x (begun y h) = k.starts y h
all_there system rows k x (opened f y d h) = k.opened f (all_there system rows k (item.Member f) d) y h
all_there system rows k x (along u v q e d) = k.along u v q (all_there system rows k (item.Edge u v) e) (all_there system rows k (item.Member (record { node = u; member = q })) d)

place_in : (n : ℕ) (bs : List Bool) (q : ℕ) → is_at bs q ≡ true → Contains (places_from n bs) (n + q)
place_in n [] q e = absurd cc
place_in n (true ∷ bs) zero e = (0, search rules, omega arith)
place_in n (false ∷ bs) zero e = absurd cc
place_in n (true ∷ bs) (suc q) e =
    let same : suc n + q ≡ n + suc q = omega arith in
    Contains-append_right (n ∷ []) (places_from (suc n) bs) (n + suc q) (subst (Contains (places_from (suc n) bs)) same (place_in (suc n) bs q e))
place_in n (false ∷ bs) (suc q) e =
    let same : suc n + q ≡ n + suc q = omega arith in
    subst (Contains (places_from (suc n) bs)) same (place_in (suc n) bs q e)

place_only : (n : ℕ) (bs : List Bool) (x : ℕ) → Contains (places_from n bs) x → (q : ℕ) × (x ≡ n + q) × (is_at bs q ≡ true)
place_only n [] x h = absurd (omega (arith, h.1))
place_only n (true ∷ bs) x (zero, less, e) = (0, omega (arith, e), refl)
place_only n (true ∷ bs) x (suc i, less, e) =
    let below = place_only (suc n) bs x (i, omega (arith, less), e) in
    (suc below.0, omega (arith, below.1), below.2)
place_only n (false ∷ bs) x h =
    let below = place_only (suc n) bs x h in
    (suc below.0, omega (arith, below.1), below.2)

place_least : (n : ℕ) (bs : List Bool) (k : ℕ) → k < length (places_from n bs) → n ≤ slice_index (places_from n bs) k
place_least n [] k less = absurd (omega (arith, less))
place_least n (true ∷ bs) zero less = omega arith
place_least n (true ∷ bs) (suc k) less = let below = place_least (suc n) bs k (omega (arith, less)) in omega (arith, below)
place_least n (false ∷ bs) k less = let below = place_least (suc n) bs k less in omega (arith, below)

places_rise : (n : ℕ) (bs : List Bool) → IsStrictlyIncreasing (places_from n bs)
places_rise n [] k less = absurd (omega (arith, less))
places_rise n (true ∷ bs) zero less = let above = place_least (suc n) bs 0 (omega (arith, less)) in omega (arith, above)
places_rise n (true ∷ bs) (suc k) less =
    let next : suc (k + 1) ≡ suc k + 1 = omega arith in
    subst (λ (i : ℕ). slice_index (places_from (suc n) bs) k < slice_index (n ∷ places_from (suc n) bs) i) next
    (places_rise (suc n) bs k (omega (arith, less)))
places_rise n (false ∷ bs) k less = places_rise (suc n) bs k less

-- the members are those that the set has
pub members_contain : (rows : List (List Bool)) (u q : ℕ) → has rows u q ≡ true → Contains (members_of rows u) q
members_contain rows u q e =
    let same : 0 + q ≡ q = omega arith in
    subst (Contains (members_of rows u)) same (place_in 0 (row rows u) q e)

pub members_only : (rows : List (List Bool)) (u q : ℕ) → Contains (members_of rows u) q → has rows u q ≡ true
members_only rows u q h =
    let found = place_only 0 (row rows u) q h in
    let same : q ≡ found.0 = omega (arith, found.1) in
    ap (λ (x : ℕ). is_at (row rows u) x) same ∙ found.2

-- each member is below the next
pub members_rise : (rows : List (List Bool)) (u : ℕ) → IsStrictlyIncreasing (members_of rows u)
members_rise rows u = places_rise 0 (row rows u)
