-- Links by their data: the largest sum over one data value, with each link looked at once.
use Rattle.std.specs.Prelude.{◌≡◌, ℕ, ◌+◌, Bool, true, false, List, [], ◌∷◌, map, Option, Some, None, max}

abbrev pub sum_of : {X : Type 0} → (X → ℕ) → List X → ℕ
sum_of f [] = 0
sum_of f (x ∷ xs) = f x + sum_of f xs

abbrev pub most_of : {X : Type 0} → (X → ℕ) → List X → ℕ
most_of f [] = 0
most_of f (x ∷ xs) = max (f x) (most_of f xs)

abbrev pub hears : {V : Type 0} → (V → V → Bool) → Option V → Option V → Bool
hears same None m = true
hears same (Some d) None = false
hears same (Some d) (Some e) = same d e

abbrev pub is_plain : {V : Type 0} → Option V → Bool
is_plain None = true
is_plain (Some d) = false

abbrev pub has : {V : Type 0} → (V → V → Bool) → V → Option V → Bool
has same v None = false
has same v (Some d) = same d v

abbrev pub only : Bool → ℕ → ℕ
only true n = n
only false n = 0

abbrev pub SumsByData : Type 0 → Type 0 → Type 0
SumsByData X V =
    (same : V → V → Bool) («data» : X → Option V) (cost : X → ℕ) (xs : List X) (vs : List V) →
    most_of (λ m. sum_of (λ x. only (hears same («data» x) m) (cost x)) xs) (None ∷ map Some vs)
    ≡ sum_of (λ x. only (is_plain («data» x)) (cost x)) xs + most_of (λ v. sum_of (λ x. only (has same v («data» x)) (cost x)) xs) vs
