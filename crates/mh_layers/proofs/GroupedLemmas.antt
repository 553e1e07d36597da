-- The largest sum over one data value.
use Rattle.std.specs.Prelude.{◌≡◌, ℕ, ◌+◌, Bool, List, [], ◌∷◌, map, Option, Some, None, max, refl}
use Rattle.std.proofs.Common.{arith, ap, ◌∙◌}
use Rattle.mh_layers.specs.Grouped.{sum_of, most_of, hears, is_plain, has, only}

-- one link
one : {V : Type 0} (same : V → V → Bool) (d : Option V) (v : V) (n : ℕ) → only (hears same d (Some v)) n ≡ only (is_plain d) n + only (has same v d) n
one same None v n = omega arith
one same (Some d) v n = omega arith

none : {V : Type 0} (same : V → V → Bool) (d : Option V) (n : ℕ) → only (hears same d None) n ≡ only (is_plain d) n
none same None n = refl
none same (Some d) n = refl

each : {X V : Type 0} (same : V → V → Bool) (f : X → Option V) (cost : X → ℕ) (xs : List X) (v : V) → sum_of (λ x. only (hears same (f x) (Some v)) (cost x)) xs ≡ sum_of (λ x. only (is_plain (f x)) (cost x)) xs + sum_of (λ x. only (has same v (f x)) (cost x)) xs
each same f cost [] v = omega arith
each same f cost (x ∷ xs) v =
    let here = one same (f x) v (cost x) in
    let rest = each same f cost xs v in
    omega (arith, here, rest)

plainly : {X V : Type 0} (same : V → V → Bool) (f : X → Option V) (cost : X → ℕ) (xs : List X) → sum_of (λ x. only (hears same (f x) None) (cost x)) xs ≡ sum_of (λ x. only (is_plain (f x)) (cost x)) xs
plainly same f cost [] = refl
plainly same f cost (x ∷ xs) = λ i. none same (f x) (cost x) i + plainly same f cost xs i

largest : {V : Type 0} (a : ℕ) (g h : Option V → ℕ) (b : V → ℕ) (vs : List V) → ((v : V) → g (Some v) ≡ a + b v) → max a (most_of g (map Some vs)) ≡ a + most_of b vs
largest a g h b [] e = omega arith
largest a g h b (v ∷ vs) e =
    let here = e v in
    let rest : max a (most_of g (map Some vs)) ≡ a + most_of b vs = largest a g h b vs e in
    omega (arith, here, rest)

pub sums_by_data : (X V : Type 0) (same : V → V → Bool) (f : X → Option V) (cost : X → ℕ) (xs : List X) (vs : List V) → most_of (λ m. sum_of (λ x. only (hears same (f x) m) (cost x)) xs) (None ∷ map Some vs) ≡ sum_of (λ x. only (is_plain (f x)) (cost x)) xs + most_of (λ v. sum_of (λ x. only (has same v (f x)) (cost x)) xs) vs
sums_by_data X V same f cost xs vs =
    ap (λ (n : ℕ). max n (most_of (λ m. sum_of (λ x. only (hears same (f x) m) (cost x)) xs) (map Some vs))) (plainly same f cost xs)
    ∙ largest (sum_of (λ x. only (is_plain (f x)) (cost x)) xs) (λ m. sum_of (λ x. only (hears same (f x) m) (cost x)) xs) (λ m. 0) (λ v. sum_of (λ x. only (has same v (f x)) (cost x)) xs) vs (each same f cost xs)
