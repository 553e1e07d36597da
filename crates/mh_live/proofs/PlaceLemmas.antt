-- Members of a list gone over by their places.
use Rattle.std.specs.Prelude.{◌≡◌, ℕ, zero, suc, ◌+◌, ◌≤◌, List, [], ◌∷◌, ◌++◌, drop, length, slice_get, refl}
use Rattle.std.specs.List.{flat_map}
use Rattle.std.specs.Option.{option_map_or}
use Rattle.std.proofs.Common.{ap, sym, ◌∙◌, arith}
use Rattle.std.proofs.lemmas.List.{append_assoc, append-nil, drop_all}

-- what the member at a place comes to, and then those behind it
next_of : {A B : Type 0} (f : A → List B) (xs : List A) (n : ℕ) → flat_map f (drop n xs) ≡ option_map_or f (slice_get xs n) [] ++ flat_map f (drop (suc n) xs)
next_of f [] zero = refl
next_of f [] (suc n) = refl
next_of f (x ∷ xs) zero = refl
next_of f (x ∷ xs) (suc n) = next_of f xs n

-- with what the next member comes to put behind
pub next_put : {A B : Type 0} (f : A → List B) (xs : List A) (n : ℕ) (old new all : List B) → new ≡ old ++ option_map_or f (slice_get xs n) []
    → old ++ flat_map f (drop n xs) ≡ all → new ++ flat_map f (drop (n + 1) xs) ≡ all
next_put f xs n old new all put so_far =
    let next : n + 1 ≡ suc n = omega arith in
    (λ i. put i ++ flat_map f (drop (next i) xs))
    ∙ append_assoc old (option_map_or f (slice_get xs n) []) (flat_map f (drop (suc n) xs))
    ∙ ap (λ ys. old ++ ys) (sym (next_of f xs n)) ∙ so_far

-- behind the last member nothing is left to put
pub all_put : {A B : Type 0} (f : A → List B) (xs : List A) (n : ℕ) (old all : List B) → length xs ≤ n → old ++ flat_map f (drop n xs) ≡ all → old ≡ all
all_put f xs n old all over so_far =
    sym (append-nil old) ∙ ap (λ ys. old ++ flat_map f ys) (sym (drop_all n xs over)) ∙ so_far
