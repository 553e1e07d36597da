-- Objects gone over by their places, and places of actions.
use Rattle.std.specs.Prelude.{◌≡◌, ℕ, zero, suc, ◌+◌, ◌≤◌, ◌<◌, ◌&&◌, Bool, true, false, if◌then◌else◌, List, [], ◌∷◌, ◌++◌, drop, filter, length, slice_get, map, Option, Some, None, refl}
use Rattle.std.specs.List.{flat_map}
use Rattle.std.specs.Option.{option_map_or}
use Rattle.std.proofs.Common.{ap, sym, ◌∙◌, arith}
use Rattle.std.proofs.lemmas.List.{append_assoc, append-nil, drop_all}
use Rattle.mh_base.specs.declared.obj_ref.ObjRef.{ObjRef}
use Rattle.mh_model.specs.declared.act.Act.{Act}
use Rattle.mh_model.specs.Items.{acts}
use Rattle.mh_trace.specs.declared.site.EffectKind.{EffectKind}
use Rattle.mh_trace.specs.declared.site.Site.{Site}
use Rattle.mh_trace.specs.Sites.{places_from}

-- what the member at a place comes to, and then those behind it
next_of : {A B : Type 0} (f : A → List B) (xs : List A) (n : ℕ) → flat_map f (drop n xs) ≡ option_map_or f (slice_get xs n) [] ++ flat_map f (drop (suc n) xs)
next_of f [] zero = refl
next_of f [] (suc n) = refl
next_of f (x ∷ xs) zero = refl
next_of f (x ∷ xs) (suc n) = next_of f xs n

-- with what the next member comes to put behind
pub next_put : {A B : Type 0} (f : A → List B) (xs : List A) (n : ℕ) (old new all : List B) → new ≡ old ++ option_map_or f (slice_get xs n) []
    → old ++ flat_map f (drop n xs) ≡ all → new ++ flat_map f (drop (n + 1) xs) ≡ all
next_put f xs n old new all put so_far =
    let next : n + 1 ≡ suc n = omega arith in
    (λ i. put i ++ flat_map f (drop (next i) xs))
    ∙ append_assoc old (option_map_or f (slice_get xs n) []) (flat_map f (drop (suc n) xs))
    ∙ ap (λ ys. old ++ ys) (sym (next_of f xs n)) ∙ so_far

-- behind the last member nothing is left to put
pub all_put : {A B : Type 0} (f : A → List B) (xs : List A) (n : ℕ) (old all : List B) → length xs ≤ n → old ++ flat_map f (drop n xs) ≡ all → old ≡ all
all_put f xs n old all over so_far =
    sym (append-nil old) ∙ ap (λ ys. old ++ flat_map f ys) (sym (drop_all n xs over)) ∙ so_far

-- actions stand at as many places as items that do them
pub places_of_items : (r : ObjRef) (k : EffectKind) (n : ℕ) (xs : List Act) → places_from r k n (acts xs) ≡ places_from r k n xs
places_of_items r k n [] = refl
places_of_items r k n (x ∷ xs) = ap (λ (ss : List Site). record { object = r; kind = k; number = n } ∷ ss) (places_of_items r k (suc n) xs)

-- a link that runs and waits for an event's source, type and data hears it
pub heard_so : (l r s t d : Bool) → (r && (if l then (if s then t else false) else false)) && d ≡ l && r && s && t && d
heard_so false false s t d = refl
heard_so false true s t d = refl
heard_so true false s t d = refl
heard_so true true false t d = refl
heard_so true true true false d = refl
heard_so true true true true d = refl

places_step : (r : ObjRef) (k : EffectKind) (m : ℕ) (xs : List Act) (n : ℕ) → n < length xs
    → places_from r k m (drop n xs) ≡ record { object = r; kind = k; number = m } ∷ places_from r k (suc m) (drop (n + 1) xs)
places_step r k m [] n h = let bad : n < 0 = grind (arith, h) in absurd (omega arith)
places_step r k m (x ∷ xs) zero h = refl
places_step r k m (x ∷ xs) (suc n) h =
    let next : suc n + 1 ≡ suc (n + 1) = omega arith in
    rw next (places_step r k m xs n (grind (arith, h)))

-- with the place of one action more
pub next_place : (r : ObjRef) (k : EffectKind) (n : ℕ) (xs : List Act) (old new all : List Site) → n < length xs
    → new ≡ old ++ record { object = r; kind = k; number = n + 1 } ∷ [] → old ++ places_from r k (n + 1) (drop n xs) ≡ all
    → new ++ places_from r k (n + 1 + 1) (drop (n + 1) xs) ≡ all
next_place r k n xs old new all less put so_far =
    let next : n + 1 + 1 ≡ suc (n + 1) = omega arith in
    let this : List Site = record { object = r; kind = k; number = n + 1 } ∷ [] in
    (λ i. put i ++ places_from r k (next i) (drop (n + 1) xs))
    ∙ append_assoc old this (places_from r k (suc (n + 1)) (drop (n + 1) xs))
    ∙ ap (λ (ss : List Site). old ++ ss) (sym (places_step r k (n + 1) xs n less)) ∙ so_far

-- no more are left of a list than it has
pub fewer : {X : Type 0} (p : X → Bool) (xs : List X) → length (filter p xs) ≤ length xs
fewer p [] = omega arith
fewer p (x ∷ xs) =
    let less = fewer p xs in
    elim (p x) as (λ (b : Bool). length (if b then x ∷ filter p xs else filter p xs) ≤ suc (length xs)) [
      | true ↦ omega (arith, less)
      | false ↦ omega (arith, less)
    ]
