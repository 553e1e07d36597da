-- Lists whose members are each so, and one among them.
use Rattle.std.specs.Prelude.{◌≡◌, ◌⊎◌, ◌≤◌, ◌<◌, ℕ, zero, suc, ◌+◌, nat_le, Bool, true, false, cond, List, [], ◌∷◌, ◌++◌, map, filter, slice_get, Option, Some, unwrap_or, refl}
use Rattle.std.specs.List.{find, list_all, flat_map, range_with_len, Contains}
use Rattle.std.proofs.Common.{rules, arith, inl, inr, ap, sym, subst, leb-true, leb-false}
use Rattle.std.proofs.lemmas.List.Elements.{Contains-append_right}
use Rattle.mh_laws.specs.Each.{Each, Among}
use Rattle.mh_model.proofs.ListLemmas.{and_left, and_right, some_same}

pub each_left : {X : Type 0} (P : X → Type 0) (xs ys : List X) → Each P (xs ++ ys) → Each P xs
each_left P [] ys h = tt
each_left P (x ∷ xs) ys h = (h.0, each_left P xs ys h.1)

pub each_right : {X : Type 0} (P : X → Type 0) (xs ys : List X) → Each P (xs ++ ys) → Each P ys
each_right P [] ys h = h
each_right P (x ∷ xs) ys h = each_right P xs ys h.1

pub each_joined : {X : Type 0} (P : X → Type 0) (xs ys : List X) → Each P xs → Each P ys → Each P (xs ++ ys)
each_joined P [] ys h k = k
each_joined P (x ∷ xs) ys h k = (h.0, each_joined P xs ys h.1 k)

pub each_found : {X : Type 0} (P : X → Type 0) (p : X → Bool) (xs : List X) (y : X) → Each P xs → find p xs ≡ Some y → P y
each_found P p [] y h e = absurd cc
each_found {X} P p (x ∷ xs) y h e = by (p x) (λ rest. each_found P p xs y h.1 rest) e
  where
    by : (b : Bool) → (find p xs ≡ Some y → P y) → cond b (Some x) (find p xs) ≡ Some y → P y
    by true below e = subst P (some_same e) h.0
    by false below e = below e

pub each_contained : {X : Type 0} (P : X → Type 0) (xs : List X) (x : X) → Each P xs → Contains xs x → P x
each_contained P [] x h c = absurd (omega (arith, c.1))
each_contained P (y ∷ xs) x h (zero, less, e) = subst P e h.0
each_contained P (y ∷ xs) x h (suc i, less, e) = each_contained P xs x h.1 (i, omega (arith, less), e)

-- One among them

pub among_left : {X : Type 0} (xs ys : List X) (x : X) → Among xs x → Among (xs ++ ys) x
among_left {X} [] ys x h = absurd cc
among_left {X} (y ∷ xs) ys x (inl same) = inl same
among_left {X} (y ∷ xs) ys x (inr more) = inr (among_left xs ys x more)

pub among_right : {X : Type 0} (xs ys : List X) (x : X) → Among ys x → Among (xs ++ ys) x
among_right {X} [] ys x h = h
among_right {X} (y ∷ xs) ys x h = inr (among_right xs ys x h)

pub among_either : {X : Type 0} (xs ys : List X) (x : X) → Among (xs ++ ys) x → Among xs x ⊎ Among ys x
among_either {X} [] ys x h = inr h
among_either {X} (y ∷ xs) ys x (inl same) = inl (inl same)
among_either {X} (y ∷ xs) ys x (inr more) = by (among_either xs ys x more)
  where
    by : Among xs x ⊎ Among ys x → Among (y ∷ xs) x ⊎ Among ys x
    by (inl h) = inl (inr h)
    by (inr h) = inr h

pub contains_of : {X : Type 0} (xs : List X) (x : X) → Among xs x → Contains xs x
contains_of {X} [] x h = absurd cc
contains_of {X} (y ∷ xs) x (inl same) = (0, search rules, same)
contains_of {X} (y ∷ xs) x (inr more) = Contains-append_right (y ∷ []) xs x (contains_of xs x more)

pub got_among : {X : Type 0} (xs : List X) (n : ℕ) (x : X) → slice_get xs n ≡ Some x → Among xs x
got_among {X} [] n x e = absurd cc
got_among {X} (y ∷ xs) zero x e = inl (ap (λ (m : Option X). unwrap_or m y) e)
got_among {X} (y ∷ xs) (suc n) x e = inr (got_among xs n x e)

pub each_among : {X : Type 0} (P : X → Type 0) (xs : List X) (x : X) → Each P xs → Among xs x → P x
each_among P [] x h there = absurd cc
each_among P (y ∷ xs) x h (inl same) = subst P same h.0
each_among P (y ∷ xs) x h (inr more) = each_among P xs x h.1 more

pub among_each : {X : Type 0} (P : X → Type 0) (xs : List X) → ((x : X) → Among xs x → P x) → Each P xs
among_each P [] h = tt
among_each P (x ∷ xs) h = (h x (inl refl), among_each P xs (λ y there. h y (inr there)))

pub among_all : {X : Type 0} (p : X → Bool) (xs : List X) (x : X) → list_all p xs ≡ true → Among xs x → p x ≡ true
among_all p [] x all there = absurd cc
among_all {X} p (y ∷ xs) x all (inl same) = subst (λ (z : X). p z ≡ true) same (and_left (p y) (list_all p xs) all)
among_all p (y ∷ xs) x all (inr more) = among_all p xs x (and_right (p y) (list_all p xs) all) more

pub among_filtered : {X : Type 0} (p : X → Bool) (xs : List X) (x : X) → p x ≡ true → Among xs x → Among (filter p xs) x
among_filtered p [] x h there = there
among_filtered {X} p (y ∷ xs) x h there = by (p y) refl there (λ more. among_filtered p xs x h more)
  where
    by : (b : Bool) → p y ≡ b → (y ≡ x) ⊎ Among xs x → (Among xs x → Among (filter p xs) x) → Among (cond b (y ∷ filter p xs) (filter p xs)) x
    by true e (inl same) behind = inl same
    by true e (inr more) behind = inr (behind more)
    by false e (inl same) behind = let is : p y ≡ true = subst (λ (z : X). p z ≡ true) (sym same) h in absurd cc
    by false e (inr more) behind = behind more

pub among_mapped : {X Y : Type 0} (f : X → Y) (xs : List X) (x : X) → Among xs x → Among (map f xs) (f x)
among_mapped f [] x there = there
among_mapped f (y ∷ xs) x (inl same) = inl (ap f same)
among_mapped f (y ∷ xs) x (inr more) = inr (among_mapped f xs x more)

pub from_mapped : {X Y : Type 0} (f : X → Y) (xs : List X) (y : Y) → Among (map f xs) y → (x : X) × Among xs x × (f x ≡ y)
from_mapped f [] y there = absurd cc
from_mapped f (x ∷ xs) y (inl same) = (x, inl refl, same)
from_mapped f (x ∷ xs) y (inr more) = let from = from_mapped f xs y more in (from.0, inr from.1, from.2)

pub among_joined : {X Y : Type 0} (f : X → List Y) (xs : List X) (x : X) (y : Y) → Among xs x → Among (f x) y → Among (flat_map f xs) y
among_joined f [] x y there own = absurd cc
among_joined {X} {Y} f (z ∷ xs) x y (inl same) own = among_left (f z) (flat_map f xs) y (subst (λ (t : X). Among (f t) y) (sym same) own)
among_joined f (z ∷ xs) x y (inr more) own = among_right (f z) (flat_map f xs) y (among_joined f xs x y more own)

pub from_joined : {X Y : Type 0} (f : X → List Y) (xs : List X) (y : Y) → Among (flat_map f xs) y → (x : X) × Among xs x × Among (f x) y
from_joined f [] y there = absurd cc
from_joined {X} {Y} f (x ∷ xs) y there = by (among_either (f x) (flat_map f xs) y there) (λ more. from_joined f xs y more)
  where
    by : Among (f x) y ⊎ Among (flat_map f xs) y → (Among (flat_map f xs) y → (z : X) × Among xs z × Among (f z) y) → (z : X) × Among (x ∷ xs) z × Among (f z) y
    by (inl own) behind = (x, inl refl, own)
    by (inr more) behind = let from = behind more in (from.0, inr from.1, from.2)

pub among_range : (a n k : ℕ) → a ≤ k → k < a + n → Among (range_with_len a n) k
among_range a zero k h less = absurd (omega (arith, h, less))
among_range a (suc n) k h less = by (nat_le k a) refl (λ from to. among_range (a + 1) n k from to)
  where
    first : (x y : ℕ) → x ≤ y → y ≤ x → x ≡ y
    first x y h l = omega (arith, h, l)

    by : (b : Bool) → nat_le k a ≡ b → (a + 1 ≤ k → k < a + 1 + n → Among (range_with_len (a + 1) n) k) → (a ≡ k) ⊎ Among (range_with_len (a + 1) n) k
    by true e behind = inl (first a k h (leb-true k a e))
    by false e behind = let more = leb-false k a e in inr (behind (omega (arith, more)) (omega (arith, less)))

pub from_range : (a n k : ℕ) → Among (range_with_len a n) k → k < a + n
from_range a zero k there = absurd cc
from_range a (suc n) k (inl same) = omega (arith, same)
from_range a (suc n) k (inr more) = let less = from_range (a + 1) n k more in omega (arith, less)
