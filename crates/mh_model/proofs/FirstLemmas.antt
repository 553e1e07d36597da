-- The first hit of a list by its place: what is found there, and what changing it or putting a member
-- in its place gives.
use Rattle.std.specs.Prelude.{◌≡◌, ℕ, ◌+◌, ◌<◌, ◌≤◌, Bool, true, false, List, [], ◌∷◌, ◌++◌, length, Some, None, refl, slice_set, slice_index_or, suc}
use Rattle.std.specs.List.{find, position, position_or_len}
use Rattle.std.proofs.Common.{ap, ◌∙◌, sym, subst, arith}
use Rattle.mh_base.proofs.PathLemmas.{position-some, position-none}
use Rattle.mh_model.specs.First.{change_first, put_first}

-- the place i is that of the first hit
pub record IsFirstHit {X : Type 0} (p : X → Bool) (xs : List X) (i : ℕ) : Type 0 where
  pub within : i < length xs
  pub found : (d : X) → find p xs ≡ Some (slice_index_or xs i d)
  pub change : (f : X → X) (d : X) → change_first p f xs ≡ slice_set xs i (f (slice_index_or xs i d))
  pub put : (y : X) → put_first p y xs ≡ slice_set xs i y

-- there is no hit
pub record HasNoHit {X : Type 0} (p : X → Bool) (xs : List X) : Type 0 where
  pub found : find p xs ≡ None
  pub change : (f : X → X) → change_first p f xs ≡ xs
  pub put : (y : X) → put_first p y xs ≡ xs ++ y ∷ []

pub hit-position_or_len : {X : Type 0} (p : X → Bool) (xs : List X) → position_or_len p xs < length xs → IsFirstHit p xs (position_or_len p xs)
hit-position_or_len p [] inside = absurd (omega (arith, inside))
hit-position_or_len {X} p (x ∷ xs) inside = by_test (λ shorter. hit-position_or_len p xs shorter) (p x) refl
  where
    by_test : (position_or_len p xs < length xs → IsFirstHit p xs (position_or_len p xs)) → (b : Bool) → p x ≡ b → IsFirstHit p (x ∷ xs) (position_or_len p (x ∷ xs))
    by_test below true e =
        let here : position_or_len p (x ∷ xs) ≡ 0 = rw e refl in
        subst (λ (n : ℕ). IsFirstHit p (x ∷ xs) n) (sym here) (record {
          within = omega arith;
          found = λ d. rw e refl;
          change = λ f d. rw e refl;
          put = λ y. rw e refl;
        })
    by_test below false e =
        let first : position_or_len p (x ∷ xs) ≡ 1 + position_or_len p xs = rw e refl in
        let one : 1 + position_or_len p xs ≡ suc (position_or_len p xs) = omega arith in
        let there : position_or_len p (x ∷ xs) ≡ suc (position_or_len p xs) = first ∙ one in
        let shorter : position_or_len p xs < length xs = omega (arith, inside, there) in
        let tail = below shorter in
        subst (λ (n : ℕ). IsFirstHit p (x ∷ xs) n) (sym there) (record {
          within = omega (arith, shorter);
          found = λ d. rw e (tail.found d);
          change = λ f d. rw e (ap (λ (t : List X). x ∷ t) (tail.change f d));
          put = λ y. rw e (ap (λ (t : List X). x ∷ t) (tail.put y));
        })

pub none-position_or_len : {X : Type 0} (p : X → Bool) (xs : List X) → length xs ≤ position_or_len p xs → HasNoHit p xs
none-position_or_len p [] past = record { found = refl; change = λ f. refl; put = λ y. refl }
none-position_or_len {X} p (x ∷ xs) past = by_test (λ shorter. none-position_or_len p xs shorter) (p x) refl
  where
    by_test : (length xs ≤ position_or_len p xs → HasNoHit p xs) → (b : Bool) → p x ≡ b → HasNoHit p (x ∷ xs)
    by_test below true e =
        let here : position_or_len p (x ∷ xs) ≡ 0 = rw e refl in
        absurd (omega (arith, past, here))
    by_test below false e =
        let first : position_or_len p (x ∷ xs) ≡ 1 + position_or_len p xs = rw e refl in
        let shorter : length xs ≤ position_or_len p xs = omega (arith, past, first) in
        let tail = below shorter in
        record {
          found = rw e tail.found;
          change = λ f. rw e (ap (λ (t : List X). x ∷ t) (tail.change f));
          put = λ y. rw e (ap (λ (t : List X). x ∷ t) (tail.put y));
        }

-- what `position` found is the first hit
pub first-position : {X : Type 0} (p : X → Bool) (xs : List X) (i : ℕ) → position p xs ≡ Some i → IsFirstHit p xs i
first-position p xs i found =
    let place = position-some p xs i found in
    let inside : position_or_len p xs < length xs = subst (λ (n : ℕ). n < length xs) (sym place.0) place.1 in
    subst (λ (n : ℕ). IsFirstHit p xs n) place.0 (hit-position_or_len p xs inside)

-- where it found nothing there is none
pub none-position : {X : Type 0} (p : X → Bool) (xs : List X) → position p xs ≡ None → HasNoHit p xs
none-position p xs none = none-position_or_len p xs (position-none p xs none)
