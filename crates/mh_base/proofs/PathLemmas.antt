-- The parts of a path, cut at its first slash.
use Rattle.std.specs.Prelude.{◌≡◌, ℕ, ◌+◌, ◌-◌, ◌<◌, ◌≤◌, Bool, true, false, ◌&&◌, not, nat_lt, List, [], ◌∷◌, length, take, drop, Some, None, cond, refl, ◌==◌, suc}
use Rattle.std.specs.List.{slice_split, position, position_or_len, onto_first}
use Rattle.mh_base.specs.Path.{has_good_parts, is_part}
use Rattle.std.proofs.Common.{ap, ◌∙◌, sym, subst, arith, add-one}
use Rattle.std.proofs.lemmas.Bool.{ltb-true, ltb-false}
use Rattle.std.proofs.lemmas.List.{take_rest}

-- with no cut there is one part
pub slice_split-uncut : {X : Type 0} (p : X → Bool) (xs : List X) → length xs ≤ position_or_len p xs → slice_split p xs ≡ xs ∷ []
slice_split-uncut p [] h = refl
slice_split-uncut p (x ∷ xs) shorter_or_same =
    (elim (p x) as (λ b. suc (length xs) ≤ cond (not b) (1 + position_or_len p xs) 0 → cond b ([] ∷ slice_split p xs) (onto_first x (slice_split p xs)) ≡ (x ∷ xs) ∷ []) [
      | true ↦ λ h. absurd (omega (arith, h))
      | false ↦ λ h. let shorter : length xs ≤ position_or_len p xs = omega (arith, h) in rw (slice_split-uncut p xs shorter) refl
    ]) shorter_or_same

-- the part before the first cut, and the parts behind it
pub slice_split-cut : {X : Type 0} (p : X → Bool) (xs : List X) → position_or_len p xs < length xs → slice_split p xs ≡ take (position_or_len p xs) xs ∷ slice_split p (drop (suc (position_or_len p xs)) xs)
slice_split-cut p [] h = absurd (omega (arith, h))
slice_split-cut p (x ∷ xs) inside =
    (elim (p x) as (λ b. cond (not b) (1 + position_or_len p xs) 0 < suc (length xs) → cond b ([] ∷ slice_split p xs) (onto_first x (slice_split p xs)) ≡ take (cond (not b) (1 + position_or_len p xs) 0) (x ∷ xs) ∷ slice_split p (drop (suc (cond (not b) (1 + position_or_len p xs) 0)) (x ∷ xs))) [
      | true ↦ λ h. refl
      | false ↦ λ h. let shorter : position_or_len p xs < length xs = omega (arith, h) in
          let one : 1 + position_or_len p xs ≡ suc (position_or_len p xs) = omega arith in
          rw (one, slice_split-cut p xs shorter) refl
    ]) inside

-- what `position` found is the first cut
pub position-some : {X : Type 0} (p : X → Bool) (xs : List X) (at : ℕ) → position p xs ≡ Some at → (position_or_len p xs ≡ at) × (at < length xs)
position-some p xs at found = found_from (nat_lt (position_or_len p xs) (length xs)) refl found
  where
    found_from : (b : Bool) → nat_lt (position_or_len p xs) (length xs) ≡ b → cond b (Some (position_or_len p xs)) None ≡ Some at → (position_or_len p xs ≡ at) × (at < length xs)
    found_from true less some =
        let same : position_or_len p xs ≡ at = cc in
        (same, subst (λ n. n < length xs) same (ltb-true _ _ less))
    found_from false less some = cc

pub position-none : {X : Type 0} (p : X → Bool) (xs : List X) → position p xs ≡ None → length xs ≤ position_or_len p xs
position-none p xs none = found_from (nat_lt (position_or_len p xs) (length xs)) refl none
  where
    found_from : (b : Bool) → nat_lt (position_or_len p xs) (length xs) ≡ b → cond b (Some (position_or_len p xs)) None ≡ None → length xs ≤ position_or_len p xs
    found_from true less some = cc
    found_from false less some = ltb-false _ _ less

-- bytes without a slash are one part
pub has_good_parts-uncut : (bs : List ℕ) → position (λ b. b == 47) bs ≡ None → has_good_parts bs ≡ is_part bs
unfolding has_good_parts
has_good_parts-uncut bs none =
    let whole : slice_split (λ b. b == 47) bs ≡ bs ∷ [] = slice_split-uncut (λ b. b == 47) bs (position-none (λ b. b == 47) bs none) in
    rw whole (one_test (is_part bs))
  where
    one_test : (b : Bool) → (b && true) ≡ b
    one_test true = refl
    one_test false = refl

-- bytes with a slash have the part before it, and then those of the rest
pub has_good_parts-cut : (bs : List ℕ) (at : ℕ) → position (λ b. b == 47) bs ≡ Some at → has_good_parts bs ≡ (is_part (take at bs) && has_good_parts (drop (suc at) bs))
unfolding has_good_parts
has_good_parts-cut bs at some =
    let found = position-some (λ b. b == 47) bs at some in
    let inside : position_or_len (λ b. b == 47) bs < length bs = subst (λ n. n < length bs) (sym found.0) found.1 in
    let pieces : slice_split (λ b. b == 47) bs ≡ take at bs ∷ slice_split (λ b. b == 47) (drop (suc at) bs) =
    subst (λ (n : ℕ). slice_split (λ b. b == 47) bs ≡ take n bs ∷ slice_split (λ b. b == 47) (drop (suc n) bs)) found.0 (slice_split-cut (λ b. b == 47) bs inside) in
    rw pieces refl

-- the answer for bytes whose first part is good: that of the rest
pub good_first : (bs : List ℕ) (at : ℕ) (part rest : Bool) → position (λ b. b == 47) bs ≡ Some at → part ≡ is_part (take at bs) → part ≡ true → rest ≡ has_good_parts (take (length bs - (at + 1)) (drop (at + 1) bs)) → rest ≡ has_good_parts bs
good_first bs at part rest some is holds tail =
    let short : take (length bs - (at + 1)) (drop (at + 1) bs) ≡ drop (suc at) bs = take_rest bs (at + 1) ∙ ap (λ (n : ℕ). drop n bs) (add-one at) in
    let true_part : is_part (take at bs) ≡ true = sym is ∙ holds in
    let whole : has_good_parts bs ≡ (true && has_good_parts (drop (suc at) bs)) = has_good_parts-cut bs at some ∙ ap (λ (t : Bool). t && has_good_parts (drop (suc at) bs)) true_part in
    tail ∙ ap has_good_parts short ∙ sym whole

-- the answer for bytes whose first part is not good
pub bad_first : (bs : List ℕ) (at : ℕ) (part : Bool) → position (λ b. b == 47) bs ≡ Some at → part ≡ is_part (take at bs) → part ≡ false → part ≡ has_good_parts bs
bad_first bs at part some is not_good =
    let whole : has_good_parts bs ≡ (false && has_good_parts (drop (suc at) bs)) = has_good_parts-cut bs at some ∙ ap (λ (t : Bool). t && has_good_parts (drop (suc at) bs)) (sym is ∙ not_good) in
    not_good ∙ sym whole
