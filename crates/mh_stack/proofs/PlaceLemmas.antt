-- A reference put just above or just below the first place of another one.
use Rattle.std.specs.Prelude.{◌≡◌, ℕ, suc, ◌+◌, ◌<◌, ◌≤◌, Bool, true, false, List, [], ◌∷◌, ◌++◌, length, Some, None, refl}
use Rattle.std.specs.List.{insert, position, position_or_len}
use Rattle.std.proofs.Common.{ap, ◌∙◌, sym, subst, arith}
use Rattle.mh_base.proofs.PathLemmas.{position-some, position-none}
use Rattle.mh_base.specs.declared.obj_ref.ObjRef.{ObjRef}
use Rattle.mh_model.specs.Stack.{just_above, just_below}
use Rattle.mh_model.specs.Reference.{same_ref}

above : (r q : ObjRef) (xs : List ObjRef) → position_or_len (same_ref q) xs < length xs → just_above r q xs ≡ insert xs (position_or_len (same_ref q) xs + 1) r
above r q [] inside = absurd (omega (arith, inside))
above r q (x ∷ xs) inside = by (λ shorter. above r q xs shorter) (same_ref q x) refl
  where
    by : (position_or_len (same_ref q) xs < length xs → just_above r q xs ≡ insert xs (position_or_len (same_ref q) xs + 1) r) → (b : Bool) → same_ref q x ≡ b
        → just_above r q (x ∷ xs) ≡ insert (x ∷ xs) (position_or_len (same_ref q) (x ∷ xs) + 1) r
    by below true e =
        let here : position_or_len (same_ref q) (x ∷ xs) ≡ 0 = rw e refl in
        rw here (rw e refl)
    by below false e =
        let first : position_or_len (same_ref q) (x ∷ xs) ≡ 1 + position_or_len (same_ref q) xs = rw e refl in
        let there : position_or_len (same_ref q) (x ∷ xs) + 1 ≡ suc (position_or_len (same_ref q) xs + 1) = omega (arith, first) in
        let shorter : position_or_len (same_ref q) xs < length xs = omega (arith, inside, first) in
        rw there (rw e (ap (λ (t : List ObjRef). x ∷ t) (below shorter)))

below : (r q : ObjRef) (xs : List ObjRef) → position_or_len (same_ref q) xs < length xs → just_below r q xs ≡ insert xs (position_or_len (same_ref q) xs) r
below r q [] inside = absurd (omega (arith, inside))
below r q (x ∷ xs) inside = by (λ shorter. below r q xs shorter) (same_ref q x) refl
  where
    by : (position_or_len (same_ref q) xs < length xs → just_below r q xs ≡ insert xs (position_or_len (same_ref q) xs) r) → (b : Bool) → same_ref q x ≡ b
        → just_below r q (x ∷ xs) ≡ insert (x ∷ xs) (position_or_len (same_ref q) (x ∷ xs)) r
    by rest true e =
        let here : position_or_len (same_ref q) (x ∷ xs) ≡ 0 = rw e refl in
        rw here (rw e refl)
    by rest false e =
        let first : position_or_len (same_ref q) (x ∷ xs) ≡ 1 + position_or_len (same_ref q) xs = rw e refl in
        let there : position_or_len (same_ref q) (x ∷ xs) ≡ suc (position_or_len (same_ref q) xs) = omega (arith, first) in
        let shorter : position_or_len (same_ref q) xs < length xs = omega (arith, inside, first) in
        rw there (rw e (ap (λ (t : List ObjRef). x ∷ t) (rest shorter)))

pub above-at : (r q : ObjRef) (xs : List ObjRef) (i : ℕ) → position (same_ref q) xs ≡ Some i → insert xs (i + 1) r ≡ just_above r q xs
above-at r q xs i found =
    let place = position-some (same_ref q) xs i found in
    let inside : position_or_len (same_ref q) xs < length xs = subst (λ (n : ℕ). n < length xs) (sym place.0) place.1 in
    sym (above r q xs inside ∙ ap (λ (n : ℕ). insert xs (n + 1) r) place.0)

pub below-at : (r q : ObjRef) (xs : List ObjRef) (i : ℕ) → position (same_ref q) xs ≡ Some i → insert xs i r ≡ just_below r q xs
below-at r q xs i found =
    let place = position-some (same_ref q) xs i found in
    let inside : position_or_len (same_ref q) xs < length xs = subst (λ (n : ℕ). n < length xs) (sym place.0) place.1 in
    sym (below r q xs inside ∙ ap (λ (n : ℕ). insert xs n r) place.0)

-- where the other is not there it goes on top
above-none : (r q : ObjRef) (xs : List ObjRef) → length xs ≤ position_or_len (same_ref q) xs → just_above r q xs ≡ xs ++ r ∷ []
above-none r q [] past = refl
above-none r q (x ∷ xs) past = by (λ shorter. above-none r q xs shorter) (same_ref q x) refl
  where
    by : (length xs ≤ position_or_len (same_ref q) xs → just_above r q xs ≡ xs ++ r ∷ []) → (b : Bool) → same_ref q x ≡ b → just_above r q (x ∷ xs) ≡ x ∷ (xs ++ r ∷ [])
    by rest true e =
        let here : position_or_len (same_ref q) (x ∷ xs) ≡ 0 = rw e refl in
        absurd (omega (arith, past, here))
    by rest false e =
        let first : position_or_len (same_ref q) (x ∷ xs) ≡ 1 + position_or_len (same_ref q) xs = rw e refl in
        let shorter : length xs ≤ position_or_len (same_ref q) xs = omega (arith, past, first) in
        rw e (ap (λ (t : List ObjRef). x ∷ t) (rest shorter))

below-none : (r q : ObjRef) (xs : List ObjRef) → length xs ≤ position_or_len (same_ref q) xs → just_below r q xs ≡ xs ++ r ∷ []
below-none r q [] past = refl
below-none r q (x ∷ xs) past = by (λ shorter. below-none r q xs shorter) (same_ref q x) refl
  where
    by : (length xs ≤ position_or_len (same_ref q) xs → just_below r q xs ≡ xs ++ r ∷ []) → (b : Bool) → same_ref q x ≡ b → just_below r q (x ∷ xs) ≡ x ∷ (xs ++ r ∷ [])
    by rest true e =
        let here : position_or_len (same_ref q) (x ∷ xs) ≡ 0 = rw e refl in
        absurd (omega (arith, past, here))
    by rest false e =
        let first : position_or_len (same_ref q) (x ∷ xs) ≡ 1 + position_or_len (same_ref q) xs = rw e refl in
        let shorter : length xs ≤ position_or_len (same_ref q) xs = omega (arith, past, first) in
        rw e (ap (λ (t : List ObjRef). x ∷ t) (rest shorter))

pub above-nothing : (r q : ObjRef) (xs : List ObjRef) → position (same_ref q) xs ≡ None → xs ++ r ∷ [] ≡ just_above r q xs
above-nothing r q xs none = sym (above-none r q xs (position-none (same_ref q) xs none))

pub below-nothing : (r q : ObjRef) (xs : List ObjRef) → position (same_ref q) xs ≡ None → xs ++ r ∷ [] ≡ just_below r q xs
below-nothing r q xs none = sym (below-none r q xs (position-none (same_ref q) xs none))
