-- A text's scalars, piece by piece.
use Rattle.std.specs.Prelude.{◌≡◌, ◌&&◌, nat_le, nat_lt, ℕ, zero, suc, ◌+◌, ◌-◌, ◌==◌, ◌<◌, ◌≤◌, Bool, true, false, if◌then◌else◌, List, [], ◌∷◌, ◌++◌, length, drop, Option, Some, None, slice_index, refl}
use Rattle.std.proofs.Common.{ap, ◌∙◌, sym, subst, arith}
use Rattle.std.proofs.lemmas.Bool.Decides.{nat_tests}
use Rattle.std.proofs.lemmas.List.{length-append, length-drop}
use Rattle.bstr.specs.Utf8.{decoded}
use Rattle.bstr.proofs.lemmas.PieceLemmas.{size-bounds}
use Rattle.mh_layout.specs.Left.{as_list}
use Rattle.mh_model.specs.Scalars.{is_between, escape_size, scalar_or_bad, piece, kept, takes_no_cell, scalars_in, scalars_of}

escape_takes : (bs : List ℕ) → 1 ≤ escape_size bs
escape_takes bs = by_test (is_between 0x40 0x5E (slice_index bs 1)) (is_between 0x60 0x7E (slice_index bs 1))
  where
    by_test : (b c : Bool) → 1 ≤ (if b then 3 + slice_index bs 2 else (if c then 2 else 1))
    by_test true c = omega arith
    by_test false true = omega arith
    by_test false false = omega arith

some_size : (found : Option ℕ) (size : ℕ) → 1 ≤ size → 1 ≤ (scalar_or_bad found size).1
some_size None size h = omega arith
some_size (Some c) size h = h

-- bytes begin with a piece that is not empty
abbrev nothing : Option ℕ × ℕ
nothing = (None, 0)

abbrev front : ℕ → List ℕ → Bool → (Option ℕ × ℕ)
front b bs c = if c then (None, escape_size (b ∷ bs)) else scalar_or_bad (decoded (b ∷ bs)).char (decoded (b ∷ bs)).size

piece_takes : (b : ℕ) (bs : List ℕ) → 1 ≤ (piece (b ∷ bs)).1
unfolding piece
piece_takes b bs =
    let filled : (suc (length bs) == 0) ≡ false = grind (arith, nat_tests) in
    subst (λ (e : Bool). 1 ≤ (if e then nothing else front b bs (b == 0x1B)).1) (sym filled) (by_test (b == 0x1B))
  where
    decodes : 1 ≤ (decoded (b ∷ bs)).size
    decodes = (size-bounds (suc (length bs)) (slice_index (b ∷ bs) 0) (slice_index (b ∷ bs) 1) (slice_index (b ∷ bs) 2) (slice_index (b ∷ bs) 3) (omega arith)).0

    by_test : (c : Bool) → 1 ≤ (front b bs c).1
    by_test true = escape_takes (b ∷ bs)
    by_test false = some_size (decoded (b ∷ bs)).char (decoded (b ∷ bs)).size decodes

none_in : (n : ℕ) → scalars_in n [] ≡ []
unfolding scalars_in piece
none_in zero = refl
none_in (suc n) = none_in n

-- the pieces are enough
enough : (n m : ℕ) (bs : List ℕ) → length bs ≤ n → length bs ≤ m → scalars_in n bs ≡ scalars_in m bs
unfolding scalars_in
enough n m [] few many = none_in n ∙ sym (none_in m)
enough zero m (b ∷ bs) few many = absurd (omega (arith, few))
enough (suc n) zero (b ∷ bs) few many = absurd (omega (arith, many))
enough (suc n) (suc m) (b ∷ bs) few many =
    let takes : 1 ≤ (piece (b ∷ bs)).1 = piece_takes b bs in
    let shorter : length (drop (piece (b ∷ bs)).1 (b ∷ bs)) ≡ suc (length bs) - (piece (b ∷ bs)).1 = length-drop (piece (b ∷ bs)).1 (b ∷ bs) in
    ap (λ (t : List ℕ). kept (piece (b ∷ bs)).0 ++ t)
    (enough n m (drop (piece (b ∷ bs)).1 (b ∷ bs)) (omega (arith, few, takes, shorter)) (omega (arith, many, takes, shorter)))

-- the front piece, and the scalars behind it
more_scalars : (bs : List ℕ) → 0 < length bs → scalars_of bs ≡ kept (piece bs).0 ++ scalars_of (drop (piece bs).1 bs)
unfolding scalars_in
more_scalars [] some = absurd (omega (arith, some))
more_scalars (b ∷ bs) some =
    let takes : 1 ≤ (piece (b ∷ bs)).1 = piece_takes b bs in
    let shorter : length (drop (piece (b ∷ bs)).1 (b ∷ bs)) ≡ suc (length bs) - (piece (b ∷ bs)).1 = length-drop (piece (b ∷ bs)).1 (b ∷ bs) in
    ap (λ (t : List ℕ). kept (piece (b ∷ bs)).0 ++ t)
    (enough (length bs) (length (drop (piece (b ∷ bs)).1 (b ∷ bs))) (drop (piece (b ∷ bs)).1 (b ∷ bs)) (omega (arith, takes, shorter)) (omega arith))

pub no_scalars : (bs : List ℕ) → length bs ≡ 0 → scalars_of bs ≡ []
unfolding scalars_in
no_scalars [] none = refl
no_scalars (b ∷ bs) none = absurd (omega (arith, none))

-- a step of the reading: the front piece is put, and the bytes behind it are left
pub fewer_left : (bs rest : List ℕ) (f : (Option ℕ × ℕ)) → 0 < length bs → f ≡ piece bs → rest ≡ drop f.1 bs → length rest < length bs
fewer_left [] rest f some is left = absurd (omega (arith, some))
fewer_left (b ∷ bs) rest f some is left =
    let takes : 1 ≤ f.1 = subst (λ (g : (Option ℕ × ℕ)). 1 ≤ g.1) (sym is) (piece_takes b bs) in
    let shorter : length rest ≡ suc (length bs) - f.1 = ap length left ∙ length-drop f.1 (b ∷ bs) in
    omega (arith, takes, shorter)

-- the scalar of the front piece, if it is kept, and the scalars behind it
pub front_read : (bs rest : List ℕ) (f : (Option ℕ × ℕ)) (seen : Option ℕ) → 0 < length bs → f ≡ piece bs → rest ≡ drop f.1 bs → kept f.0 ≡ as_list seen → scalars_of bs ≡ as_list seen ++ scalars_of rest
front_read bs rest f seen some is left kept_so =
    let behind : rest ≡ drop (piece bs).1 bs = left ∙ ap (λ (g : (Option ℕ × ℕ)). drop g.1 bs) is in
    let here : kept (piece bs).0 ≡ as_list seen = sym (ap (λ (g : (Option ℕ × ℕ)). kept g.0) is) ∙ kept_so in
    more_scalars bs some ∙ ap (λ (t : List ℕ). t ++ scalars_of (drop (piece bs).1 bs)) here ∙ ap (λ (t : List ℕ). as_list seen ++ scalars_of t) (sym behind)

-- a text has no more scalars than bytes
kept_few : (o : Option ℕ) → length (kept o) ≤ 1
kept_few None = omega arith
kept_few (Some x) = by_test (takes_no_cell x)
  where
    by_test : (b : Bool) → length (if b then [] else (x ∷ [])) ≤ 1
    by_test true = omega arith
    by_test false = omega arith

few_in : (n : ℕ) (bs : List ℕ) → length (scalars_in n bs) ≤ n
unfolding scalars_in
few_in zero bs = omega arith
few_in (suc n) bs =
    omega (arith, length-append (kept (piece bs).0) (scalars_in n (drop (piece bs).1 bs)), kept_few (piece bs).0, few_in n (drop (piece bs).1 bs))

pub few_scalars : (bs : List ℕ) → length (scalars_of bs) ≤ length bs
few_scalars bs = few_in (length bs) bs

piece_is : (b : ℕ) (bs : List ℕ) → 0x20 ≤ b → b < 0x7F → piece (b ∷ bs) ≡ (Some b, 1)
unfolding piece
piece_is b bs low high =
    let filled : (suc (length bs) == 0) ≡ false = grind (arith, nat_tests) in
    let other : (b == 0x1B) ≡ false = grind (arith, nat_tests, low) in
    let below : nat_lt b 0x80 ≡ true = grind (arith, nat_tests, high) in
    rw (filled, other, below) refl

kept_is : (b : ℕ) → 0x20 ≤ b → b < 0x7F → kept (Some b) ≡ b ∷ []
kept_is b low high =
    let above : nat_lt b 0x20 ≡ false = grind (arith, nat_tests, low) in
    let under : nat_le 0x7F b ≡ false = grind (arith, nat_tests, high) in
    let other : (b == 0x0D) ≡ false = grind (arith, nat_tests, low) in
    rw (other, above, under) refl

-- a character of ASCII that takes a cell is read at once
pub plain_front : (b : ℕ) (bs : List ℕ) → (nat_le 0x20 b && nat_lt b 0x7F) ≡ true → scalars_of (b ∷ bs) ≡ b ∷ scalars_of bs
plain_front b bs plain = front_read (b ∷ bs) bs (Some b, 1) (Some b) (omega arith) (sym (piece_is b bs low high)) refl (kept_is b low high)
  where
    both : (c d : Bool) → (c && d) ≡ true → (c ≡ true) × (d ≡ true)
    both true true same = (refl, refl)
    both true false same = cc
    both false d same = cc

    low : 0x20 ≤ b
    low = grind (arith, nat_tests, (both (nat_le 0x20 b) (nat_lt b 0x7F) plain).0)

    high : b < 0x7F
    high = grind (arith, nat_tests, (both (nat_le 0x20 b) (nat_lt b 0x7F) plain).1)
