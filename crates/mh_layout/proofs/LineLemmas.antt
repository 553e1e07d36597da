-- A paragraph's lines, cut by cut.
use Rattle.std.specs.Prelude.{◌≡◌, ◌≢◌, ℕ, zero, suc, ◌+◌, ◌-◌, ◌==◌, ◌<◌, ◌≤◌, nat_le, Bool, true, false, if◌then◌else◌, List, [], ◌∷◌, length, take, drop, slice_index, refl}
use Rattle.std.proofs.Common.{inl, inr, ap, ◌∙◌, sym, subst, arith, add-one}
use Rattle.std.proofs.lemmas.Bool.{le-leb, lt-leb}
use Rattle.std.proofs.lemmas.Bool.Decides.{eqb_tells}
use Rattle.std.proofs.lemmas.List.{length-drop}
use Rattle.mh_model.specs.Lines.{last_space, cut_at, next_at, lines_in, lines_of}

-- one more index
pub last_space_more : (k : ℕ) (xs : List ℕ) → last_space (k + 1) xs ≡ (if slice_index xs (k + 1) == 0x20 then k + 1 else last_space k xs)
last_space_more k xs = rw add-one refl

-- a number tested against another one
pub is_or_not : (P : Type 0) (a b : ℕ) → ((a == b) ≡ true → a ≡ b → P) → ((a == b) ≡ false → a ≢ b → P) → P
is_or_not P a b same other = elim (eqb_tells a b) [ inl h ↦ same h.0 h.1 | inr h ↦ other h.0 h.1 ]

-- where the last space lies
pub last_space_within : (w : ℕ) (xs : List ℕ) → last_space w xs ≤ w
last_space_within zero xs = omega arith
last_space_within (suc k) xs = by_test (slice_index xs (suc k) == 0x20) (last_space_within k xs)
  where
    by_test : (b : Bool) → last_space k xs ≤ k → (if b then suc k else last_space k xs) ≤ suc k
    by_test true h = omega arith
    by_test false h = omega (arith, h)

-- behind the last space there is none
pub no_space_behind : (w : ℕ) (xs : List ℕ) (k : ℕ) → last_space w xs < k → k ≤ w → slice_index xs k ≢ 0x20
no_space_behind zero xs k low high = absurd (omega (arith, low, high))
no_space_behind (suc n) xs k low high =
    is_or_not (slice_index xs k ≢ 0x20) (slice_index xs (suc n)) 0x20
    (λ e same. let at : last_space (suc n) xs ≡ suc n = rw e refl in absurd (omega (arith, low, high, at)))
    (λ e other.
    let before : last_space (suc n) xs ≡ last_space n xs = rw e refl in
    is_or_not (slice_index xs k ≢ 0x20) k (suc n)
    (λ _ here. subst (λ (i : ℕ). slice_index xs i ≢ 0x20) (sym here) other)
    (λ _ there. no_space_behind n xs k (omega (arith, low, before)) (omega (arith, high, there))))

-- where there is no space, none is the last
pub no_last_space : (n : ℕ) (xs : List ℕ) → ((k : ℕ) → 1 ≤ k → k ≤ n → slice_index xs k ≢ 0x20) → last_space n xs ≡ 0
no_last_space zero xs none = refl
no_last_space (suc n) xs none =
    is_or_not (last_space (suc n) xs ≡ 0) (slice_index xs (suc n)) 0x20
    (λ e same. absurd (none (suc n) (omega arith) (omega arith) same))
    (λ e other.
    let before : last_space (suc n) xs ≡ last_space n xs = rw e refl in
    before ∙ no_last_space n xs (λ k low high. none k low (omega (arith, high))))

-- the next line begins behind the first scalar, and not far behind the full line
pub next_is_behind : (w space : ℕ) → 0 < w → 1 ≤ next_at w space
next_is_behind w space wide = by_test (space == 0)
  where
    by_test : (b : Bool) → 1 ≤ (if b then w else space + 1)
    by_test true = omega (arith, wide)
    by_test false = omega arith

pub cut_is_within : (w : ℕ) (xs : List ℕ) → cut_at w (last_space w xs) ≤ w
cut_is_within w xs = by_test (last_space w xs == 0) (last_space_within w xs)
  where
    by_test : (b : Bool) → last_space w xs ≤ w → (if b then w else last_space w xs) ≤ w
    by_test true h = omega arith
    by_test false h = h

pub next_is_within : (w : ℕ) (xs : List ℕ) → next_at w (last_space w xs) ≤ w + 1
next_is_within w xs = by_test (last_space w xs == 0) (last_space_within w xs)
  where
    by_test : (b : Bool) → last_space w xs ≤ w → (if b then w else last_space w xs + 1) ≤ w + 1
    by_test true h = omega arith
    by_test false h = omega (arith, h)

-- a rest that is no longer than a line is one
pub one_line_in : (n w : ℕ) (xs : List ℕ) → length xs ≤ w → lines_in n w xs ≡ xs ∷ []
unfolding lines_in
one_line_in zero w xs short = refl
one_line_in (suc n) w xs short = rw (le-leb (length xs) w short) refl

pub one_line : (w : ℕ) (xs : List ℕ) → length xs ≤ w → lines_of w xs ≡ xs ∷ []
one_line w xs short = one_line_in (length xs) w xs short

-- the cuts are enough
enough : (n m w : ℕ) (xs : List ℕ) → 0 < w → length xs ≤ n → length xs ≤ m → lines_in n w xs ≡ lines_in m w xs
unfolding lines_in
enough zero m w xs wide few many = sym (one_line_in m w xs (omega (arith, few)))
enough (suc n) zero w xs wide few many = one_line_in (suc n) w xs (omega (arith, many))
enough (suc n) (suc m) w xs wide few many =
    let next : 1 ≤ next_at w (last_space w xs) = next_is_behind w (last_space w xs) wide in
    let shorter : length (drop (next_at w (last_space w xs)) xs) ≡ length xs - next_at w (last_space w xs) = length-drop (next_at w (last_space w xs)) xs in
    ap (λ (t : List (List ℕ)). if nat_le (length xs) w then xs ∷ [] else (take (cut_at w (last_space w xs)) xs ∷ t))
    (enough n m w (drop (next_at w (last_space w xs)) xs) wide (omega (arith, few, next, shorter)) (omega (arith, many, next, shorter)))

-- a rest that is longer breaks
pub breaks : (w : ℕ) (xs : List ℕ) → 0 < w → w < length xs → lines_of w xs ≡ take (cut_at w (last_space w xs)) xs ∷ lines_of w (drop (next_at w (last_space w xs)) xs)
unfolding lines_in
breaks w [] wide long = absurd (omega (arith, long))
breaks w (x ∷ xs) wide long =
    let next : 1 ≤ next_at w (last_space w (x ∷ xs)) = next_is_behind w (last_space w (x ∷ xs)) wide in
    let shorter : length (drop (next_at w (last_space w (x ∷ xs))) (x ∷ xs)) ≡ suc (length xs) - next_at w (last_space w (x ∷ xs)) = length-drop (next_at w (last_space w (x ∷ xs))) (x ∷ xs) in
    let rest : lines_in (length xs) w (drop (next_at w (last_space w (x ∷ xs))) (x ∷ xs)) ≡ lines_of w (drop (next_at w (last_space w (x ∷ xs))) (x ∷ xs)) =
    enough (length xs) (length (drop (next_at w (last_space w (x ∷ xs))) (x ∷ xs))) w (drop (next_at w (last_space w (x ∷ xs))) (x ∷ xs)) wide (omega (arith, next, shorter)) (omega arith) in
    rw (lt-leb (suc (length xs)) w long) (ap (λ (t : List (List ℕ)). take (cut_at w (last_space w (x ∷ xs))) (x ∷ xs) ∷ t) rest)
