-- The characters of a run that are printed, and the spaces behind them.
use Rattle.std.specs.Prelude.{◌≡◌, ℕ, ◌+◌, ◌-◌, Bool, true, false, cond, List, [], ◌∷◌, ◌++◌, length, map, replicate, reverse, drop, take, zero, suc, refl}
use Rattle.std.specs.List.{prefix_len, suffix_len}
use Rattle.std.proofs.Common.{ap, ◌∙◌, sym, arith, add-one}
use Rattle.std.proofs.lemmas.Bool.{eqb-true}
use Rattle.std.proofs.lemmas.List.{length-append, length-replicate, replicate-append-replicate, reverse-append, reverse-reverse, take_at}
use Rattle.mh_model.specs.declared.picture.cell.Cell.{Cell}
use Rattle.mh_told.specs.Frame.{is_space, shown_length}
use Rattle.mh_look.specs.Cells.{coloured}

replicate_more : {A : Type 0} (n : ℕ) (x : A) → replicate n x ++ x ∷ [] ≡ x ∷ replicate n x
replicate_more n x = replicate-append-replicate n 1 x ∙ ap (λ (k : ℕ). replicate k x) (add-one n)

reversed_spaces : (n : ℕ) → reverse {A = ℕ} (replicate n 32) ≡ replicate n 32
reversed_spaces zero = refl
reversed_spaces (suc n) = reverse-append (32 ∷ []) (replicate n 32) ∙ ap (λ (xs : List ℕ). xs ++ 32 ∷ []) (reversed_spaces n) ∙ replicate_more n 32

-- the spaces in front
abbrev spaces : List ℕ → ℕ
spaces xs = prefix_len is_space xs

front_step : (x : ℕ) (xs : List ℕ) (b : Bool) → is_space x ≡ b → xs ≡ replicate (spaces xs) 32 ++ drop (spaces xs) xs
    → x ∷ xs ≡ replicate (cond b (1 + spaces xs) 0) 32 ++ drop (cond b (1 + spaces xs) 0) (x ∷ xs)
front_step x xs true space behind =
    let more : 1 + spaces xs ≡ suc (spaces xs) = omega arith in
    rw (more) (ap (λ (y : ℕ). y ∷ xs) (eqb-true x 32 space) ∙ ap (λ (ys : List ℕ). 32 ∷ ys) behind)
front_step x xs false other behind = refl

spaces_front : (xs : List ℕ) → xs ≡ replicate (spaces xs) 32 ++ drop (spaces xs) xs
spaces_front [] = refl
spaces_front (x ∷ xs) = front_step x xs (is_space x) refl (spaces_front xs)

-- the spaces at the end, and what stands in front of them
spaces_end : (cs : List ℕ) → cs ≡ reverse (drop (suffix_len is_space cs) (reverse cs)) ++ replicate (suffix_len is_space cs) 32
spaces_end cs =
    let n : ℕ = suffix_len is_space cs in
    sym (reverse-reverse cs)
    ∙ ap (λ (xs : List ℕ). reverse xs) (spaces_front (reverse cs))
    ∙ reverse-append (replicate n 32) (drop n (reverse cs))
    ∙ ap (λ (xs : List ℕ). reverse (drop n (reverse cs)) ++ xs) (reversed_spaces n)

front_is : (cs front : List ℕ) (n : ℕ) → cs ≡ front ++ replicate n 32 → take (length cs - n) cs ≡ front
front_is cs front n parts =
    let long : length cs ≡ length front + n = ap (λ (xs : List ℕ). length xs) parts ∙ length-append front (replicate n 32) ∙ ap (λ (k : ℕ). length front + k) (length-replicate n 32) in
    let at : length front ≡ length cs - n = omega (arith, long) in
    ap (λ (xs : List ℕ). take (length cs - n) xs) parts ∙ take_at front (replicate n 32) (length cs - n) at

-- the characters that are printed
abbrev pub printed : List ℕ → List ℕ
printed cs = take (shown_length cs) cs

pub with_spaces : (cs : List ℕ) → cs ≡ printed cs ++ replicate (suffix_len is_space cs) 32
with_spaces cs =
    let n : ℕ = suffix_len is_space cs in
    let front : List ℕ = reverse (drop n (reverse cs)) in
    spaces_end cs ∙ ap (λ (xs : List ℕ). xs ++ replicate n 32) (sym (front_is cs front n (spaces_end cs)))

pub printed_length : (cs : List ℕ) → length (printed cs) + suffix_len is_space cs ≡ length cs
printed_length cs =
    sym (ap (λ (xs : List ℕ). length xs) (with_spaces cs) ∙ length-append (printed cs) (replicate (suffix_len is_space cs) 32) ∙ ap (λ (k : ℕ). length (printed cs) + k) (length-replicate (suffix_len is_space cs) 32))

-- many cells with the same character
pub coloured_spaces : (fore back n : ℕ) → map (coloured fore back) (replicate n 32) ≡ replicate n (coloured fore back 32)
coloured_spaces fore back zero = refl
coloured_spaces fore back (suc n) = ap (λ (xs : List Cell). coloured fore back 32 ∷ xs) (coloured_spaces fore back n)
