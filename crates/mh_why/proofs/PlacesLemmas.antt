-- The line in which a place is, by where the lines begin.
use Rattle.std.specs.Prelude.{◌≡◌, ℕ, zero, suc, ◌+◌, ◌-◌, ◌<◌, ◌≤◌, ◌==◌, Bool, true, false, List, [], ◌∷◌, length, min, refl, slice_index, slice_index_or}
use Rattle.std.proofs.Common.{ap, ◌∙◌, sym, subst, arith, eq-eqb, eqb-true, true≢false}
use Rattle.std.proofs.lemmas.Bool.{lt-ltb, le-ltb}
use Rattle.bstr.specs.Text.{lines_of, without_terminator}
use Rattle.mh_why.specs.Lines.{before_in, starts_from}
use Rattle.mh_why.specs.Places.{Line, line_in}
use Rattle.mh_why.proofs.LinesLemmas.{starts_least}

-- a line by its parts
abbrev pub line : ℕ → List ℕ → ℕ → Line
line n l k = record { number = n; bytes = l; before = k }

is_reached : (n : ℕ) (l m : List ℕ) (ls : List (List ℕ)) (k : ℕ) → k < length l → line_in n (l ∷ m ∷ ls) k ≡ line n l k
is_reached n l m ls k within = rw (lt-ltb k (length l) within) refl

is_passed : (n : ℕ) (l m : List ℕ) (ls : List (List ℕ)) (k : ℕ) → length l ≤ k → line_in n (l ∷ m ∷ ls) k ≡ line_in (suc n) (m ∷ ls) (k - length l)
is_passed n l m ls k beyond = rw (le-ltb k (length l) beyond) refl

-- the line behind one that begins behind so many bytes
goes_on : (n start offset : ℕ) (l m : List ℕ) (ls : List (List ℕ)) → start + length l ≤ offset
    → line_in n (l ∷ m ∷ ls) (offset - start) ≡ line_in (suc n) (m ∷ ls) (offset - (start + length l))
goes_on n start offset l m ls beyond =
    is_passed n l m ls (offset - start) (omega arith) ∙ ap (line_in (suc n) (m ∷ ls)) (omega arith)

found_inner : (n start offset i : ℕ) (ls : List (List ℕ)) → suc i < length ls → slice_index (starts_from start ls) i ≤ offset → offset < slice_index (starts_from start ls) (suc i)
    → line_in n ls (offset - start) ≡ line (n + i) (slice_index_or ls i []) (offset - slice_index (starts_from start ls) i)
found_inner n start offset i [] there begun before = absurd (omega arith)
found_inner n start offset i (l ∷ []) there begun before = absurd (omega arith)
found_inner n start offset zero (l ∷ m ∷ ls) there begun before =
    is_reached n l m ls (offset - start) (omega arith) ∙ ap (λ (k : ℕ). line k l (offset - start)) (omega arith)
found_inner n start offset (suc i) (l ∷ m ∷ ls) there begun before =
    let least = starts_least (start + length l) (m ∷ ls) i (omega arith) in
    goes_on n start offset l m ls (omega arith) ∙ found_inner (suc n) (start + length l) offset i (m ∷ ls) (omega arith) begun before
    ∙ ap (λ (k : ℕ). line k (slice_index_or (m ∷ ls) i []) (offset - slice_index (starts_from (start + length l) (m ∷ ls)) i)) (omega arith)

found_last : (n start offset i : ℕ) (ls : List (List ℕ)) → suc i ≡ length ls → slice_index (starts_from start ls) i ≤ offset
    → line_in n ls (offset - start)
    ≡ line (n + i) (slice_index_or ls i []) (min (offset - slice_index (starts_from start ls) i) (length (without_terminator (slice_index_or ls i []))))
found_last n start offset i [] last begun = absurd (omega arith)
found_last n start offset zero (l ∷ []) last begun = ap (λ (k : ℕ). line k l (min (offset - start) (length (without_terminator l)))) (omega arith)
found_last n start offset (suc i) (l ∷ []) last begun = absurd (omega arith)
found_last n start offset zero (l ∷ m ∷ ls) last begun = absurd (omega arith)
found_last n start offset (suc i) (l ∷ m ∷ ls) last begun =
    let least = starts_least (start + length l) (m ∷ ls) i (omega arith) in
    goes_on n start offset l m ls (omega arith) ∙ found_last (suc n) (start + length l) offset i (m ∷ ls) (omega arith) begun
    ∙ ap
    (λ (k : ℕ). line k (slice_index_or (m ∷ ls) i []) (min (offset - slice_index (starts_from (start + length l) (m ∷ ls)) i) (length (without_terminator (slice_index_or (m ∷ ls) i [])))))
    (omega arith)

-- the line is the one that begins last, up to the place
pub line_found : (offset i : ℕ) (ls : List (List ℕ)) → i < length ls → slice_index (starts_from 0 ls) i ≤ offset
    → (i + 1 < length ls → offset < slice_index (starts_from 0 ls) (i + 1))
    → line_in 1 ls offset ≡ line (i + 1) (slice_index_or ls i []) (before_in (slice_index_or ls i []) (i + 1 == length ls) (offset - slice_index (starts_from 0 ls) i))
line_found offset i ls there begun before = by (i + 1 == length ls) refl
  where
    at : ℕ
    at = slice_index (starts_from 0 ls) i

    here : List ℕ
    here = slice_index_or ls i []

    by : (b : Bool) → (i + 1 == length ls) ≡ b → line_in 1 ls offset ≡ line (i + 1) here (before_in here b (offset - at))
    by true is =
        ap (line_in 1 ls) (omega arith) ∙ found_last 1 0 offset i ls (omega (arith, eqb-true (i + 1) (length ls) is)) begun ∙ ap (λ (k : ℕ). line k here (min (offset - at) (length (without_terminator here)))) (omega arith)
    by false is =
        let other : i + 1 ≡ length ls → ⊥ = λ same. true≢false (sym (eq-eqb _ _ same) ∙ is) in
        let more : i + 1 < length ls = omega (arith, there, other) in
        ap (line_in 1 ls) (omega arith) ∙ found_inner 1 0 offset i ls (omega (arith, more)) begun (subst (λ (k : ℕ). offset < slice_index (starts_from 0 ls) k) (omega arith) (before more)) ∙ ap (λ (k : ℕ). line k here (offset - at)) (omega arith)

pub no_line : (offset : ℕ) (ls : List (List ℕ)) → length ls ≡ 0 → line_in 1 [] 0 ≡ line_in 1 ls offset
no_line offset [] none = refl
no_line offset (l ∷ ls) none = absurd (omega arith)

-- the same, by what the table tells
pub line_is : (text starts bytes : List ℕ) (offset i start end count before : ℕ) → starts ≡ starts_from 0 (lines_of text) → count ≡ length (lines_of text) → i < count
    → slice_index starts i ≤ offset → (i + 1 < count → offset < slice_index starts (i + 1)) → start ≡ slice_index starts i → bytes ≡ slice_index_or (lines_of text) i []
    → before ≡ before_in bytes (i + 1 == count) (offset - start) → line (i + 1) bytes before ≡ line_in 1 (lines_of text) offset
line_is text starts bytes offset i start end count before table all there begun next begins is stands =
    let ls = lines_of text in
    let here : slice_index starts i ≡ slice_index (starts_from 0 ls) i = ap (λ (ns : List ℕ). slice_index ns i) table in
    let behind : slice_index starts (i + 1) ≡ slice_index (starts_from 0 ls) (i + 1) = ap (λ (ns : List ℕ). slice_index ns (i + 1)) table in
    let found = line_found offset i ls (omega (arith, there, all)) (omega (arith, begun, here)) (λ more. let goes = next (omega (arith, more, all)) in omega (arith, goes, behind)) in
    ap (line (i + 1) bytes) (stands ∙ ap (λ (n : ℕ). before_in bytes (i + 1 == n) (offset - start)) all ∙ ap (λ (n : ℕ). before_in bytes (i + 1 == length ls) (offset - n)) (begins ∙ here))
    ∙ ap (λ (bs : List ℕ). line (i + 1) bs (before_in bs (i + 1 == length ls) (offset - slice_index (starts_from 0 ls) i))) is
    ∙ sym found

-- a place in a line that is not the last one stands before its end
pub inner_within : (starts : List ℕ) (i count offset start end : ℕ) → i < count → (i + 1 < count → offset < slice_index starts (i + 1)) → end ≡ slice_index starts (i + 1)
    → (i + 1 == count) ≡ false → offset - start ≤ end - start
inner_within starts i count offset start end there before ends inner =
    let other : i + 1 ≡ count → ⊥ = λ same. true≢false (sym (eq-eqb _ _ same) ∙ inner) in
    let near = before (omega (arith, there, other)) in
    omega (arith, near, ends)
