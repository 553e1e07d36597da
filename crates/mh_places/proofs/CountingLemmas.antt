-- Where bytes end that stand behind a place.
use Rattle.std.specs.Prelude.{◌≡◌, ℕ, zero, suc, ◌+◌, ◌-◌, ◌<◌, ◌≤◌, ◌==◌, Bool, true, false, not, cond, count_by, List, [], ◌∷◌, ◌++◌, drop, length, map, reverse, slice_index, take, refl}
use Rattle.std.specs.List.{prefix_len, suffix_len}
use Rattle.std.proofs.Common.{ap, ◌∙◌, sym, arith, append_assoc, length-append, take-append-drop, take-take}
use Rattle.std.proofs.Math.Dec.{eqb}
use Rattle.std.proofs.Math.Seq.{drop-append-add}
use Rattle.std.proofs.lemmas.List.{length-reverse, map-append, reverse-append}
use Rattle.std.proofs.lemmas.List.Folds.{prefix_len-append}
use Rattle.std.proofs.lemmas.List.Sums.{suffix_len-le-length, sum_by-append}
use Rattle.bstr.specs.Utf8.{Decoded, continues, lossy_chars, or_replacement, pieces}
use Rattle.bstr.proofs.lemmas.PieceLemmas.{lossy_chars-nil, pieces-append}
use Rattle.mh_places.specs.declared.place.Place.{Place}
use Rattle.mh_places.specs.Places.{is_no_feed, last_line, place_behind}
use Rattle.mh_places.specs.Counting.{is_clean}

feeds : (xs ys : List ℕ) → count_by (λ b. b == 10) (xs ++ ys) ≡ count_by (λ b. b == 10) xs + count_by (λ b. b == 10) ys
feeds xs ys = sum_by-append (λ b. cond (b == 10) 1 0) xs ys

-- how far the last line goes

ends : (xs ys : List ℕ) → suffix_len is_no_feed (xs ++ ys) ≡ cond (eqb (suffix_len is_no_feed ys) (length ys)) (length ys + suffix_len is_no_feed xs) (suffix_len is_no_feed ys)
ends xs ys =
    ap (prefix_len is_no_feed) (reverse-append xs ys) ∙ prefix_len-append is_no_feed (reverse ys) (reverse xs)
    ∙ (λ i. cond (eqb (suffix_len is_no_feed ys) (length-reverse ys i)) (length-reverse ys i + suffix_len is_no_feed xs) (suffix_len is_no_feed ys))

drop_front : (n : ℕ) (xs ys : List ℕ) → n ≤ length xs → drop n (xs ++ ys) ≡ drop n xs ++ ys
drop_front zero xs ys less = refl
drop_front (suc n) [] ys less = absurd (omega (arith, less))
drop_front (suc n) (x ∷ xs) ys less = drop_front n xs ys (omega (arith, less))

line_there : (xs ys : List ℕ) → eqb (suffix_len is_no_feed ys) (length ys) ≡ false → last_line (xs ++ ys) ≡ last_line ys
line_there xs ys there =
    let whole = length-append xs ys in
    let short = suffix_len-le-length is_no_feed ys in
    let this = ends xs ys ∙ ap (λ (b : Bool). cond b (length ys + suffix_len is_no_feed xs) (suffix_len is_no_feed ys)) there in
    let far : length (xs ++ ys) - suffix_len is_no_feed (xs ++ ys) ≡ length xs + (length ys - suffix_len is_no_feed ys) = omega (arith, whole, short, this) in
    ap (λ (n : ℕ). drop n (xs ++ ys)) far ∙ drop-append-add xs ys (length ys - suffix_len is_no_feed ys)

line_goes_on : (xs ys : List ℕ) → eqb (suffix_len is_no_feed ys) (length ys) ≡ true → last_line (xs ++ ys) ≡ last_line xs ++ ys
line_goes_on xs ys none =
    let whole = length-append xs ys in
    let short = suffix_len-le-length is_no_feed xs in
    let this = ends xs ys ∙ ap (λ (b : Bool). cond b (length ys + suffix_len is_no_feed xs) (suffix_len is_no_feed ys)) none in
    let far : length (xs ++ ys) - suffix_len is_no_feed (xs ++ ys) ≡ length xs - suffix_len is_no_feed xs = omega (arith, whole, short, this) in
    ap (λ (n : ℕ). drop n (xs ++ ys)) far ∙ drop_front (length xs - suffix_len is_no_feed xs) xs ys (omega arith)

-- characters on both sides

starts_clean : (bs : List ℕ) → is_clean bs ≡ true → 0 < length bs → continues (slice_index bs 0) ≡ false
starts_clean [] clean some = absurd (omega arith)
starts_clean (b ∷ bs) clean some = by (continues b) clean
  where
    by : (c : Bool) → not c ≡ true → c ≡ false
    by true is = absurd cc
    by false is = refl

none_before : (ys : List ℕ) → lossy_chars ([] ++ ys) ≡ lossy_chars [] ++ lossy_chars ys
none_before ys = sym (ap (λ (cs : List ℕ). cs ++ lossy_chars ys) lossy_chars-nil)

joined : (xs ys : List ℕ) → is_clean ys ≡ true → lossy_chars (xs ++ ys) ≡ lossy_chars xs ++ lossy_chars ys
joined [] ys clean = none_before ys
joined (x ∷ xs) ys clean =
    ap (map (λ (p : Decoded). or_replacement p.char)) (pieces-append (length (x ∷ xs)) (x ∷ xs) ys (omega arith) (starts_clean ys clean))
    ∙ map-append (λ (p : Decoded). or_replacement p.char) (pieces (x ∷ xs)) (pieces ys)

-- where both end

whole_line : (ys : List ℕ) → eqb (suffix_len is_no_feed ys) (length ys) ≡ true → last_line ys ≡ ys
whole_line ys none = line_goes_on [] ys none

pub other_line : (xs ys : List ℕ) (f e : Place) (line : ℕ) → f ≡ place_behind xs → e ≡ place_behind ys → line ≡ f.line + (e.line - 1) → eqb (suffix_len is_no_feed ys) (length ys) ≡ false
    → record { line = line; column = e.column } ≡ place_behind (xs ++ ys)
other_line xs ys f e line front end sum there =
    let down : line ≡ 1 + count_by (λ b. b == 10) (xs ++ ys) =
    (let a = ap (λ (p : Place). p.line) front in let b = ap (λ (p : Place). p.line) end in let c = feeds xs ys in omega (arith, a, b, c, sum)) in
    let across : e.column ≡ 1 + length (lossy_chars (last_line (xs ++ ys))) =
    ap (λ (p : Place). p.column) end ∙ ap (λ (bs : List ℕ). 1 + length (lossy_chars bs)) (sym (line_there xs ys there)) in
    λ i. record { line = down i; column = across i }

pub same_line : (xs ys : List ℕ) (f e : Place) (line column : ℕ) → f ≡ place_behind xs → e ≡ place_behind ys → line ≡ f.line + (e.line - 1) → column ≡ f.column + (e.column - 1)
    → eqb (suffix_len is_no_feed ys) (length ys) ≡ true → is_clean ys ≡ true → record { line = line; column = column } ≡ place_behind (xs ++ ys)
same_line xs ys f e line column front end sum wide none clean =
    let down : line ≡ 1 + count_by (λ b. b == 10) (xs ++ ys) =
    (let a = ap (λ (p : Place). p.line) front in let b = ap (λ (p : Place). p.line) end in let c = feeds xs ys in omega (arith, a, b, c, sum)) in
    let parts : length (lossy_chars (last_line (xs ++ ys))) ≡ length (lossy_chars (last_line xs)) + length (lossy_chars ys) =
    ap (λ (bs : List ℕ). length (lossy_chars bs)) (line_goes_on xs ys none) ∙ ap length (joined (last_line xs) ys clean) ∙ length-append (lossy_chars (last_line xs)) (lossy_chars ys) in
    let across : column ≡ 1 + length (lossy_chars (last_line (xs ++ ys))) =
    (let a = ap (λ (p : Place). p.column) front in
    let b : e.column ≡ 1 + length (lossy_chars ys) = ap (λ (p : Place). p.column) end ∙ ap (λ (bs : List ℕ). 1 + length (lossy_chars bs)) (whole_line ys none) in
    omega (arith, a, b, parts, wide)) in
    λ i. record { line = down i; column = across i }

-- bytes that were cut at a place

pub rejoined : (from to : ℕ) (bs : List ℕ) → from ≤ to → take from bs ++ drop from (take to bs) ≡ take to bs
rejoined from to bs less = ap (λ (xs : List ℕ). xs ++ drop from (take to bs)) (sym (take-take from to bs less)) ∙ take-append-drop from (take to bs)
