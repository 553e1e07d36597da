-- What is counted and shown from a stop of a line is what is counted and shown from its beginning.
use Rattle.std.specs.Prelude.{◌≡◌, ℕ, zero, suc, ◌+◌, ◌-◌, ◌<◌, ◌≤◌, ◌==◌, ◌&&◌, nat_lt, Bool, true, false, not, cond, List, [], ◌∷◌, ◌++◌, length, map, take, drop, refl, slice_index, slice_index_or, All}
use Rattle.std.proofs.Common.{ap, ◌∙◌, sym, subst, arith, append_assoc, length-append, length-drop, length-take, length-take-le, take-append-drop, take-take}
use Rattle.std.proofs.Math.Seq.{drop-append-add, take-length}
use Rattle.std.proofs.lemmas.List.{drop-take, length-map, map-append}
use Rattle.bstr.specs.Text.{no_cr, without_terminator}
use Rattle.bstr.specs.Utf8.{Decoded, continues, lossy_chars, or_replacement, pieces}
use Rattle.bstr.proofs.lemmas.LengthLemmas.{length-lossy_chars}
use Rattle.bstr.proofs.lemmas.PieceLemmas.{lossy_chars-nil, pieces-append}
use Rattle.mh_why.specs.Lines.{IsStop, IsStopOf, before_in, is_clean}
use Rattle.mh_why.specs.Places.{spaced}
use Rattle.mh_why.specs.declared.place.stop.Stop.{Stop}

-- Characters on both sides of a place.

starts_clean : (bs : List ℕ) → is_clean bs ≡ true → 0 < length bs → continues (slice_index bs 0) ≡ false
starts_clean [] clean some = absurd (omega arith)
starts_clean (b ∷ bs) clean some = by (continues b) clean
  where
    by : (c : Bool) → not c ≡ true → c ≡ false
    by true is = absurd cc
    by false is = refl

split : (k : ℕ) (bs : List ℕ) → (0 < k → is_clean (drop k bs) ≡ true) → lossy_chars bs ≡ lossy_chars (take k bs) ++ lossy_chars (drop k bs)
split zero bs clean = sym (ap (λ (cs : List ℕ). cs ++ lossy_chars bs) lossy_chars-nil)
split (suc k) bs clean =
    ap lossy_chars (sym (take-append-drop (suc k) bs))
    ∙ ap (map (λ (p : Decoded). or_replacement p.char)) (pieces-append (length (take (suc k) bs)) (take (suc k) bs) (drop (suc k) bs) (omega arith) (starts_clean (drop (suc k) bs) (clean (omega arith))))
    ∙ map-append (λ (p : Decoded). or_replacement p.char) (pieces (take (suc k) bs)) (pieces (drop (suc k) bs))

-- A stop of the front of a line.

clean_front : (n : ℕ) (bs : List ℕ) → is_clean bs ≡ true → is_clean (take n bs) ≡ true
clean_front zero bs clean = refl
clean_front (suc n) [] clean = refl
clean_front (suc n) (b ∷ bs) clean = clean

front_behind : (k n : ℕ) (bs : List ℕ) → k ≤ n → drop k (take n bs) ≡ take (n - k) (drop k bs)
front_behind k n bs few = ap (λ (m : ℕ). drop k (take m bs)) (omega arith) ∙ drop-take k (n - k) bs

pub stop_front : (n : ℕ) (bs : List ℕ) (s : Stop) → s.before ≤ n → n ≤ length bs → IsStop bs s → IsStop (take n bs) s
stop_front n bs s few within is = record {
  counted = is.counted ∙ ap (λ (front : List ℕ). length (lossy_chars front)) (sym (take-take s.before n bs few));
  clean = λ some. ap is_clean (front_behind s.before n bs few) ∙ clean_front (n - s.before) (drop s.before bs) (is.clean some);
  within = let long = length-take-le n bs within in omega (arith, few);
  few = is.few;
}

-- the beginning of a line is a stop of it
pub start_stop : (bs : List ℕ) (s : Stop) → s.before ≡ 0 → s.column ≡ 0 → IsStop bs s
start_stop bs s none no_column = record {
  counted = no_column ∙ ap length (sym lossy_chars-nil) ∙ ap (λ (k : ℕ). length (lossy_chars (take k bs))) (sym none);
  clean = λ some. absurd (omega (arith, some, none));
  within = omega (arith, none);
  few = omega (arith, no_column);
}

-- Counting.

pub counted_from : (bs : List ℕ) (s : Stop) (k : ℕ) → IsStop bs s → s.before ≤ k → k ≤ length bs
    → s.column + length (lossy_chars (take (k - s.before) (drop s.before bs))) ≡ length (lossy_chars (take k bs))
counted_from bs s k is few within =
    let here = stop_front k bs s few within is in
    let parts = split s.before (take k bs) here.clean in
    let all = ap length parts ∙ length-append (lossy_chars (take s.before (take k bs))) (lossy_chars (drop s.before (take k bs))) in
    let front = here.counted in
    let behind = ap (λ (rest : List ℕ). length (lossy_chars rest)) (front_behind s.before k bs few) in
    omega (arith, all, front, behind)

-- the stop behind another
pub next_stop : (bs : List ℕ) (s t : Stop) → IsStop bs s → s.before ≤ t.before → t.before ≤ length bs → is_clean (drop t.before bs) ≡ true
    → t.column ≡ s.column + length (lossy_chars (take (t.before - s.before) (drop s.before bs))) → IsStop bs t
next_stop bs s t is behind within clean counted =
    let all = counted ∙ counted_from bs s t.before is behind within in
    record {
      counted = all;
      clean = λ some. clean;
      within = within;
      few = let few = length-lossy_chars (take t.before bs) in let long = length-take-le t.before bs within in omega (arith, all, few, long);
    }

-- Showing.

pub seen_from : (bs : List ℕ) (s : Stop) (left_out most : ℕ) → IsStop bs s → s.column ≤ left_out
    → take most (drop (left_out - s.column) (map spaced (lossy_chars (drop s.before bs)))) ≡ take most (drop left_out (map spaced (lossy_chars bs)))
seen_from bs s left_out most is few =
    let front = map spaced (lossy_chars (take s.before bs)) in
    let behind = map spaced (lossy_chars (drop s.before bs)) in
    let long : length front ≡ s.column = length-map (lossy_chars (take s.before bs)) spaced ∙ sym is.counted in
    ap (take most) (sym (
    ap (λ (cs : List ℕ). drop left_out (map spaced cs)) (split s.before bs is.clean)
    ∙ ap (drop left_out) (map-append spaced (lossy_chars (take s.before bs)) (lossy_chars (drop s.before bs)))
    ∙ ap (λ (k : ℕ). drop k (front ++ behind)) (omega (arith, long, few))
    ∙ drop-append-add front behind (left_out - s.column)))

-- What a line shows is its front.

front : (n : ℕ) (bs : List ℕ) → n ≤ length bs → take n bs ≡ take (length (take n bs)) bs
front n bs few = ap (λ (k : ℕ). take k bs) (sym (length-take-le n bs few))

without_feed : (c : Bool) (n : ℕ) (bs : List ℕ) → n ≤ length bs
    → cond c (take (length (take n bs) - 1) (take n bs)) (take n bs) ≡ take (length (cond c (take (length (take n bs) - 1) (take n bs)) (take n bs))) bs
without_feed false n bs few = front n bs few
without_feed true n bs few =
    let long = length-take-le n bs few in
    let m = length (take n bs) - 1 in
    let shorter : take m (take n bs) ≡ take m bs = take-take m n bs (omega (arith, long)) in
    shorter ∙ front m bs (omega (arith, long, few)) ∙ ap (λ (xs : List ℕ). take (length xs) bs) (sym shorter)

shown_front : (bs : List ℕ) → without_terminator bs ≡ take (length (without_terminator bs)) bs
shown_front bs = by (nat_lt 0 (length bs) && slice_index bs (length bs - 1) == 10)
  where
    by : (c : Bool) → cond c (no_cr (take (length bs - 1) bs)) bs ≡ take (length (cond c (no_cr (take (length bs - 1) bs)) bs)) bs
    by false = sym (take-length bs)
    by true = without_feed (nat_lt 0 (length (take (length bs - 1) bs)) && slice_index (take (length bs - 1) bs) (length (take (length bs - 1) bs) - 1) == 13) (length bs - 1) bs (omega arith)

pub shown_stop : (bs : List ℕ) (s : Stop) → IsStop bs s → s.before ≤ length (without_terminator bs) → IsStop (without_terminator bs) s
shown_stop bs s is few =
    let n = length (without_terminator bs) in
    let whole = shown_front bs in
    let within : n ≤ length bs = shorter n (ap length whole) in
    subst (λ (xs : List ℕ). IsStop xs s) (sym whole) (stop_front n bs s few within is)
  where
    shorter : (n : ℕ) → n ≡ length (take n bs) → n ≤ length bs
    shorter n is = let long = length-take n bs in omega (arith, long, is)

-- one more character of those that are shown
pub one_seen : (before left c : ℕ) (front pushed iterator rest all : List ℕ) → iterator ≡ c ∷ rest → pushed ≡ front ++ spaced c ∷ [] → before ≤ 0 → 0 < left
    → front ++ take left (drop before (map spaced iterator)) ≡ all → pushed ++ take (left - 1) (drop before (map spaced rest)) ≡ all
one_seen (suc before) left c front pushed iterator rest all is put none some so = absurd (omega arith)
one_seen zero zero c front pushed iterator rest all is put none some so = absurd (omega arith)
one_seen zero (suc left) c front pushed iterator rest all is put none some so =
    ap (λ (k : ℕ). pushed ++ take k (map spaced rest)) (omega arith) ∙ ap (λ (xs : List ℕ). xs ++ take left (map spaced rest)) put ∙ append_assoc front (spaced c ∷ []) (take left (map spaced rest))
    ∙ ap (λ (xs : List ℕ). front ++ take (suc left) (map spaced xs)) (sym is) ∙ so

-- a stop of the table that is one of a line which begins and ends so
pub stop_of : (text : List ℕ) (stops xs : List Stop) (i start end : ℕ) (s : Stop) → All (IsStopOf text) stops → xs ≡ stops → i < length xs → s ≡ slice_index_or xs i s
    → s.start ≡ start → s.before ≤ end - start → end ≤ length text → IsStop (take (end - start) (drop start text)) s
stop_of text stops xs i start end s all same there is begins few within =
    let long = length-drop start text in
    let one : IsStopOf text s = subst (IsStopOf text) (sym is) (subst (All (IsStopOf text)) (sym same) all i s there) in
    stop_front (end - start) (drop start text) s few (omega (arith, long, within)) (subst (λ (k : ℕ). IsStop (drop k text) s) begins one)

-- no more of a line stands before a place than it has
pub before_within : (bytes : List ℕ) (is_last : Bool) (k n before : ℕ) → length bytes ≡ n → (is_last ≡ false → k ≤ n) → before ≡ before_in bytes is_last k → before ≤ n
before_within bytes false k n before long inner is = omega (arith, inner refl, is)
before_within bytes true k n before long inner is =
    let whole = shown_front bytes in
    let shown = ap length whole ∙ length-take (length (without_terminator bytes)) bytes in
    omega (arith, long, is, shown)
