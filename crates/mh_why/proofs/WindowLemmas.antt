-- What is shown of a line depends on no more of its characters than those that are looked at.
use Rattle.std.specs.Prelude.{◌≡◌, ℕ, zero, suc, ◌+◌, ◌-◌, ◌<◌, ◌≤◌, ◌==◌, nat_le, nat_lt, Bool, true, false, cond, if◌then◌else◌, List, [], ◌∷◌, ◌++◌, codes, length, max, min, take, drop, refl, slice_index_or}
use Rattle.std.specs.List.{flat_map, prefix_len}
use Rattle.std.specs.Fmt.{decimal}
use Rattle.std.proofs.Common.{ap, ◌∙◌, sym, subst, ⊎_elim, arith, drop-drop, get_or-take, length-take, take-take, take_all}
use Rattle.std.proofs.lemmas.Bool.{cases_lt, lt-leb, lt-ltb, le-ltb}
use Rattle.std.proofs.lemmas.List.{drop-take}
use Rattle.mh_told.specs.Printing.{character}
use Rattle.mh_terminal.specs.Frames.{plain}
use Rattle.mh_why.specs.LineWords.{is_in_word}
use Rattle.mh_why.specs.Lines.{first_by}
use Rattle.mh_why.specs.Places.{back_mark, caret_line, cut_at, first_shown, front_mark, last_space, mark_width, margin, shown_line, size_shown, window, width, word_behind}

-- The word that the margin would cut.

prefix_front : (p : ℕ → Bool) (n : ℕ) (xs : List ℕ) → prefix_len p (take n xs) ≡ min n (prefix_len p xs)
prefix_front p zero xs = omega arith
prefix_front p (suc n) [] = omega arith
prefix_front p (suc n) (x ∷ xs) = by (p x) (prefix_front p n xs)
  where
    by : (b : Bool) → prefix_len p (take n xs) ≡ min n (prefix_len p xs) → cond b (1 + prefix_len p (take n xs)) 0 ≡ min (suc n) (cond b (1 + prefix_len p xs) 0)
    by true same = omega (arith, same)
    by false same = omega arith

word_cut : (first n size : ℕ) → 40 ≤ n → word_behind first (min n size) ≡ word_behind first size
word_cut first n size most = ⊎_elim short long (cases_lt size 40)
  where
    short : size < 40 → word_behind first (min n size) ≡ word_behind first size
    short few = ap (word_behind first) (omega (arith, few, most))

    long : 40 ≤ size → word_behind first (min n size) ≡ word_behind first size
    long many = rw (le-ltb (min n size) 40 (omega (arith, many, most)), le-ltb size 40 many) refl

pub first_seen : (n column : ℕ) (cs : List ℕ) → 40 ≤ n → first_by column (prefix_len is_in_word (take n (drop (column - 40) cs))) ≡ first_shown cs column
unfolding first_shown
first_seen n column cs most =
    ap (λ (first : ℕ). if nat_le column margin then 0 else first)
    (ap (word_behind (column - 40)) (prefix_front is_in_word n (drop (column - 40) cs)) ∙ word_cut (column - 40) n (prefix_len is_in_word (drop (column - 40) cs)) most)

-- The window.

last_front : (n k : ℕ) (cs : List ℕ) → k ≤ n → last_space (take n cs) k ≡ last_space cs k
unfolding last_space
last_front n zero cs few = refl
last_front n (suc k) cs few =
    ap (λ (c : ℕ). if c == 32 then k else last_space (take n cs) k) (get_or-take n cs k 0 (omega arith)) ∙ ap (λ (m : ℕ). if slice_index_or cs k 0 == 32 then k else m) (last_front n k cs (omega arith))

last_within : (k : ℕ) (cs : List ℕ) → last_space cs k ≤ k
unfolding last_space
last_within zero cs = omega arith
last_within (suc k) cs = by (slice_index_or cs k 0 == 32) (last_within k cs)
  where
    by : (b : Bool) → last_space cs k ≤ k → (if b then k else last_space cs k) ≤ suc k
    by true h = omega arith
    by false h = omega (arith, h)

cut_within : (space shift : ℕ) → space ≤ 70 → cut_at space shift ≤ 70
cut_within space shift few = by (nat_lt shift space)
  where
    by : (b : Bool) → (if b then space else width) ≤ 70
    by true = few
    by false = omega arith

cut_size : (cs : List ℕ) (shift : ℕ) → 70 < length cs → size_shown cs shift ≡ cut_at (last_space cs 70) shift
unfolding size_shown
cut_size cs shift long = rw (lt-leb (length cs) 70 long) refl

cut_mark : (shown all : ℕ) → shown ≤ 70 → 70 < all → (other : ℕ) → 70 < other → back_mark shown all ≡ back_mark shown other
unfolding back_mark
cut_mark shown all few long other longer = rw (lt-ltb shown all (omega (arith, few, long)), lt-ltb shown other (omega (arith, few, longer))) refl

line_front : (digits : List ℕ) (n first shown : ℕ) (cs : List ℕ) → shown ≤ 70 → 70 < n → 70 < length cs → shown_line digits (take n cs) first shown ≡ shown_line digits cs first shown
unfolding shown_line
line_front digits n first shown cs few most long =
    let left = length-take n cs in
    ap (λ (xs : List ℕ). codes "  " ++ plain digits ++ codes " | " ++ front_mark first ++ flat_map character xs ++ back_mark shown (length (take n cs)) ++ 10 ∷ []) (take-take shown n cs (omega (arith, few, most)))
    ∙ ap (λ (xs : List ℕ). codes "  " ++ plain digits ++ codes " | " ++ front_mark first ++ flat_map character (take shown cs) ++ xs ++ 10 ∷ []) (cut_mark shown (length (take n cs)) few (omega (arith, left, most, long)) (length cs) long)

pub window_front : (number n first shift count : ℕ) (cs : List ℕ) → 70 < n → window number (take n cs) first shift count ≡ window number cs first shift count
unfolding window
window_front number n first shift count cs most = ⊎_elim long short (cases_lt 70 (length cs))
  where
    shown : ℕ → List ℕ → List ℕ
    shown size xs = shown_line (decimal number) xs first size ++ caret_line (length (decimal number)) (mark_width first) shift (max 1 (min count (size - shift)))

    short : length cs ≤ 70 → shown (size_shown (take n cs) shift) (take n cs) ≡ shown (size_shown cs shift) cs
    short few = ap (λ (xs : List ℕ). shown (size_shown xs shift) xs) (take_all n cs (omega (arith, few, most)))

    long : 70 < length cs → shown (size_shown (take n cs) shift) (take n cs) ≡ shown (size_shown cs shift) cs
    long many =
        let left = length-take n cs in
        let size : size_shown (take n cs) shift ≡ size_shown cs shift =
        cut_size (take n cs) shift (omega (arith, left, most, many)) ∙ ap (λ (space : ℕ). cut_at space shift) (last_front n 70 cs (omega (arith, most))) ∙ sym (cut_size cs shift many) in
        let few : size_shown cs shift ≤ 70 = subst (λ (k : ℕ). k ≤ 70) (sym (cut_size cs shift many)) (cut_within (last_space cs 70) shift (last_within 70 cs)) in
        ap (λ (k : ℕ). shown k (take n cs)) size
        ∙ ap (λ (xs : List ℕ). xs ++ caret_line (length (decimal number)) (mark_width first) shift (max 1 (min count (size_shown cs shift - shift)))) (line_front (decimal number) n first (size_shown cs shift) cs few most many)

-- what is put of the characters from the margin on
pub window_seen : (number n left_out first shift count : ℕ) (cs near : List ℕ) → near ≡ take n (drop left_out cs) → left_out ≤ first → 70 < n - (first - left_out)
    → first - left_out ≤ n → window number (drop (first - left_out) near) first shift count ≡ window number (drop first cs) first shift count
window_seen number n left_out first shift count cs near is behind most few =
    let rest : drop (first - left_out) near ≡ take (n - (first - left_out)) (drop first cs) =
    ap (drop (first - left_out)) is ∙ ap (λ (k : ℕ). drop (first - left_out) (take k (drop left_out cs))) (omega (arith, few)) ∙ drop-take (first - left_out) (n - (first - left_out)) (drop left_out cs)
    ∙ ap (take (n - (first - left_out))) (drop-drop (first - left_out) left_out cs ∙ ap (λ (k : ℕ). drop k cs) (omega (arith, behind))) in
    ap (λ (xs : List ℕ). window number xs first shift count) rest ∙ window_front number (n - (first - left_out)) first shift count (drop first cs) most
