-- Where the lines of a text begin, and what they take of it.
use Rattle.std.specs.Prelude.{◌≡◌, ℕ, zero, suc, ◌+◌, ◌-◌, ◌<◌, ◌≤◌, List, [], ◌∷◌, ◌++◌, length, take, drop, refl, slice_index, slice_index_or}
use Rattle.std.specs.List.{concat}
use Rattle.std.proofs.Common.{ap, ◌∙◌, sym, arith, drop-drop, length-append, length-drop, take-append-drop}
use Rattle.std.proofs.Math.Seq.{take-append_seam, drop-append_seam}
use Rattle.bstr.specs.Text.{line_len, lines_of}
use Rattle.bstr.proofs.lemmas.LineLemmas.{lines-nil, lines-step, line_len-bounds}
use Rattle.mh_why.specs.Lines.{IsExtent, starts_from}

joined_within : (n : ℕ) (bs : List ℕ) → length bs ≤ n → concat (lines_of bs) ≡ bs
joined_within n [] few = ap concat lines-nil
joined_within zero (b ∷ bs) few = absurd (omega arith)
joined_within (suc n) (b ∷ bs) few =
    let long = line_len (b ∷ bs) in
    let bounds = line_len-bounds (b ∷ bs) (omega arith) in
    let left = length-drop long (b ∷ bs) in
    ap concat (lines-step (b ∷ bs) (omega arith)) ∙ ap (λ (rest : List ℕ). take long (b ∷ bs) ++ rest) (joined_within n (drop long (b ∷ bs)) (omega arith))
    ∙ take-append-drop long (b ∷ bs)

joined : (bs : List ℕ) → concat (lines_of bs) ≡ bs
joined bs = joined_within (length bs) bs (omega arith)

pub joined_length : (bs : List ℕ) → length (concat (lines_of bs)) ≡ length bs
joined_length bs = ap length (joined bs)

pub starts_length : (n : ℕ) (ls : List (List ℕ)) → length (starts_from n ls) ≡ suc (length ls)
starts_length n [] = refl
starts_length n (l ∷ ls) = ap suc (starts_length (n + length l) ls)

pub starts_first : (n : ℕ) (ls : List (List ℕ)) → slice_index (starts_from n ls) 0 ≡ n
starts_first n [] = refl
starts_first n (l ∷ ls) = refl

pub starts_least : (n : ℕ) (ls : List (List ℕ)) (i : ℕ) → i ≤ length ls → n ≤ slice_index (starts_from n ls) i
starts_least n [] zero there = omega arith
starts_least n [] (suc i) there = absurd (omega arith)
starts_least n (l ∷ ls) zero there = omega arith
starts_least n (l ∷ ls) (suc i) there = let least = starts_least (n + length l) ls i (omega arith) in omega arith

starts_next : (n : ℕ) (ls : List (List ℕ)) (i : ℕ) → i < length ls → slice_index (starts_from n ls) (suc i) ≡ slice_index (starts_from n ls) i + length (slice_index_or ls i [])
starts_next n [] i there = absurd (omega arith)
starts_next n (l ∷ ls) zero there = starts_first (n + length l) ls
starts_next n (l ∷ ls) (suc i) there = starts_next (n + length l) ls i (omega arith)

starts_within : (n : ℕ) (ls : List (List ℕ)) (i bytes : ℕ) → n + length (concat ls) ≡ bytes → i ≤ length ls → slice_index (starts_from n ls) i ≤ bytes
starts_within n [] zero bytes all there = omega arith
starts_within n [] (suc i) bytes all there = absurd (omega arith)
starts_within n (l ∷ ls) zero bytes all there = omega arith
starts_within n (l ∷ ls) (suc i) bytes all there =
    let long = length-append l (concat ls) in
    starts_within (n + length l) ls i bytes (omega arith) (omega arith)

starts_taken : (n : ℕ) (ls : List (List ℕ)) (i : ℕ) (bs : List ℕ) → drop n bs ≡ concat ls → i < length ls
    → take (length (slice_index_or ls i [])) (drop (slice_index (starts_from n ls) i) bs) ≡ slice_index_or ls i []
starts_taken n [] i bs rest there = absurd (omega arith)
starts_taken n (l ∷ ls) zero bs rest there = ap (take (length l)) rest ∙ take-append_seam l (concat ls)
starts_taken n (l ∷ ls) (suc i) bs rest there =
    starts_taken (n + length l) ls i bs (sym (drop-drop (length l) n bs) ∙ ap (drop (length l)) rest ∙ drop-append_seam l (concat ls)) (omega arith)

pub is_extent : (text : List ℕ) (index start end : ℕ) → index < length (lines_of text) → start ≡ slice_index (starts_from 0 (lines_of text)) index
    → end ≡ slice_index (starts_from 0 (lines_of text)) (index + 1) → IsExtent text index start end
is_extent text index start end there begun ended =
    let ls = lines_of text in
    let last : end ≡ slice_index (starts_from 0 ls) (suc index) = ended ∙ ap (slice_index (starts_from 0 ls)) (omega arith) in
    let next = starts_next 0 ls index there in
    let size : end - start ≡ length (slice_index_or ls index []) = omega arith in
    let all = joined_length text in
    record {
      rising = omega arith;
      within = let within = starts_within 0 ls (suc index) (length text) (omega arith) (omega arith) in omega arith;
      bytes =
          ap (λ (k : ℕ). take k (drop start text)) size ∙ ap (λ (k : ℕ). take (length (slice_index_or ls index [])) (drop k text)) begun
          ∙ starts_taken 0 ls index text (sym (joined text)) there;
    }
