-- Lines cut at the first line feed, and a line parted by its first space.
use Rattle.std.specs.Prelude.{◌≡◌, ℕ, ◌+◌, ◌-◌, ◌<◌, List, [], ◌∷◌, length, take, drop, Option, Some, None, false, refl, ◌==◌, suc}
use Rattle.std.specs.List.{position, position_or_len}
use Rattle.std.proofs.Common.{ap, ◌∙◌, sym, subst, add-one, get_or}
use Rattle.std.proofs.lemmas.List.{take_rest}
use Rattle.mh_base.proofs.PathLemmas.{slice_split-uncut, slice_split-cut, position-some, position-none}
use Rattle.std.proofs.Math.Seq.{drop-cons}
use Rattle.mh_codec.specs.declared.tag_line.TagContext.{TagContext}
use Rattle.mh_codec.specs.declared.tag_line.TagLine.{TagLine}
use Rattle.mh_codec.specs.TagLines.{lines, read_digits, with_digit, decimal, number_named, naming, in_context}

-- bytes without a line feed are one line
pub lines_uncut : (bs : List ℕ) → position (λ b. b == 10) bs ≡ None → lines bs ≡ bs ∷ []
lines_uncut bs none = slice_split-uncut (λ b. b == 10) bs (position-none (λ b. b == 10) bs none)

-- bytes with a line feed have the line before it, and then those of the rest
pub lines_cut : (bs : List ℕ) (at : ℕ) → position (λ b. b == 10) bs ≡ Some at → lines bs ≡ take at bs ∷ lines (take (length bs - (at + 1)) (drop (at + 1) bs))
lines_cut bs at some =
    let found = position-some (λ b. b == 10) bs at some in
    let inside : position_or_len (λ b. b == 10) bs < length bs = subst (λ n. n < length bs) (sym found.0) found.1 in
    let short : take (length bs - (at + 1)) (drop (at + 1) bs) ≡ drop (suc at) bs = take_rest bs (at + 1) ∙ ap (λ (n : ℕ). drop n bs) (add-one at) in
    let pieces : lines bs ≡ take at bs ∷ lines (drop (suc at) bs) =
    subst (λ (n : ℕ). lines bs ≡ take n bs ∷ lines (drop (suc n) bs)) found.0 (slice_split-cut (λ b. b == 10) bs inside) in
    pieces ∙ ap (λ (rest : List ℕ). take at bs ∷ lines rest) (sym short)

-- once there is no number, there is none
pub read_none : (ds : List ℕ) → read_digits None ds ≡ None
read_none [] = refl
read_none (d ∷ ds) = read_none ds

-- digits of which one cannot be put behind the number write none
pub read_stuck : (n : ℕ) (ds : List ℕ) (i : ℕ) → i < length ds → with_digit n (get_or ds i 0) ≡ None → read_digits (Some n) (drop i ds) ≡ None
read_stuck n ds i within none = rw (drop-cons ds i 0) (ap (λ (o : Option ℕ). read_digits o (drop (suc i) ds)) none ∙ read_none (drop (suc i) ds))

-- digits that are there are read from 0 on
pub number_full : (ds : List ℕ) → (length ds == 0) ≡ false → decimal ds ≡ read_digits (Some 0) ds
number_full [] full = cc
number_full (d ∷ ds) full = refl

-- what the words before and behind the first space name is what the line names
pub parted : (c : TagContext) (r : TagLine) (words : List ℕ) (at : ℕ) → position (λ b. b == 32) words ≡ Some at
    → r ≡ naming c (number_named c (take at words)) (decimal (take (length words - (at + 1)) (drop (at + 1) words))) → r ≡ in_context c words
parted c r words at found told =
    rw (found) (told ∙ ap (λ (digits : List ℕ). naming c (number_named c (take at words)) (decimal digits)) (take_rest words (at + 1)))
