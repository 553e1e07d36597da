-- The lines of a script, cut at the first line feed; a file's name and digits, parted by the first space; and digits
-- behind a number that does not fit.
use Rattle.std.specs.Prelude.{◌≡◌, ℕ, ◌+◌, ◌-◌, ◌<◌, List, [], ◌∷◌, length, take, drop, Option, Some, None, Result, IfOk, false, refl, ◌==◌, suc}
use Rattle.std.specs.List.{position, position_or_len}
use Rattle.std.proofs.Common.{ap, ◌∙◌, sym, subst, add-one, get_or}
use Rattle.std.proofs.lemmas.List.{take_rest}
use Rattle.mh_base.proofs.PathLemmas.{slice_split-uncut, slice_split-cut, position-some, position-none}
use Rattle.std.proofs.Math.Seq.{drop-cons}
use Rattle.mh_script.specs.declared.script.Line.{Line}
use Rattle.mh_codec.specs.Tags.{Tags}
use Rattle.mh_service.specs.Refusals.{File}
use Rattle.mh_script.specs.Script.{lines, read_digits, with_digit, number_of, named_line, parted_line, file_line, brought_line, parted_scene, scene_line}

-- bytes without a line feed are one line
pub lines_uncut : (bs : List ℕ) → position (λ b. b == 10) bs ≡ None → lines bs ≡ bs ∷ []
lines_uncut bs none = slice_split-uncut (λ b. b == 10) bs (position-none (λ b. b == 10) bs none)

-- bytes with a line feed have the line before it, and then those of the rest
pub lines_cut : (bs : List ℕ) (at : ℕ) → position (λ b. b == 10) bs ≡ Some at → lines bs ≡ take at bs ∷ lines (take (length bs - (at + 1)) (drop (at + 1) bs))
lines_cut bs at some =
    let found = position-some (λ b. b == 10) bs at some in
    let inside : position_or_len (λ b. b == 10) bs < length bs = subst (λ n. n < length bs) (sym found.0) found.1 in
    let short : take (length bs - (at + 1)) (drop (at + 1) bs) ≡ drop (suc at) bs = take_rest bs (at + 1) ∙ ap (λ (n : ℕ). drop n bs) (add-one at) in
    let pieces : lines bs ≡ take at bs ∷ lines (drop (suc at) bs) =
    subst (λ (n : ℕ). lines bs ≡ take n bs ∷ lines (drop (suc n) bs)) found.0 (slice_split-cut (λ b. b == 10) bs inside) in
    pieces ∙ ap (λ (rest : List ℕ). take at bs ∷ lines rest) (sym short)

-- what is said of the words before and behind the first space is said of the line
pub file_parted : {E : Type 0} (r : Result Line E) (words : List ℕ) (at : ℕ) → position (λ b. b == 32) words ≡ Some at
    → IfOk r (λ line. line ≡ named_line (take at words) (take (length words - (at + 1)) (drop (at + 1) words))) → IfOk r (λ line. line ≡ file_line words)
file_parted {E} r words at found told =
    subst (λ (o : Option ℕ). IfOk r (λ line. line ≡ parted_line o words)) (sym found)
    (subst (λ (digits : List ℕ). IfOk r (λ line. line ≡ named_line (take at words) digits)) (take_rest words (at + 1)) told)

-- the same of the line of a scene
pub scene_parted : {E : Type 0} (r : Result Line E) (tags : Tags) (files : List File) (words : List ℕ) (at : ℕ) → position (λ b. b == 32) words ≡ Some at
    → IfOk r (λ line. line ≡ brought_line tags (take at words) (take (length words - (at + 1)) (drop (at + 1) words))) → IfOk r (λ line. line ≡ scene_line tags files words)
scene_parted {E} r tags files words at found told =
    subst (λ (o : Option ℕ). IfOk r (λ line. line ≡ parted_scene tags files o words)) (sym found)
    (subst (λ (digits : List ℕ). IfOk r (λ line. line ≡ brought_line tags (take at words) digits)) (take_rest words (at + 1)) told)

-- once there is no number, there is none
pub read_none : (ds : List ℕ) → read_digits None ds ≡ None
read_none [] = refl
read_none (d ∷ ds) = read_none ds

-- digits of which one cannot be put behind the number write none
pub read_stuck : (n : ℕ) (ds : List ℕ) (i : ℕ) → i < length ds → with_digit n (get_or ds i 0) ≡ None → read_digits (Some n) (drop i ds) ≡ None
read_stuck n ds i within none = rw (drop-cons ds i 0) (ap (λ (o : Option ℕ). read_digits o (drop (suc i) ds)) none ∙ read_none (drop (suc i) ds))

-- digits that are there are read from 0 on
pub number_full : (ds : List ℕ) → (length ds == 0) ≡ false → number_of ds ≡ read_digits (Some 0) ds
number_full [] full = cc
number_full (d ∷ ds) full = refl
