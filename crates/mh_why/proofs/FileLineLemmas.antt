-- The lines of a file take all of its bytes; and how a loop over them comes to the line that is wanted.
use Rattle.std.specs.Prelude.{◌≡◌, ℕ, zero, suc, ◌+◌, ◌≤◌, List, [], ◌∷◌, ◌++◌, length, take, drop}
use Rattle.std.proofs.Common.{ap, sym, ◌∙◌, arith, length-drop, length-take-le, append-nil}
use Rattle.bstr.specs.Text.{line_len, lines_of, without_terminator}
use Rattle.bstr.proofs.lemmas.LineLemmas.{lines-nil, lines-step, line_len-bounds}
use Rattle.mh_why.specs.Places.{shown_place}
use Rattle.mh_why.specs.Sources.{NamedFile, shown_line_from, shown_written_from}

-- how many bytes there are in some lines
abbrev pub total : List (List ℕ) → ℕ
total [] = 0
total (l ∷ ls) = length l + total ls

total_within : (n : ℕ) (bs : List ℕ) → length bs ≤ n → total (lines_of bs) ≡ length bs
total_within n [] few = ap total lines-nil
total_within zero (b ∷ bs) few = absurd (omega arith)
total_within (suc n) (b ∷ bs) few =
    let long = line_len (b ∷ bs) in
    let bounds = line_len-bounds (b ∷ bs) (omega arith) in
    let first = length-take-le long (b ∷ bs) bounds.1 in
    let left = length-drop long (b ∷ bs) in
    let rest = total_within n (drop long (b ∷ bs)) (omega arith) in
    let step : total (lines_of (b ∷ bs)) ≡ length (take long (b ∷ bs)) + total (lines_of (drop long (b ∷ bs))) = ap total (lines-step (b ∷ bs) (omega arith)) in
    omega (arith, step, first, left, rest, bounds.1)

pub total_lines : (bs : List ℕ) → total (lines_of bs) ≡ length bs
total_lines bs = total_within (length bs) bs (omega arith)

-- the line is the next one
pub is_next : (s : NamedFile) (start left before : ℕ) (line : List ℕ) (ls rest all : List (List ℕ)) (front text : List ℕ) → left ≡ 0 → ls ≡ line ∷ rest → text ≡ front
    → shown_line_from s start ls left ≡ shown_line_from s 0 all before
    → text ++ shown_place s.name s.bytes start (length (without_terminator line)) ≡ front ++ shown_line_from s 0 all before
is_next s start left before line ls rest all front text none is same so =
    ap (λ (t : List ℕ). t ++ shown_place s.name s.bytes start (length (without_terminator line))) same
    ∙ ap (λ (t : List ℕ). front ++ t) (ap (λ (xs : List (List ℕ)). shown_line_from s start xs 0) (sym is) ∙ ap (shown_line_from s start ls) (sym none) ∙ so)

-- no line is left
pub is_missing : (s : NamedFile) (start left before : ℕ) (ls all : List (List ℕ)) (front text : List ℕ) → ls ≡ [] → text ≡ front
    → shown_line_from s start ls left ≡ shown_line_from s 0 all before → text ≡ front ++ shown_line_from s 0 all before
is_missing s start left before ls all front text none same so =
    same ∙ sym (append-nil front) ∙ ap (λ (t : List ℕ). front ++ t) (ap (λ (xs : List (List ℕ)). shown_line_from s start xs left) (sym none) ∙ so)

-- what is looked for is written in no line
pub is_unwritten : (s : NamedFile) (start : ℕ) (written : List ℕ) (ls all : List (List ℕ)) (front text : List ℕ) → ls ≡ [] → text ≡ front
    → shown_written_from s start ls written ≡ shown_written_from s 0 all written → text ≡ front ++ shown_written_from s 0 all written
is_unwritten s start written ls all front text none same so =
    same ∙ sym (append-nil front) ∙ ap (λ (t : List ℕ). front ++ t) (ap (λ (xs : List (List ℕ)). shown_written_from s start xs written) (sym none) ∙ so)
