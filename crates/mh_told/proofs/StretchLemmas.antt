-- Runs as they lie in the planes, cell by cell.
use Rattle.std.specs.Prelude.{◌≡◌, ℕ, suc, ◌+◌, ◌-◌, ◌*◌, ◌<◌, ◌≤◌, zero, ◌==◌, ◌&&◌, ◌||◌, not, nat_eq, nat_lt, Bool, true, false, if◌then◌else◌, List, [], ◌∷◌, ◌++◌, length, take, drop, slice_index, slice_range, refl}
use Rattle.std.proofs.Common.{ap, ◌∙◌, sym, arith, subst, get_or, add-one, append-nil}
use Rattle.std.proofs.lemmas.Bool.Decides.{nat_tests}
use Rattle.std.proofs.Math.Seq.{drop-cons}
use Rattle.std.proofs.Math.ListN.{drop_of_length-le}
use Rattle.std.proofs.lemmas.List.{take_more, get_or-drop, length-drop, places}
use Rattle.mh_model.specs.declared.picture.cell.Cell.{Cell}
use Rattle.mh_model.specs.Planes.{Planes, IsWhole}
use Rattle.mh_model.specs.Picture.{cell_of, black}
use Rattle.mh_told.specs.Frame.{Run, begun, longer, fits, behind, run_text, runs, runs_from, row_cells}
use Rattle.mh_told.specs.Masks.{is_last}
use Rattle.mh_told.specs.Stretch.{have_colours, stretch, runs_at, runs_left}
use Rattle.mh_told.proofs.FrameLemmas.{row_cells_length, cell_of_row}

-- a row from a column on
cells_from : (p : Planes) (j column : ℕ) → column < 60 → drop column (row_cells p j) ≡ cell_of p (j * 60 + column) ∷ drop (column + 1) (row_cells p j)
cells_from p j column inside =
    drop-cons (row_cells p j) column black (omega (arith, row_cells_length p j, inside))
    ∙ ap (λ (c : Cell). c ∷ drop (suc column) (row_cells p j)) (cell_of_row p j column inside)
    ∙ ap (λ (n : ℕ). cell_of p (j * 60 + column) ∷ drop n (row_cells p j)) (sym (add-one column))

no_cells : (p : Planes) (j column : ℕ) → 60 ≤ column → drop column (row_cells p j) ≡ []
no_cells p j column past = drop_of_length-le (row_cells p j) (omega (arith, row_cells_length p j, past))

pub runs_first : (p : Planes) (j : ℕ) → runs_left p j 0 ≡ runs (row_cells p j)
runs_first p j = by (row_cells p j)
  where
    by : (cs : List Cell) → runs_at 0 cs ≡ runs cs
    by [] = refl
    by (c ∷ cs) = refl

pub runs_last : (p : Planes) (j column : ℕ) → 60 ≤ column → runs_left p j column ≡ []
runs_last p j column past = ap (runs_at column) (no_cells p j column past)

-- a stretch of numbers, and one more
range_more : (xs : List ℕ) (a b : ℕ) → a ≤ b → b < length xs → slice_range xs a (b + 1) ≡ slice_range xs a b ++ slice_index xs b ∷ []
range_more xs a b low high =
    let more : (b + 1) - a ≡ (b - a) + 1 = omega (arith, low) in
    let at : a + (b - a) ≡ b = omega (arith, low) in
    let here : get_or (drop a xs) (b - a) 0 ≡ slice_index xs b = get_or-drop a xs (b - a) 0 ∙ ap (λ (n : ℕ). get_or xs n 0) at in
    let short : b - a < length (drop a xs) = omega (arith, length-drop a xs, low, high) in
    ap (λ (n : ℕ). take n (drop a xs)) more ∙ take_more (drop a xs) (b - a) 0 short ∙ ap (λ (x : ℕ). slice_range xs a b ++ x ∷ []) here

range_none : (xs : List ℕ) (a : ℕ) → slice_range xs a a ≡ []
range_none xs a = let none : a - a ≡ 0 = omega arith in ap (λ (n : ℕ). take n (drop a xs)) none

abbrev with_scalars : (p : Planes) (j first : ℕ) → List ℕ → Run
with_scalars p j first cs = record { first = first; fore = slice_index p.fores (j * 60 + first); back = slice_index p.backs (j * 60 + first); scalars = cs }

stretch_begun : (p : Planes) (j first : ℕ) → IsWhole p → j < 36 → first < 60 → stretch p j first (first + 1) ≡ begun first (cell_of p (j * 60 + first))
stretch_begun p j first whole row inside =
    let at : j * 60 + (first + 1) ≡ (j * 60 + first) + 1 = omega arith in
    let here : j * 60 + first < length p.scalars = omega (arith, whole.scalars, row, inside) in
    let one : slice_range p.scalars (j * 60 + first) (j * 60 + (first + 1)) ≡ slice_index p.scalars (j * 60 + first) ∷ [] =
    ap (λ (n : ℕ). slice_range p.scalars (j * 60 + first) n) at
    ∙ range_more p.scalars (j * 60 + first) (j * 60 + first) (omega arith) here
    ∙ ap (λ (xs : List ℕ). xs ++ slice_index p.scalars (j * 60 + first) ∷ []) (range_none p.scalars (j * 60 + first)) in
    ap (with_scalars p j first) one

stretch_longer : (p : Planes) (j first end : ℕ) → IsWhole p → j < 36 → first ≤ end → end < 60 → longer (stretch p j first end) (cell_of p (j * 60 + end)) ≡ stretch p j first (end + 1)
stretch_longer p j first end whole row low inside =
    let at : j * 60 + (end + 1) ≡ (j * 60 + end) + 1 = omega arith in
    let here : j * 60 + end < length p.scalars = omega (arith, whole.scalars, row, inside) in
    ap (with_scalars p j first) (sym (ap (λ (n : ℕ). slice_range p.scalars (j * 60 + first) n) at ∙ range_more p.scalars (j * 60 + first) (j * 60 + end) (omega (arith, low)) here))

-- the stretch of one cell begins the run there
pub first_cell : (p : Planes) (j first : ℕ) → IsWhole p → j < 36 → first < 60 → runs_from (stretch p j first (first + 1)) (drop (first + 1) (row_cells p j)) ≡ runs_left p j first
first_cell p j first whole row inside =
    ap (λ (r : Run). runs_from r (drop (first + 1) (row_cells p j))) (stretch_begun p j first whole row inside)
    ∙ sym (ap (runs_at first) (cells_from p j first inside))

goes_on : (r : Run) (c : Cell) (cs : List Cell) → fits r c ≡ true → runs_from r (c ∷ cs) ≡ runs_from (longer r c) cs
goes_on r c cs fit = ap (λ (b : Bool). if b then runs_from (longer r c) cs else run_text r ++ runs_from (begun (behind r) c) cs) fit

stops : (r : Run) (c : Cell) (cs : List Cell) → fits r c ≡ false → runs_from r (c ∷ cs) ≡ run_text r ++ runs_from (begun (behind r) c) cs
stops r c cs fit = ap (λ (b : Bool). if b then runs_from (longer r c) cs else run_text r ++ runs_from (begun (behind r) c) cs) fit

-- a cell with the same colours makes it longer
pub next_cell : (p : Planes) (j first end : ℕ) → IsWhole p → j < 36 → first ≤ end → end < 60 → fits (stretch p j first end) (cell_of p (j * 60 + end)) ≡ true
    → runs_from (stretch p j first end) (drop end (row_cells p j)) ≡ runs_from (stretch p j first (end + 1)) (drop (end + 1) (row_cells p j))
next_cell p j first end whole row low inside fit =
    ap (runs_from (stretch p j first end)) (cells_from p j end inside)
    ∙ goes_on (stretch p j first end) (cell_of p (j * 60 + end)) (drop (end + 1) (row_cells p j)) fit
    ∙ ap (λ (r : Run). runs_from r (drop (end + 1) (row_cells p j))) (stretch_longer p j first end whole row low inside)

pub length-range : (xs : List ℕ) (a b : ℕ) → b ≤ length xs → length (slice_range xs a b) ≡ b - a
length-range xs a b high = grind (arith, places, high)

stretch_behind : (p : Planes) (j first end : ℕ) → IsWhole p → j < 36 → first ≤ end → end ≤ 60 → behind (stretch p j first end) ≡ end
stretch_behind p j first end whole row low high =
    let wide : length (slice_range p.scalars (j * 60 + first) (j * 60 + end)) ≡ (j * 60 + end) - (j * 60 + first) = length-range p.scalars (j * 60 + first) (j * 60 + end) (omega (arith, whole.scalars, row, high)) in
    omega (arith, wide, low)

-- a cell with other colours begins the next run
pub other_cell : (p : Planes) (j first end : ℕ) → IsWhole p → j < 36 → first ≤ end → end < 60 → fits (stretch p j first end) (cell_of p (j * 60 + end)) ≡ false
    → runs_from (stretch p j first end) (drop end (row_cells p j)) ≡ run_text (stretch p j first end) ++ runs_left p j end
other_cell p j first end whole row low inside fit =
    let at : behind (stretch p j first end) ≡ end = stretch_behind p j first end whole row low (omega (arith, inside)) in
    ap (runs_from (stretch p j first end)) (cells_from p j end inside)
    ∙ stops (stretch p j first end) (cell_of p (j * 60 + end)) (drop (end + 1) (row_cells p j)) fit
    ∙ ap (λ (n : ℕ). run_text (stretch p j first end) ++ runs_from (begun n (cell_of p (j * 60 + end))) (drop (end + 1) (row_cells p j))) at
    ∙ sym (ap (λ (cs : List Cell). run_text (stretch p j first end) ++ runs_at end cs) (cells_from p j end inside))

-- so does the end of the row
pub no_cell : (p : Planes) (j first end : ℕ) → 60 ≤ end → runs_from (stretch p j first end) (drop end (row_cells p j)) ≡ run_text (stretch p j first end) ++ runs_left p j end
no_cell p j first end past =
    ap (runs_from (stretch p j first end)) (no_cells p j end past)
    ∙ sym (append-nil (run_text (stretch p j first end)))
    ∙ sym (ap (λ (xs : List ℕ). run_text (stretch p j first end) ++ xs) (runs_last p j end past))

-- The cells of a run, up to the one that is its last.

no_other : (a b : Bool) → (a || not b) ≡ false → b ≡ true
no_other true b e = absurd cc
no_other false true e = refl
no_other false false e = absurd cc

other_or_end : (a b : Bool) → (a || not b) ≡ true → a ≡ false → b ≡ false
other_or_end a true e f = absurd cc
other_or_end a false e f = refl

both_left : (a b : Bool) → (a && b) ≡ true → a ≡ true
both_left true b e = refl
both_left false b e = e

both_right : (a b : Bool) → (a && b) ≡ true → b ≡ true
both_right true b e = e
both_right false b e = absurd cc

same_number : (a b : ℕ) → (a == b) ≡ true → a ≡ b
same_number a b e = grind (arith, nat_tests, e)

-- up to this cell all have the colours of the first
record HasRun (p : Planes) (j first at : ℕ) : Type 0 where
  runs : runs_from (stretch p j first (at + 1)) (drop (at + 1) (row_cells p j)) ≡ runs_left p j first
  fore : slice_index p.fores (j * 60 + first) ≡ slice_index p.fores (j * 60 + at)
  back : slice_index p.backs (j * 60 + first) ≡ slice_index p.backs (j * 60 + at)

fits_as : (p : Planes) (j first at c : ℕ) → HasRun p j first at → fits (stretch p j first (at + 1)) (cell_of p c) ≡ have_colours p (j * 60 + at) c
fits_as p j first at c run = λ i. (run.fore i == slice_index p.fores c) && (run.back i == slice_index p.backs c)

goes_up : (p : Planes) (j first at : ℕ) → IsWhole p → j < 36 → first ≤ at → at + 1 < 60 → is_last p j at ≡ false → HasRun p j first at → HasRun p j first (at + 1)
goes_up p j first at whole row low inside same run =
    let alike : have_colours p (j * 60 + at) (j * 60 + (at + 1)) ≡ true = no_other (at == 59) (have_colours p (j * 60 + at) (j * 60 + (at + 1))) same in
    record {
      runs = sym (next_cell p j first (at + 1) whole row (omega (arith, low)) inside (fits_as p j first at (j * 60 + (at + 1)) run ∙ alike)) ∙ run.runs;
      fore = run.fore ∙ same_number (slice_index p.fores (j * 60 + at)) (slice_index p.fores (j * 60 + (at + 1))) (both_left (slice_index p.fores (j * 60 + at) == slice_index p.fores (j * 60 + (at + 1))) (slice_index p.backs (j * 60 + at) == slice_index p.backs (j * 60 + (at + 1))) alike);
      back = run.back ∙ same_number (slice_index p.backs (j * 60 + at)) (slice_index p.backs (j * 60 + (at + 1))) (both_right (slice_index p.fores (j * 60 + at) == slice_index p.fores (j * 60 + (at + 1))) (slice_index p.backs (j * 60 + at) == slice_index p.backs (j * 60 + (at + 1))) alike);
    }

reaches : (p : Planes) (j first n at : ℕ) → IsWhole p → j < 36 → at ≡ first + n → at < 60 → ((k : ℕ) → first ≤ k → k < at → is_last p j k ≡ false) → HasRun p j first at
reaches p j first zero at whole row is inside none =
    let same : first ≡ at = omega (arith, is) in
    subst (HasRun p j first) same (record { runs = first_cell p j first whole row (omega (arith, is, inside)); fore = refl; back = refl })
reaches p j first (suc n) at whole row is inside none =
    let before : first + n + 1 ≡ at = omega (arith, is) in
    subst (HasRun p j first) before
    (goes_up p j first (first + n) whole row (omega arith) (omega (arith, is, inside)) (none (first + n) (omega arith) (omega (arith, is)))
    (reaches p j first n (first + n) whole row refl (omega (arith, is, inside)) (λ k low less. none k low (omega (arith, less, is)))))

-- from a column up to the first that is the last of its run lies one run
pub run_found : (p : Planes) (j first last : ℕ) → IsWhole p → j < 36 → first ≤ last → last < 60 → ((k : ℕ) → first ≤ k → k < last → is_last p j k ≡ false) → is_last p j last ≡ true
    → runs_left p j first ≡ run_text (stretch p j first (last + 1)) ++ runs_left p j (last + 1)
run_found p j first last whole row low inside none ends =
    let run = reaches p j first (last - first) last whole row (omega (arith, low)) inside none in
    sym run.runs ∙ by run (last == 59) refl
  where
    by : HasRun p j first last → (b : Bool) → (last == 59) ≡ b → runs_from (stretch p j first (last + 1)) (drop (last + 1) (row_cells p j)) ≡ run_text (stretch p j first (last + 1)) ++ runs_left p j (last + 1)
    by run true e = no_cell p j first (last + 1) (let is : last ≡ 59 = same_number last 59 e in omega (arith, is))
    by run false e =
        let other : last + 1 < 60 = grind (arith, nat_tests, e, inside) in
        other_cell p j first (last + 1) whole row (omega (arith, low)) other
        (fits_as p j first last (j * 60 + (last + 1)) run ∙ other_or_end (last == 59) (have_colours p (j * 60 + last) (j * 60 + (last + 1))) ends e)
