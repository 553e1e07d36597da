-- The next run that is printed of the cells of a row.
use Rattle.std.specs.Prelude.{◌≡◌, ℕ, ◌+◌, ◌<◌, ◌==◌, ◌&&◌, ◌⊎◌, Bool, true, false, if◌then◌else◌, List, [], ◌∷◌, ◌++◌, length, map, replicate, refl}
use Rattle.std.specs.List.{list_all}
use Rattle.std.proofs.Common.{ap, ◌∙◌, sym, arith, inl, inr, append-nil, append_assoc, eqb-true}
use Rattle.std.proofs.lemmas.List.{length-append, map-append, replicate-append-replicate}
use Rattle.mh_model.specs.declared.picture.cell.Cell.{Cell}
use Rattle.mh_told.specs.Frame.{Run, begun, longer, fits, behind, is_blank, is_space, place, characters, run_text, runs_from}
use Rattle.mh_model.specs.Picture.{black}
use Rattle.mh_told.specs.Stretch.{runs_at}
use Rattle.mh_look.specs.Cells.{coloured}
use Rattle.mh_look.proofs.CellLemmas.{both_true, same_cell}

-- the cells of a run
abbrev pub run_cells : Run → List Cell
run_cells r = map (coloured r.fore r.back) r.scalars

-- nothing is printed of this run and the cells behind it
pub record IsBlack (r : Run) (cs : List Cell) : Type 0 where
  pub count : ℕ
  pub all : run_cells r ++ cs ≡ replicate count black
  pub text : runs_from r cs ≡ []

-- a run is printed, behind black cells
pub record IsPrinted (r : Run) (cs : List Cell) : Type 0 where
  pub count : ℕ
  pub run : Run
  pub left : List Cell
  pub all : run_cells r ++ cs ≡ replicate count black ++ (run_cells run ++ left)
  pub first : run.first ≡ r.first + count
  pub some : 0 < length run.scalars
  pub text : runs_from r cs ≡ (place run ++ characters run.scalars) ++ runs_at (behind run) left

abbrev Next : Run → List Cell → Type 0
Next r cs = IsBlack r cs ⊎ IsPrinted r cs

-- What is printed of one run.

blank_text : (r : Run) → is_blank r ≡ true → run_text r ≡ []
unfolding run_text
blank_text r e = ap (λ (b : Bool). if b then [] else place r ++ characters r.scalars) e

printed_text : (r : Run) → is_blank r ≡ false → run_text r ≡ place r ++ characters r.scalars
unfolding run_text
printed_text r e = ap (λ (b : Bool). if b then [] else place r ++ characters r.scalars) e

blank_cells : (fore back : ℕ) (cs : List ℕ) → fore ≡ 0 → back ≡ 0 → list_all is_space cs ≡ true → map (coloured fore back) cs ≡ replicate (length cs) black
blank_cells fore back [] f b e = refl
blank_cells fore back (c ∷ cs) f b e =
    let parts : (is_space c ≡ true) × (list_all is_space cs ≡ true) = both_true (is_space c) (list_all is_space cs) e in
    rw (same_cell c fore back 32 0 0 (eqb-true c 32 parts.0) f b, blank_cells fore back cs f b parts.1) refl

-- a blank run is black cells
blank_run : (r : Run) → is_blank r ≡ true → run_cells r ≡ replicate (length r.scalars) black
blank_run r e =
    let outer : ((r.fore == 0 && r.back == 0) ≡ true) × (list_all is_space r.scalars ≡ true) = both_true (r.fore == 0 && r.back == 0) (list_all is_space r.scalars) e in
    let inner : ((r.fore == 0) ≡ true) × ((r.back == 0) ≡ true) = both_true (r.fore == 0) (r.back == 0) outer.0 in
    blank_cells r.fore r.back r.scalars (eqb-true r.fore 0 inner.0) (eqb-true r.back 0 inner.1) outer.1

-- The cells from a run on.

goes_on : (r : Run) (c : Cell) (cs : List Cell) → fits r c ≡ true → runs_from r (c ∷ cs) ≡ runs_from (longer r c) cs
goes_on r c cs fit = ap (λ (b : Bool). if b then runs_from (longer r c) cs else run_text r ++ runs_from (begun (behind r) c) cs) fit

stops : (r : Run) (c : Cell) (cs : List Cell) → fits r c ≡ false → runs_from r (c ∷ cs) ≡ run_text r ++ runs_from (begun (behind r) c) cs
stops r c cs fit = ap (λ (b : Bool). if b then runs_from (longer r c) cs else run_text r ++ runs_from (begun (behind r) c) cs) fit

-- a cell that fits is a cell of the longer run
longer_cells : (r : Run) (c : Cell) (cs : List Cell) → fits r c ≡ true → run_cells r ++ c ∷ cs ≡ run_cells (longer r c) ++ cs
longer_cells r c cs fit =
    let parts : ((r.fore == c.fore) ≡ true) × ((r.back == c.back) ≡ true) = both_true (r.fore == c.fore) (r.back == c.back) fit in
    let same : c ≡ coloured r.fore r.back c.scalar = same_cell c.scalar c.fore c.back c.scalar r.fore r.back refl (sym (eqb-true r.fore c.fore parts.0)) (sym (eqb-true r.back c.back parts.1)) in
    ap (λ (x : Cell). run_cells r ++ x ∷ cs) same
    ∙ sym (append_assoc (run_cells r) (coloured r.fore r.back c.scalar ∷ []) cs)
    ∙ sym (ap (λ (xs : List Cell). xs ++ cs) (map-append (coloured r.fore r.back) r.scalars (c.scalar ∷ [])))

longer_next : (r : Run) (c : Cell) (cs : List Cell) → fits r c ≡ true → Next (longer r c) cs → Next r (c ∷ cs)
longer_next r c cs fit (inl b) = inl (record { count = b.count; all = longer_cells r c cs fit ∙ b.all; text = goes_on r c cs fit ∙ b.text })
longer_next r c cs fit (inr p) = inr (record { count = p.count; run = p.run; left = p.left; all = longer_cells r c cs fit ∙ p.all; first = p.first; some = p.some; text = goes_on r c cs fit ∙ p.text })

-- black cells in front
more_black : (n m : ℕ) (xs : List Cell) → replicate n black ++ (replicate m black ++ xs) ≡ replicate (n + m) black ++ xs
more_black n m xs = sym (append_assoc (replicate n black) (replicate m black) xs) ∙ ap (λ (ys : List Cell). ys ++ xs) (replicate-append-replicate n m black)

-- a blank run, and then another one
blank_next : (r : Run) (c : Cell) (cs : List Cell) → fits r c ≡ false → is_blank r ≡ true → Next (begun (behind r) c) cs → Next r (c ∷ cs)
blank_next r c cs fit blank (inl b) = inl (record {
  count = length r.scalars + b.count;
  all = ap (λ (xs : List Cell). xs ++ c ∷ cs) (blank_run r blank) ∙ ap (λ (xs : List Cell). replicate (length r.scalars) black ++ xs) b.all ∙ replicate-append-replicate (length r.scalars) b.count black;
  text = stops r c cs fit ∙ ap (λ (xs : List ℕ). xs ++ runs_from (begun (behind r) c) cs) (blank_text r blank) ∙ b.text;
})
blank_next r c cs fit blank (inr p) = inr (record {
  count = length r.scalars + p.count;
  run = p.run;
  left = p.left;
  all = ap (λ (xs : List Cell). xs ++ c ∷ cs) (blank_run r blank) ∙ ap (λ (xs : List Cell). replicate (length r.scalars) black ++ xs) p.all ∙ more_black (length r.scalars) p.count (run_cells p.run ++ p.left);
  first = let at : p.run.first ≡ (r.first + length r.scalars) + p.count = p.first in omega (arith, at);
  some = p.some;
  text = stops r c cs fit ∙ ap (λ (xs : List ℕ). xs ++ runs_from (begun (behind r) c) cs) (blank_text r blank) ∙ p.text;
})

stop_next : (r : Run) (c : Cell) (cs : List Cell) (b : Bool) → 0 < length r.scalars → fits r c ≡ false → is_blank r ≡ b → Next (begun (behind r) c) cs → Next r (c ∷ cs)
stop_next r c cs true some fit blank next = blank_next r c cs fit blank next
stop_next r c cs false some fit printed next = inr (record {
  count = 0;
  run = r;
  left = c ∷ cs;
  all = refl;
  first = omega arith;
  some = some;
  text = stops r c cs fit ∙ ap (λ (xs : List ℕ). xs ++ runs_from (begun (behind r) c) cs) (printed_text r printed);
})

cell_next : (r : Run) (c : Cell) (cs : List Cell) (b : Bool) → 0 < length r.scalars → fits r c ≡ b → Next (longer r c) cs → Next (begun (behind r) c) cs → Next r (c ∷ cs)
cell_next r c cs true some fit on other = longer_next r c cs fit on
cell_next r c cs false some fit on other = stop_next r c cs (is_blank r) some fit refl other

-- the end of the row
no_next : (r : Run) (b : Bool) → 0 < length r.scalars → is_blank r ≡ b → Next r []
no_next r true some blank = inl (record { count = length r.scalars; all = append-nil (run_cells r) ∙ blank_run r blank; text = blank_text r blank })
no_next r false some printed = inr (record {
  count = 0;
  run = r;
  left = [];
  all = refl;
  first = omega arith;
  some = some;
  text = printed_text r printed ∙ sym (append-nil (place r ++ characters r.scalars));
})

pub next : (r : Run) (cs : List Cell) → 0 < length r.scalars → Next r cs
next r [] some = no_next r (is_blank r) some refl
next r (c ∷ cs) some =
    let one : 0 < length (c.scalar ∷ []) = omega arith in
    cell_next r c cs (fits r c) some refl
    (next (longer r c) cs (omega (arith, length-append r.scalars (c.scalar ∷ []), some)))
    (next (begun (behind r) c) cs one)
