-- The cells of a row, one more at a time.
use Rattle.std.specs.Prelude.{◌≡◌, ◌≢◌, ℕ, ◌+◌, ◌*◌, ◌<◌, ◌≤◌, Bool, true, false, ◌&&◌, ◌||◌, not, List, length, take}
use Rattle.std.specs.List.{list_all, list_any, zip}
use Rattle.std.proofs.Common.{ap, ◌∙◌, sym, arith, get_or}
use Rattle.std.proofs.lemmas.List.{take_all}
use Rattle.std.proofs.lemmas.List.Folds.{list_all_more, list_all_at, list_any_more, list_any_at}
use Rattle.std.proofs.lemmas.Slice.Zip.{get_or-zip, length-zip}
use Rattle.mh_model.specs.declared.picture.cell.Cell.{Cell}
use Rattle.mh_model.specs.Planes.{Planes}
use Rattle.mh_model.specs.Picture.{cell_of, black}
use Rattle.mh_told.specs.Frame.{row_cells, same_cell, differ}
use Rattle.mh_told.proofs.FrameLemmas.{row_cells_length, cell_of_row}
use Rattle.mh_look.specs.Report.{is_shown}
use Rattle.mh_look.specs.Reading.{IsRow}
use Rattle.mh_look.proofs.PictureLemmas.{differ_self, same_rows}

-- A test of each cell.

pub all_more : (test : Cell → Bool) (p : Planes) (j column : ℕ) → column < 60 → test (cell_of p (j * 60 + column)) ≡ true
    → list_all test (take column (row_cells p j)) ≡ true → list_all test (take (column + 1) (row_cells p j)) ≡ true
all_more test p j column inside good so =
    list_all_more test (row_cells p j) column black (omega (arith, row_cells_length p j, inside))
    ∙ ap (λ (b : Bool). b && test (get_or (row_cells p j) column black)) so
    ∙ ap test (cell_of_row p j column inside) ∙ good

pub not_all : (test : Cell → Bool) (p : Planes) (j column : ℕ) → column < 60 → test (cell_of p (j * 60 + column)) ≡ false → list_all test (row_cells p j) ≡ false
not_all test p j column inside bad =
    list_all_at test (row_cells p j) column black (omega (arith, row_cells_length p j, inside)) (ap test (cell_of_row p j column inside) ∙ bad)

pub whole_row : (p : Planes) (j column : ℕ) → 60 ≤ column → take column (row_cells p j) ≡ row_cells p j
whole_row p j column past = take_all column (row_cells p j) (omega (arith, row_cells_length p j, past))

-- Two rows side by side.

abbrev pub pairs : Planes → Planes → ℕ → List (Cell × Cell)
pairs p q j = zip (row_cells p j) (row_cells q j)

abbrev pub apart : Cell × Cell → Bool
apart pair = not (same_cell pair.0 pair.1)

pairs_length : (p q : Planes) (j : ℕ) → length (pairs p q j) ≡ 60
pairs_length p q j = omega (arith, length-zip (row_cells p j) (row_cells q j), row_cells_length p j, row_cells_length q j)

pair_at : (p q : Planes) (j column : ℕ) → column < 60 → get_or (pairs p q j) column (black, black) ≡ (cell_of p (j * 60 + column), cell_of q (j * 60 + column))
pair_at p q j column inside =
    get_or-zip (row_cells p j) (row_cells q j) column (black, black) (omega (arith, row_cells_length p j, inside)) (omega (arith, row_cells_length q j, inside))
    ∙ ap (λ (c : Cell). (c, get_or (row_cells q j) column black)) (cell_of_row p j column inside)
    ∙ ap (λ (c : Cell). (cell_of p (j * 60 + column), c)) (cell_of_row q j column inside)

pub none_more : (p q : Planes) (j column : ℕ) → column < 60 → same_cell (cell_of p (j * 60 + column)) (cell_of q (j * 60 + column)) ≡ true
    → list_any apart (take column (pairs p q j)) ≡ false → list_any apart (take (column + 1) (pairs p q j)) ≡ false
none_more p q j column inside same so =
    list_any_more apart (pairs p q j) column (black, black) (omega (arith, pairs_length p q j, inside))
    ∙ ap (λ (b : Bool). b || apart (get_or (pairs p q j) column (black, black))) so
    ∙ ap apart (pair_at p q j column inside) ∙ ap not same

pub do_differ : (p q : Planes) (j column : ℕ) → column < 60 → same_cell (cell_of p (j * 60 + column)) (cell_of q (j * 60 + column)) ≡ false → differ (row_cells p j) (row_cells q j) ≡ true
do_differ p q j column inside other =
    list_any_at apart (pairs p q j) column (black, black) (omega (arith, pairs_length p q j, inside)) (ap apart (pair_at p q j column inside) ∙ ap not other)

pub none_differ : (p q : Planes) (j column : ℕ) → 60 ≤ column → list_any apart (take column (pairs p q j)) ≡ false → differ (row_cells p j) (row_cells q j) ≡ false
none_differ p q j column past so =
    sym (ap (list_any apart) (take_all column (pairs p q j) (omega (arith, pairs_length p q j, past)))) ∙ so

-- what was told of two cells that are those of the pictures
pub cells_told : (p q : Planes) (at : ℕ) (one other : Cell) (told b : Bool) → one ≡ cell_of p at → other ≡ cell_of q at → told ≡ same_cell one other → told ≡ b → same_cell (cell_of p at) (cell_of q at) ≡ b
cells_told p q at one other told b e f is so =
    ap (λ (x : Cell). same_cell x (cell_of q at)) (sym e) ∙ ap (same_cell one) (sym f) ∙ sym is ∙ so

-- What the tests tell of rows.

pub is_row : (p : Planes) (j : ℕ) → list_all is_shown (row_cells p j) ≡ true → IsRow (row_cells p j)
is_row p j h = record { whole = row_cells_length p j; shown = h }

pub no_row : (p : Planes) (j : ℕ) → list_all is_shown (row_cells p j) ≡ false → IsRow (row_cells p j) → ⊥
no_row p j h row = let wrong : false ≡ true = sym h ∙ row.shown in absurd (cc)

pub same_row : (p q : Planes) (j : ℕ) → differ (row_cells p j) (row_cells q j) ≡ false → row_cells p j ≡ row_cells q j
same_row p q j h = same_rows (row_cells p j) (row_cells q j) (row_cells_length p j ∙ sym (row_cells_length q j)) h

pub other_row : (p q : Planes) (j : ℕ) → differ (row_cells p j) (row_cells q j) ≡ true → row_cells p j ≢ row_cells q j
other_row p q j h same = let wrong : false ≡ true = sym (differ_self (row_cells p j)) ∙ ap (differ (row_cells p j)) same ∙ h in absurd (cc)
