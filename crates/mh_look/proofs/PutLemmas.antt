-- The cells of a row, put one by one.
use Rattle.std.specs.Prelude.{◌≡◌, ◌≢◌, ℕ, ◌+◌, ◌*◌, ◌<◌, List, length, refl}
use Rattle.std.proofs.Common.{ap, ◌∙◌, sym, arith, get_or, below_more}
use Rattle.std.proofs.lemmas.List.{get_or-set_same, get_or-set_other}
use Rattle.std.proofs.lemmas.List.FromFn.{fill_by_all}
use Rattle.mh_model.specs.declared.picture.cell.Cell.{Cell}
use Rattle.mh_told.specs.Frame.{row_cells}
use Rattle.mh_model.specs.Picture.{cell_of, black}
use Rattle.mh_model.specs.Planes.{Planes, IsWhole, with_cell}
use Rattle.mh_told.proofs.FrameLemmas.{row_cells_length, cell_of_row}
use Rattle.mh_look.proofs.CellLemmas.{same_cell}

-- the cell that was put
cell_put : (p : Planes) (at : ℕ) (x : Cell) → IsWhole p → at < 2160 → cell_of (with_cell p at x) at ≡ x
cell_put p at x whole inside =
    same_cell _ _ _ x.scalar x.fore x.back
    (get_or-set_same p.scalars at x.scalar 0 (omega (arith, whole.scalars, inside)))
    (get_or-set_same p.fores at x.fore 0 (omega (arith, whole.fores, inside)))
    (get_or-set_same p.backs at x.back 0 (omega (arith, whole.backs, inside)))

-- the others stay
cell_kept : (p : Planes) (at k : ℕ) (x : Cell) → k ≢ at → cell_of (with_cell p at x) k ≡ cell_of p k
cell_kept p at k x other =
    same_cell _ _ _ (cell_of p k).scalar (cell_of p k).fore (cell_of p k).back
    (get_or-set_other p.scalars at k x.scalar 0 other)
    (get_or-set_other p.fores at k x.fore 0 other)
    (get_or-set_other p.backs at k x.back 0 other)

-- a row up to a column has these cells, and no cell of another row was touched
pub record ArePut (j column : ℕ) (cells : List Cell) (before after : Planes) : Type 0 where
  pub put : (k : ℕ) → k < column → cell_of after (j * 60 + k) ≡ get_or cells k black
  pub kept : (i k : ℕ) → i ≢ j → k < 60 → cell_of after (i * 60 + k) ≡ cell_of before (i * 60 + k)

pub none_put : (j : ℕ) (cells : List Cell) (p : Planes) → ArePut j 0 cells p p
none_put j cells p = record { put = λ k low. absurd (omega (arith, low)); kept = λ i k other low. refl }

other_place : (i j k column : ℕ) → i ≢ j → k < 60 → column < 60 → i * 60 + k ≢ j * 60 + column
other_place i j k column other low inside = λ same. other (omega (arith, same, low, inside))

pub one_put : (j column : ℕ) (cells : List Cell) (before after next : Planes) (x : Cell) → j < 36 → column < 60 → IsWhole after → x ≡ get_or cells column black → next ≡ with_cell after (j * 60 + column) x → ArePut j column cells before after → ArePut j (column + 1) cells before next
one_put j column cells before after next x row inside whole here made puts = record {
  put = below_more (λ (k : ℕ). cell_of next (j * 60 + k) ≡ get_or cells k black) column
      (λ k low. ap (λ (p : Planes). cell_of p (j * 60 + k)) made ∙ cell_kept after (j * 60 + column) (j * 60 + k) x (λ same. absurd (omega (arith, same, low))) ∙ puts.put k low)
      (ap (λ (p : Planes). cell_of p (j * 60 + column)) made ∙ cell_put after (j * 60 + column) x whole (omega (arith, row, inside)) ∙ here);
  kept = λ i k other low. ap (λ (p : Planes). cell_of p (i * 60 + k)) made ∙ cell_kept after (j * 60 + column) (i * 60 + k) x (other_place i j k column other low inside) ∙ puts.kept i k other low;
}

-- a row with these cells, one by one
is_row : (p : Planes) (j : ℕ) (cells : List Cell) → length cells ≡ 60 → ((k : ℕ) → k < 60 → get_or cells k black ≡ cell_of p (j * 60 + k)) → cells ≡ row_cells p j
unfolding row_cells
is_row p j cells whole each = fill_by_all (λ i. cell_of p (j * 60 + i)) cells 60 black whole each

pub all_put : (j column : ℕ) (cells : List Cell) (before after : Planes) → length cells ≡ 60 → column ≡ 60 → ArePut j column cells before after → row_cells after j ≡ cells
all_put j column cells before after whole end puts = sym (is_row after j cells whole (λ k low. sym (puts.put k (omega (arith, end, low)))))

pub others_kept : (j column : ℕ) (cells : List Cell) (before after : Planes) → ArePut j column cells before after → (i : ℕ) → i < 36 → i ≢ j → row_cells before i ≡ row_cells after i
others_kept j column cells before after puts i inside other =
    is_row after i (row_cells before i) (row_cells_length before i) (λ k low. cell_of_row before i k low ∙ sym (puts.kept i k other low))
