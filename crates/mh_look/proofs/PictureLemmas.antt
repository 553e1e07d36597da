-- Cells and rows: what it means that they can be printed, and that they are the same.
use Rattle.std.specs.Prelude.{◌≡◌, ◌≢◌, ◌<◌, ◌≤◌, ◌&&◌, ◌||◌, ℕ, zero, suc, ◌+◌, ◌*◌, ◌/◌, ◌%◌, ◌==◌, Bool, true, false, not, List, [], ◌∷◌, length, map, refl}
use Rattle.std.specs.List.{list_all, range_with_len}
use Rattle.std.proofs.Common.{ap, ◌∙◌, sym, arith, get_or}
use Rattle.std.proofs.lemmas.Bool.Decides.{Decides-eqb}
use Rattle.mh_model.specs.declared.picture.cell.Cell.{Cell}
use Rattle.mh_model.specs.Planes.{Planes, IsWhole}
use Rattle.mh_model.specs.Picture.{cell_of, black}
use Rattle.mh_told.specs.Frame.{row_cells, same_cell, differ}
use Rattle.mh_told.proofs.FrameLemmas.{row_cells_length, cell_of_row}
use Rattle.mh_model.proofs.PlanesLemmas.{is_picture}
use Rattle.mh_look.specs.Report.{is_shown, IsShown}
use Rattle.mh_look.specs.Reading.{IsRow}

-- what follows from both outcomes of a test
pub either_way : {A : Type 0} (t : Bool) → (t ≡ true → A) → (t ≡ false → A) → A
either_way true true_so false_so = true_so refl
either_way false true_so false_so = false_so refl

-- Equal cells.

both_true : (a b : Bool) → (a && b) ≡ true → (a ≡ true) × (b ≡ true)
both_true true b e = (refl, e)
both_true false b e = absurd (cc)

either_false : (a b : Bool) → (a || b) ≡ false → (a ≡ false) × (b ≡ false)
either_false true b e = absurd (cc)
either_false false b e = (refl, e)

cells_alike : (a b c d e f : ℕ) → a ≡ d → b ≡ e → c ≡ f → ◌≡◌ {A = Cell} (record { scalar = a; fore = b; back = c }) (record { scalar = d; fore = e; back = f })
cells_alike a b c d e f p q r = rw (p, q, r) refl

same_cell_is : (a b : Cell) → same_cell a b ≡ true → a ≡ b
same_cell_is a b h =
    let parts = both_true (a.scalar == b.scalar && a.fore == b.fore) (a.back == b.back) h in
    let front = both_true (a.scalar == b.scalar) (a.fore == b.fore) parts.0 in
    cells_alike a.scalar a.fore a.back b.scalar b.fore b.back
    ((Decides-eqb a.scalar b.scalar).0 front.0) ((Decides-eqb a.fore b.fore).0 front.1) ((Decides-eqb a.back b.back).0 parts.1)

same_cell_self : (a : Cell) → same_cell a a ≡ true
same_cell_self a =
    ap (λ (t : Bool). t && a.fore == a.fore && a.back == a.back) ((Decides-eqb a.scalar a.scalar).1 refl)
    ∙ ap (λ (t : Bool). t && a.back == a.back) ((Decides-eqb a.fore a.fore).1 refl)
    ∙ (Decides-eqb a.back a.back).1 refl

-- Rows that do not differ are the same.

pub differ_self : (xs : List Cell) → differ xs xs ≡ false
differ_self [] = refl
differ_self (x ∷ xs) = ap (λ (t : Bool). not t || differ xs xs) (same_cell_self x) ∙ differ_self xs

not_false : (t : Bool) → not t ≡ false → t ≡ true
not_false true e = refl
not_false false e = absurd (cc)

pub same_rows : (xs ys : List Cell) → length xs ≡ length ys → differ xs ys ≡ false → xs ≡ ys
same_rows [] [] long h = refl
same_rows [] (y ∷ ys) long h = absurd (omega arith)
same_rows (x ∷ xs) [] long h = absurd (omega arith)
same_rows (x ∷ xs) (y ∷ ys) long h =
    let parts = either_false (not (same_cell x y)) (differ xs ys) h in
    let head : x ≡ y = same_cell_is x y (not_false (same_cell x y) parts.0) in
    let tail : xs ≡ ys = same_rows xs ys (omega arith) parts.1 in
    ap (λ (c : Cell). c ∷ xs) head ∙ ap (λ (cs : List Cell). y ∷ cs) tail

-- Rows cell by cell.

all_mapped : {X : Type 0} (test : X → Bool) (f : ℕ → X) (n a : ℕ) → ((i : ℕ) → a ≤ i → i < a + n → test (f i) ≡ true) → list_all test (map f (range_with_len a n)) ≡ true
all_mapped test f zero a each = refl
all_mapped test f (suc n) a each =
    ap (λ (t : Bool). t && list_all test (map f (range_with_len (a + 1) n))) (each a (omega arith) (omega arith))
    ∙ all_mapped test f n (a + 1) (λ i low high. each i (omega arith) (omega arith))

mapped_each : {X : Type 0} (test : X → Bool) (f : ℕ → X) (n a i : ℕ) → list_all test (map f (range_with_len a n)) ≡ true → a ≤ i → i < a + n → test (f i) ≡ true
mapped_each test f zero a i all low high = absurd (omega arith)
mapped_each test f (suc n) a i all low high =
    let parts = both_true (test (f a)) (list_all test (map f (range_with_len (a + 1) n))) all in
    either_way (a == i)
    (λ so. ap (λ (k : ℕ). test (f k)) (sym ((Decides-eqb a i).0 so)) ∙ parts.0)
    (λ so.
    let other : a ≢ i = λ e. let wrong : true ≡ false = sym ((Decides-eqb a i).1 e) ∙ so in absurd (cc) in
    mapped_each test f n (a + 1) i parts.1 (omega arith) (omega arith))

mapped_alike : {X : Type 0} (f g : ℕ → X) (n a : ℕ) → ((i : ℕ) → a ≤ i → i < a + n → f i ≡ g i) → map f (range_with_len a n) ≡ map g (range_with_len a n)
mapped_alike f g zero a each = refl
mapped_alike f g (suc n) a each =
    ap (λ x. x ∷ map f (range_with_len (a + 1) n)) (each a (omega arith) (omega arith))
    ∙ ap (λ xs. g a ∷ xs) (mapped_alike f g n (a + 1) (λ i low high. each i (omega arith) (omega arith)))

-- the cells of a row can be printed
pub is_row : (p : Planes) (j : ℕ) → ((i : ℕ) → i < 60 → is_shown (cell_of p (j * 60 + i)) ≡ true) → IsRow (row_cells p j)
unfolding row_cells
is_row p j each = record {
  whole = row_cells_length p j;
  shown = all_mapped is_shown (λ i. cell_of p (j * 60 + i)) 60 0 (λ i low high. each i (omega arith));
}

pub row_each : (p : Planes) (j i : ℕ) → IsRow (row_cells p j) → i < 60 → is_shown (cell_of p (j * 60 + i)) ≡ true
unfolding row_cells
row_each p j i row inside = mapped_each is_shown (λ i. cell_of p (j * 60 + i)) 60 0 i row.shown (omega arith) (omega arith)

pub row_shown : (p : Planes) (j : ℕ) → IsShown p → j < 36 → IsRow (row_cells p j)
row_shown p j shown inside = is_row p j (λ i small. shown.cells (j * 60 + i) (omega arith))

place_of : (c : ℕ) → c ≡ c / 60 * 60 + c % 60
place_of c = omega arith

-- a picture whose rows can be printed
pub all_shown : (p : Planes) → IsWhole p → ((j : ℕ) → j < 36 → IsRow (row_cells p j)) → IsShown p
all_shown p whole rows = record {
  whole = whole;
  cells = λ c inside.
      ap (λ (k : ℕ). is_shown (cell_of p k)) (place_of c) ∙ row_each p (c / 60) (c % 60) (rows (c / 60) (omega arith)) (omega arith);
}

-- the same row in two pictures
pub rows_alike : (p q : Planes) (j : ℕ) → ((i : ℕ) → i < 60 → cell_of p (j * 60 + i) ≡ cell_of q (j * 60 + i)) → row_cells p j ≡ row_cells q j
unfolding row_cells
rows_alike p q j each = mapped_alike (λ i. cell_of p (j * 60 + i)) (λ i. cell_of q (j * 60 + i)) 60 0 (λ i low high. each i (omega arith))

pub cells_of_alike : (p q : Planes) (j i : ℕ) → row_cells p j ≡ row_cells q j → i < 60 → cell_of p (j * 60 + i) ≡ cell_of q (j * 60 + i)
cells_of_alike p q j i same inside = sym (cell_of_row p j i inside) ∙ ap (λ (cs : List Cell). get_or cs i black) same ∙ cell_of_row q j i inside

-- pictures with the same rows are the same
pub same_pictures : (p q : Planes) → IsWhole p → IsWhole q → ((j : ℕ) → j < 36 → row_cells p j ≡ row_cells q j) → p ≡ q
same_pictures p q whole whole' rows =
    let each : (c : ℕ) → c < 2160 → cell_of p c ≡ cell_of q c = λ c inside.
    ap (cell_of p) (place_of c) ∙ cells_of_alike p q (c / 60) (c % 60) (rows (c / 60) (omega arith)) (omega arith) ∙ ap (cell_of q) (sym (place_of c)) in
    is_picture (cell_of q) p whole each ∙ sym (is_picture (cell_of q) q whole' (λ c inside. refl))
