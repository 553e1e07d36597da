-- A row differs in its cells exactly where it does in one of its planes.
use Rattle.std.specs.Prelude.{◌≡◌, ℕ, ◌+◌, ◌*◌, ◌-◌, ◌<◌, ◌≤◌, ◌==◌, ◌&&◌, ◌||◌, Bool, true, false, not, if◌then◌else◌, List, [], ◌∷◌, ◌++◌, length, drop, slice_index, slice_range, refl}
use Rattle.std.specs.Bool.{Decides}
use Rattle.std.specs.List.{flat_map, range_with_len}
use Rattle.std.proofs.Common.{ap, ◌∙◌, sym, subst, arith, get_or, append_assoc}
use Rattle.std.proofs.lemmas.Slice.Eq.{bytes_eq-Decides}
use Rattle.std.proofs.lemmas.Bool.{eqb-true}
use Rattle.std.proofs.lemmas.Bool.Decides.{Decides-eqb, same_from_decides}
use Rattle.std.proofs.lemmas.List.{ext_get_or, get_or-drop, get_or-take, places}
use Rattle.mh_model.specs.declared.picture.cell.Cell.{Cell}
use Rattle.mh_model.specs.Planes.{Planes, IsWhole}
use Rattle.mh_model.specs.Picture.{cell_of, black}
use Rattle.mh_display.specs.Rows.{same_row, same_stretch}
use Rattle.mh_told.specs.Frame.{row_cells, same_cell, differ, row_change, row_line}
use Rattle.mh_told.proofs.FrameLemmas.{rows_more, row_cells_length, cell_of_row}

-- The numbers of a plane in a row.

number_at : (xs : List ℕ) (a k : ℕ) → k < 60 → get_or (slice_range xs a (a + 60)) k 0 ≡ slice_index xs (a + k)
number_at xs a k inside =
    let wide : k < (a + 60) - a = omega (arith, inside) in
    get_or-take ((a + 60) - a) (drop a xs) k 0 wide ∙ get_or-drop a xs k 0

numbers_are : (xs ys : List ℕ) (a k : ℕ) → k < 60 → same_stretch xs ys a ≡ true → slice_index xs (a + k) ≡ slice_index ys (a + k)
numbers_are xs ys a k inside e =
    let same : slice_range xs a (a + 60) ≡ slice_range ys a (a + 60) = (bytes_eq-Decides (slice_range xs a (a + 60)) (slice_range ys a (a + 60))).0 e in
    sym (number_at xs a k inside) ∙ ap (λ (l : List ℕ). get_or l k 0) same ∙ number_at ys a k inside

length-stretch : (xs : List ℕ) (a : ℕ) → a + 60 ≤ length xs → length (slice_range xs a (a + 60)) ≡ 60
length-stretch xs a high = grind (arith, places, high)

are_numbers : (xs ys : List ℕ) (a : ℕ) → a + 60 ≤ length xs → a + 60 ≤ length ys → ((k : ℕ) → k < 60 → slice_index xs (a + k) ≡ slice_index ys (a + k)) → same_stretch xs ys a ≡ true
are_numbers xs ys a long wide each =
    let left : length (slice_range xs a (a + 60)) ≡ 60 = length-stretch xs a long in
    let right : length (slice_range ys a (a + 60)) ≡ 60 = length-stretch ys a wide in
    (bytes_eq-Decides (slice_range xs a (a + 60)) (slice_range ys a (a + 60))).1 (ext_get_or 0 (slice_range xs a (a + 60)) (slice_range ys a (a + 60)) (left ∙ sym right)
    (λ k less. let inside : k < 60 = omega (arith, less, left) in number_at xs a k inside ∙ each k inside ∙ sym (number_at ys a k inside)))

-- The cells of a row.

three : (a b c : Bool) → a ≡ true → b ≡ true → c ≡ true → (a && b && c) ≡ true
three a b c e f g = rw (e, f, g) refl

three_parts : (a b c : Bool) → (a && b && c) ≡ true → (a ≡ true) × (b ≡ true) × (c ≡ true)
three_parts true true true e = (refl, refl, refl)
three_parts true true false e = cc
three_parts true false c e = cc
three_parts false b c e = cc

cell_itself : (c : Cell) → same_cell c c ≡ true
cell_itself c =
    three (c.scalar == c.scalar) (c.fore == c.fore) (c.back == c.back) ((Decides-eqb c.scalar c.scalar).1 refl) ((Decides-eqb c.fore c.fore).1 refl) ((Decides-eqb c.back c.back).1 refl)

row_itself : (cs : List Cell) → not (differ cs cs) ≡ true
row_itself [] = refl
row_itself (c ∷ cs) = rw (cell_itself c) (row_itself cs)

made : (s t f g b h : ℕ) → s ≡ t → f ≡ g → b ≡ h → ◌≡◌ {A = Cell} (record { scalar = s; fore = f; back = b }) (record { scalar = t; fore = g; back = h })
made s t f g b h p q r = rw (p, q, r) refl

are_cells : (c d : Cell) → same_cell c d ≡ true → c ≡ d
are_cells c d e =
    let parts = three_parts (c.scalar == d.scalar) (c.fore == d.fore) (c.back == d.back) e in
    made c.scalar d.scalar c.fore d.fore c.back d.back (eqb-true c.scalar d.scalar parts.0) (eqb-true c.fore d.fore parts.1) (eqb-true c.back d.back parts.2)

parts : (a b : Bool) → not (not a || b) ≡ true → (a ≡ true) × (not b ≡ true)
parts true true e = cc
parts true false e = (refl, refl)
parts false b e = cc

are_rows : (cs ds : List Cell) → length cs ≡ length ds → not (differ cs ds) ≡ true → cs ≡ ds
are_rows [] [] n e = refl
are_rows [] (d ∷ ds) n e = absurd (omega (arith, n))
are_rows (c ∷ cs) [] n e = absurd (omega (arith, n))
are_rows (c ∷ cs) (d ∷ ds) n e =
    let both : (same_cell c d ≡ true) × (not (differ cs ds) ≡ true) = parts (same_cell c d) (differ cs ds) e in
    ap (λ (x : Cell). x ∷ cs) (are_cells c d both.0) ∙ ap (λ (xs : List Cell). d ∷ xs) (are_rows cs ds (omega (arith, n)) both.1)

rows_differ : (cs ds : List Cell) → length cs ≡ length ds → Decides (not (differ cs ds)) (cs ≡ ds)
rows_differ cs ds n = (are_rows cs ds n, λ e. subst (λ (xs : List Cell). not (differ cs xs) ≡ true) e (row_itself cs))

-- Both.

cell_is : (p q : Planes) (j k : ℕ) → k < 60 → same_row p q j ≡ true → cell_of p (j * 60 + k) ≡ cell_of q (j * 60 + k)
cell_is p q j k inside e =
    let all = three_parts (same_stretch p.scalars q.scalars (60 * j)) (same_stretch p.fores q.fores (60 * j)) (same_stretch p.backs q.backs (60 * j)) e in
    let at : 60 * j + k ≡ j * 60 + k = omega arith in
    ap (cell_of p) (sym at)
    ∙ made (slice_index p.scalars (60 * j + k)) (slice_index q.scalars (60 * j + k)) (slice_index p.fores (60 * j + k)) (slice_index q.fores (60 * j + k)) (slice_index p.backs (60 * j + k)) (slice_index q.backs (60 * j + k))
    (numbers_are p.scalars q.scalars (60 * j) k inside all.0) (numbers_are p.fores q.fores (60 * j) k inside all.1) (numbers_are p.backs q.backs (60 * j) k inside all.2)
    ∙ ap (cell_of q) at

is_cell : (p q : Planes) (j k : ℕ) → k < 60 → row_cells p j ≡ row_cells q j → cell_of p (60 * j + k) ≡ cell_of q (60 * j + k)
is_cell p q j k inside e =
    let at : 60 * j + k ≡ j * 60 + k = omega arith in
    ap (cell_of p) at ∙ sym (cell_of_row p j k inside) ∙ ap (λ (cs : List Cell). get_or cs k black) e ∙ cell_of_row q j k inside ∙ ap (cell_of q) (sym at)

same_rows : (p q : Planes) (j : ℕ) → IsWhole p → IsWhole q → j < 36 → Decides (same_row p q j) (row_cells p j ≡ row_cells q j)
same_rows p q j left right row = (to, from)
  where
    to : same_row p q j ≡ true → row_cells p j ≡ row_cells q j
    to e = ext_get_or black (row_cells p j) (row_cells q j) (row_cells_length p j ∙ sym (row_cells_length q j))
        (λ k less. let inside : k < 60 = omega (arith, less, row_cells_length p j) in cell_of_row p j k inside ∙ cell_is p q j k inside e ∙ sym (cell_of_row q j k inside))

    from : row_cells p j ≡ row_cells q j → same_row p q j ≡ true
    from e = three (same_stretch p.scalars q.scalars (60 * j)) (same_stretch p.fores q.fores (60 * j)) (same_stretch p.backs q.backs (60 * j))
        (are_numbers p.scalars q.scalars (60 * j) (omega (arith, left.scalars, row)) (omega (arith, right.scalars, row)) (λ k inside. ap (λ (c : Cell). c.scalar) (is_cell p q j k inside e)))
        (are_numbers p.fores q.fores (60 * j) (omega (arith, left.fores, row)) (omega (arith, right.fores, row)) (λ k inside. ap (λ (c : Cell). c.fore) (is_cell p q j k inside e)))
        (are_numbers p.backs q.backs (60 * j) (omega (arith, left.backs, row)) (omega (arith, right.backs, row)) (λ k inside. ap (λ (c : Cell). c.back) (is_cell p q j k inside e)))

not_not : (b : Bool) → not (not b) ≡ b
not_not true = refl
not_not false = refl

-- the line of a row that differs in one of its planes
change_by_planes : (p q : Planes) (j : ℕ) → IsWhole p → IsWhole q → j < 36 → row_change p q j ≡ (if not (same_row p q j) then row_line j (row_cells q j) else [])
unfolding row_change
change_by_planes p q j left right row =
    let lengths : length (row_cells p j) ≡ length (row_cells q j) = row_cells_length p j ∙ sym (row_cells_length q j) in
    let same : same_row p q j ≡ not (differ (row_cells p j) (row_cells q j)) = same_from_decides (same_row p q j) (not (differ (row_cells p j) (row_cells q j))) (same_rows p q j left right row) (rows_differ (row_cells p j) (row_cells q j) lengths) in
    sym (ap (λ (b : Bool). if b then row_line j (row_cells q j) else []) (ap not same ∙ not_not (differ (row_cells p j) (row_cells q j))))

-- the rows of a frame, and one more, which is told by its planes
pub one_more : (p q : Planes) (j : ℕ) (b : Bool) (front text next : List ℕ) → IsWhole p → IsWhole q → j < 36 → b ≡ not (same_row p q j) → next ≡ text ++ (if b then row_line j (row_cells q j) else [])
    → text ≡ front ++ flat_map (row_change p q) (range_with_len 0 j) → next ≡ front ++ flat_map (row_change p q) (range_with_len 0 (j + 1))
one_more p q j b front text next left right row told put so =
    let line : (if b then row_line j (row_cells q j) else []) ≡ row_change p q j = ap (λ (t : Bool). if t then row_line j (row_cells q j) else []) told ∙ sym (change_by_planes p q j left right row) in
    put ∙ ap (λ (xs : List ℕ). text ++ xs) line ∙ ap (λ (xs : List ℕ). xs ++ row_change p q j) so
    ∙ append_assoc front (flat_map (row_change p q) (range_with_len 0 j)) (row_change p q j)
    ∙ ap (λ (xs : List ℕ). front ++ xs) (sym (rows_more (row_change p q) j))
