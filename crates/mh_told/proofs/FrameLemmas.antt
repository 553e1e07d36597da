-- The rows of a frame, one more at a time.
use Rattle.std.specs.Prelude.{◌≡◌, ℕ, ◌+◌, ◌*◌, ◌<◌, length, List, ◌++◌, ◌∷◌, [], map, refl}
use Rattle.std.specs.List.{flat_map, range_with_len}
use Rattle.std.proofs.Common.{ap, ◌∙◌, arith, get_or}
use Rattle.std.proofs.lemmas.List.Concat.{flat_map-append}
use Rattle.std.proofs.lemmas.List.FromFn.{map-range_with_len_more, length-map-range_with_len, get_or-map-range_with_len}
use Rattle.mh_model.specs.Planes.{Planes}
use Rattle.mh_model.specs.Picture.{cell_of, black}
use Rattle.mh_told.specs.Frame.{row_cells}

mapped : (f : ℕ → List ℕ) (xs : List ℕ) → flat_map f xs ≡ flat_map (λ x. x) (map f xs)
mapped f [] = refl
mapped f (x ∷ xs) = ap (λ (ys : List ℕ). f x ++ ys) (mapped f xs)

nothing_behind : (xs : List ℕ) → xs ++ [] ≡ xs
nothing_behind [] = refl
nothing_behind (x ∷ xs) = ap (λ (ys : List ℕ). x ∷ ys) (nothing_behind xs)

-- what the first rows and one more give
pub rows_more : (f : ℕ → List ℕ) (n : ℕ) → flat_map f (range_with_len 0 (n + 1)) ≡ flat_map f (range_with_len 0 n) ++ f n
rows_more f n =
    let there : 0 + n ≡ n = omega arith in
    let more : map f (range_with_len 0 (n + 1)) ≡ map f (range_with_len 0 n) ++ f n ∷ [] = map-range_with_len_more f 0 n n there in
    let parts : flat_map (λ x. x) (map f (range_with_len 0 n) ++ f n ∷ []) ≡ flat_map (λ x. x) (map f (range_with_len 0 n)) ++ (f n ++ []) = flat_map-append (λ x. x) (map f (range_with_len 0 n)) (f n ∷ []) in
    mapped f (range_with_len 0 (n + 1)) ∙ ap (flat_map (λ x. x)) more ∙ parts ∙ rw (nothing_behind (f n), ← mapped f (range_with_len 0 n)) refl

-- a row has 60 cells
pub row_cells_length : (p : Planes) (j : ℕ) → length (row_cells p j) ≡ 60
unfolding row_cells
row_cells_length p j = length-map-range_with_len (λ i. cell_of p (j * 60 + i)) 0 60

-- the cell of a column
pub cell_of_row : (p : Planes) (j column : ℕ) → column < 60 → get_or (row_cells p j) column black ≡ cell_of p (j * 60 + column)
unfolding row_cells
cell_of_row p j column inside = get_or-map-range_with_len (λ i. cell_of p (j * 60 + i)) 0 60 column column black inside (omega arith)
