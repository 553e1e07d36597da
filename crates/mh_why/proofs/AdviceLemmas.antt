-- The cells of a row, as an index finds them.
use Rattle.std.specs.Prelude.{◌≡◌, ℕ, zero, suc, List, [], ◌∷◌, refl}
use Rattle.std.specs.Borrow.{Bor}
use Rattle.std.proofs.Common.{get_or}
use Rattle.mh_why.specs.Advice.{cell, cells}

pub cell_at : (row : List (Bor (List ℕ))) (n : ℕ) (none : Bor (List ℕ)) → none.now ≡ [] → (get_or row n none).now ≡ cell (cells row) n
cell_at [] n none empty = empty
cell_at (x ∷ xs) zero none empty = refl
cell_at (x ∷ xs) (suc n) none empty = cell_at xs n none empty
