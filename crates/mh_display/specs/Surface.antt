-- A picture that is kept, and which of its cells are still to be painted.
use Rattle.std.specs.Prelude.{◌≡◌, ℕ, ◌<◌, ◌==◌, ◌/◌, ◌%◌, Bool, true, false, List, Option, slice_index}
use Rattle.std.specs.Int.{bit_at}
use Rattle.mh_base.specs.declared.obj_ref.ObjRef.{ObjRef}
use Rattle.mh_model.specs.declared.object.Object.{Object}
use Rattle.mh_model.specs.Looks.{nothing}
use Rattle.mh_model.specs.Picture.{cell_of, cell_at, painted}
use Rattle.mh_model.specs.Planes.{Planes}

-- a bit for each cell, a number for each row: of those that are to be painted, and of those whose character is
-- still sought while they are
pub record Surface : Type 0 where
  pub planes : Planes
  pub marks : List ℕ
  pub bare : List ℕ

-- the rows have the bit of the cell
unfoldable pub is_in : List ℕ → ℕ → Bool
is_in rows c = bit_at (slice_index rows (c / 60)) (c % 60) == 1

abbrev pub is_stale : List ℕ → ℕ → Bool
is_stale marks c = is_in marks c

-- no cell is left to be painted
abbrev pub IsClean : List ℕ → Type 0
IsClean marks = (c : ℕ) → c < 2160 → is_stale marks c ≡ false

-- a row that has no bit in this number has no cell that is left to be painted
abbrev pub AreInRows : ℕ → List ℕ → Type 0
AreInRows rows marks = (c : ℕ) → c < 2160 → bit_at rows (c / 60) ≡ 0 → is_stale marks c ≡ false

-- every cell is left to be painted
abbrev pub IsStale : List ℕ → Type 0
IsStale marks = (c : ℕ) → c < 2160 → is_stale marks c ≡ true

-- the cells that are not stale are those of these objects on this display stack
abbrev pub IsRight : List Object → List ObjRef → Surface → Type 0
IsRight os stack s = (c : ℕ) → c < 2160 → is_stale s.marks c ≡ false → cell_of s.planes c ≡ cell_at os stack c

-- a cell is stale now where it was, and wherever the object paints something
abbrev pub Spoils : Option Object → List ℕ → List ℕ → Type 0
Spoils o before after =
    (c : ℕ) → c < 2160 → is_stale after c ≡ false → (is_stale before c ≡ false) × (painted c o ≡ nothing)
