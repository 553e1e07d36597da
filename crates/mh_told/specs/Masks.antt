-- What is told of the cells of a row by the bits of one number.
use Rattle.std.specs.Prelude.{◌≡◌, ℕ, ◌+◌, ◌-◌, ◌*◌, ◌<◌, ◌≤◌, ◌==◌, Bool, not, ◌||◌, if◌then◌else◌, List, nat_eq, slice_index}
use Rattle.std.specs.Int.{bit_at}
use Rattle.std.specs.List.{list_all}
use Rattle.mh_model.specs.Planes.{Planes}
use Rattle.mh_told.specs.Frame.{is_space, shown_length}
use Rattle.mh_told.specs.Stretch.{have_colours}

-- a bit that tells this
abbrev pub flag : Bool → ℕ
flag b = if b then 1 else 0

-- the lowest 60 bits tell of each column, and there are no others
pub record Tells (p : ℕ → Bool) (bits : ℕ) : Type 0 where
  pub each : (k : ℕ) → k < 60 → bit_at bits k ≡ flag (p k)
  pub above : (k : ℕ) → 60 ≤ k → bit_at bits k ≡ 0

-- the lowest eight bits tell of the eight places from this one on, and there are no others
pub record TellsEight (p : ℕ → Bool) (at bits : ℕ) : Type 0 where
  pub each : (k : ℕ) → k < 8 → bit_at bits k ≡ flag (p (at + k))
  pub small : bits < 256

-- the number at a place is another than the one behind it
abbrev pub changes : List ℕ → ℕ → Bool
changes xs k = not (slice_index xs k == slice_index xs (k + 1))

-- the character at a place is no space
abbrev pub is_written : List ℕ → ℕ → Bool
is_written scalars k = not (is_space (slice_index scalars k))

-- the cell in this column of a row is the last one of the row, or the next one has other colours
abbrev pub is_last : Planes → ℕ → ℕ → Bool
is_last p j column = column == 59 || not (have_colours p (j * 60 + column) (j * 60 + (column + 1)))

-- the number is the place behind the highest bit
pub record IsBehindBits (bits behind : ℕ) : Type 0 where
  pub within : behind ≤ 64
  pub above : (k : ℕ) → behind ≤ k → bit_at bits k ≡ 0
  pub highest : 0 < behind → bit_at bits (behind - 1) ≡ 1

-- so many characters are printed, and where there are none, all are spaces
pub record IsShown (cs : List ℕ) (n : ℕ) : Type 0 where
  pub shown : n ≡ shown_length cs
  pub blank : nat_eq n 0 ≡ list_all is_space cs
