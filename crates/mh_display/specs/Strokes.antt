-- The steps of a drawn line, one by one.
use Rattle.std.specs.Prelude.{◌≡◌, ℕ, ◌^◌, ◌<◌, ◌≤◌, nat_eq, nat_le, nat_lt, Bool, false, ◌&&◌, if◌then◌else◌, Option, Some, None, IfSome, ℤ, pos, negsuc, ◌-ℤ◌, int_le}
use Rattle.std.specs.Int.RustNames.{unsigned_abs}
use Rattle.mh_model.specs.declared.picture.drawing.Point.{Point}
use Rattle.mh_model.specs.declared.picture.drawing.Stroke.{Stroke}
use Rattle.mh_model.specs.Boxes.{IsNear, column_of, row_of}
use Rattle.mh_model.specs.Drawn.{across, down, goes_through}
use Rattle.mh_model.specs.Looks.{Paint}

-- the one number of steps that can come to the cell: in the longer direction each step goes on by one cell
abbrev pub step_to : Stroke → ℤ → ℤ → ℕ
step_to s column row =
    if nat_le (unsigned_abs (across s)) (unsigned_abs (down s)) then unsigned_abs (row -ℤ s.first.row)
    else unsigned_abs (column -ℤ s.first.column)

-- it is at least as long downwards as it is to the side, so no row has two of its cells; else no column has
abbrev pub is_steep : Stroke → Bool
is_steep s = nat_le (unsigned_abs (across s)) (unsigned_abs (down s))

-- the number is one of these two, or lies between them
abbrev pub lies_between : ℤ → ℤ → ℤ → Bool
lies_between a b z = if int_le a b then (int_le a z && int_le z b) else (int_le b z && int_le z a)

-- the number, if it is one from the first up to the last
abbrev pub place_between : ℕ → ℕ → ℤ → Option ℕ
place_between first last (pos n) = if nat_le first n && nat_lt n last then Some n else None
place_between first last (negsuc n) = None

-- this place is it
abbrev pub is_place : Option ℕ → ℕ → Bool
is_place None k = false
is_place (Some n) k = nat_eq n k

-- of the places from the first up to the last, the test holds of this one alone, or of none
pub record IsOnly (p : ℕ → Bool) (first last : ℕ) (found : Option ℕ) : Type 0 where
  pub each : (k : ℕ) → first ≤ k → k < last → p k ≡ is_place found k
  pub inside : IfSome found (λ k. (first ≤ k) × (k < last))

-- the first end lies on the plane or near it, and the last one near the first
pub record IsShort (s : Stroke) : Type 0 where
  pub column : IsNear (2 ^ 33) s.first.column
  pub row : IsNear (2 ^ 33) s.first.row
  pub across : IsNear 0xFFFF (across s)
  pub down : IsNear 0xFFFF (down s)

-- a point whose offsets are of 16 bits
pub record IsInReach (p : Point) : Type 0 where
  pub x : IsNear 0x8000 p.x
  pub y : IsNear 0x8000 p.y

-- what a drawn line of this colour paints into a cell
abbrev pub stroke_paint : Stroke → Option ℕ → ℕ → Paint
stroke_paint s line c = record { back = if goes_through s (column_of c) (row_of c) then line else None; mark = None }
