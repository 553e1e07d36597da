-- Painting from the top of the display stack down, cell by cell: what is settled of a cell, and what is still
-- sought.
use Rattle.std.specs.Prelude.{◌≡◌, ◌≢◌, ℕ, Bool, true, false, ◌/◌, ◌%◌, ◌<◌, ◌≤◌, nat_eq, nat_lt, ◌&&◌, if◌then◌else◌, List, [], map, Option, Some, None, length}
use Rattle.mh_base.specs.declared.obj_ref.ObjRef.{ObjRef}
use Rattle.mh_model.specs.declared.picture.cell.Cell.{Cell}
use Rattle.mh_model.specs.declared.object.Object.{Object}
use Rattle.mh_model.specs.Looks.{Paint}
use Rattle.mh_model.specs.Picture.{cell_of, back_under, cell_under, paint_at}
use Rattle.mh_model.specs.Planes.{IsWhole}
use Rattle.mh_display.specs.declared.marked.Marked.{Marked}
use Rattle.mh_display.specs.declared.window.Window.{Window}
use Rattle.mh_display.specs.Surface.{AreInRows, IsStale, Surface, is_in}
use Rattle.mh_display.specs.Windows.{has}

-- a cell, whether something of it is still sought, and whether its character is, too
abbrev pub marked_at : Surface → ℕ → Marked
marked_at s c = record { stale = is_in s.marks c; bare = is_in s.bare c; cell = cell_of s.planes c }

-- Painting under what is settled already.

-- a colour settles what is behind a cell
abbrev pub put_back : Option ℕ → Marked → Marked
put_back None k = k
put_back (Some b) k = record { stale = false; bare = false; cell = record { scalar = k.cell.scalar; fore = k.cell.fore; back = b } }

-- a character settles it for itself, and a colour alone is behind a black space
abbrev pub put_mark : Option (ℕ × ℕ) → Option ℕ → Marked → Marked
put_mark (Some m) back k = put_back back (record { stale = true; bare = false; cell = record { scalar = m.0; fore = m.1; back = k.cell.back } })
put_mark None (Some b) k = record { stale = false; bare = false; cell = record { scalar = 32; fore = 0; back = b } }
put_mark None None k = k

abbrev pub put : Paint → Marked → Marked
put p k = if k.stale then (if k.bare then put_mark p.mark p.back k else put_back p.back k) else k

-- how a cell looks when these are still to be painted, the topmost first
abbrev pub seen : Marked → List Paint → Cell
seen k ps =
    if k.stale
    then (if k.bare then cell_under ps else record { scalar = k.cell.scalar; fore = k.cell.fore; back = back_under ps })
    else k.cell

-- there is nothing below
abbrev pub settled : Marked → Marked
settled k = record { stale = false; bare = k.bare; cell = seen k [] }

-- all of what is stale is sought anew
abbrev pub renewed : Marked → Marked
renewed k = record { stale = k.stale; bare = k.stale; cell = k.cell }

-- Changing cells. What is known of a cell is a function of its number.

-- one cell is changed
pub record IsSet {X : Type 0} (old new : ℕ → X) (at : ℕ) (x : X) : Type 0 where
  pub here : new at ≡ x
  pub others : (c : ℕ) → c ≢ at → new c ≡ old c

-- the cells from the first up to the last are changed; the others are as before
pub record IsBetween {X : Type 0} (h : ℕ → X → X) (old new : ℕ → X) (first last : ℕ) : Type 0 where
  pub inside : (c : ℕ) → first ≤ c → c < last → new c ≡ h c (old c)
  pub before : (c : ℕ) → c < first → new c ≡ old c
  pub behind : (c : ℕ) → last ≤ c → new c ≡ old c

-- the cells of the window are changed in the rows up to this one
pub record IsAbove {X : Type 0} (h : ℕ → X → X) (w : Window) (old new : ℕ → X) (row : ℕ) : Type 0 where
  pub each : (c : ℕ) → c < 2160 → new c ≡ (if nat_lt (c / 60) row && has w c then h c (old c) else old c)

-- those in this column
pub record IsAcross {X : Type 0} (h : ℕ → X → X) (w : Window) (old new : ℕ → X) (column : ℕ) : Type 0 where
  pub each : (c : ℕ) → c < 2160 → new c ≡ (if nat_eq (c % 60) column && has w c then h c (old c) else old c)

-- those in the columns up to this one
pub record IsBeside {X : Type 0} (h : ℕ → X → X) (w : Window) (old new : ℕ → X) (column : ℕ) : Type 0 where
  pub each : (c : ℕ) → c < 2160 → new c ≡ (if nat_lt (c % 60) column && has w c then h c (old c) else old c)

-- the cells of the window are changed
pub record IsIn {X : Type 0} (h : ℕ → X → X) (w : Window) (old new : ℕ → X) : Type 0 where
  pub each : (c : ℕ) → c < 2160 → new c ≡ (if has w c then h c (old c) else old c)

-- all cells are changed
pub record IsAll {X : Type 0} (h : ℕ → X → X) (old new : ℕ → X) : Type 0 where
  pub each : (c : ℕ) → c < 2160 → new c ≡ h c (old c)

-- this is painted into the cells of the window
abbrev pub IsPaintedIn : (ℕ → Paint) → Window → Surface → Surface → Type 0
IsPaintedIn g w old new = IsIn (λ c. put (g c)) w (marked_at old) (marked_at new)

-- this is painted into each cell
abbrev pub IsPainted : (ℕ → Paint) → Surface → Surface → Type 0
IsPainted g old new = IsAll (λ c. put (g c)) (marked_at old) (marked_at new)

-- a screen has all its cells
pub record IsComplete (s : Surface) : Type 0 where
  pub planes : IsWhole s.planes
  pub marks : length s.marks ≡ 36
  pub bare : length s.bare ≡ 36

-- it is complete; where it is said so every cell is stale, and where a row has no bit here no cell of it is
pub record IsMarked (spoilt : Bool) (rows : ℕ) (s : Surface) : Type 0 where
  pub whole : IsComplete s
  pub stale : spoilt ≡ true → IsStale s.marks
  pub within : AreInRows rows s.marks

-- what was sought among these references, the topmost first, is now sought among those that are left
pub record IsDown (os : List Object) (rs left : List ObjRef) (old new : Surface) : Type 0 where
  pub each : (c : ℕ) → c < 2160 → seen (marked_at new c) (map (paint_at os c) left) ≡ seen (marked_at old c) (map (paint_at os c) rs)
