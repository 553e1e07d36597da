-- The picture: 60 by 36 cells in three planes, each cell found by looking down the display stack.
use Rattle.std.specs.Prelude.{ℕ, ◌==◌, Bool, ◌&&◌, if◌then◌else◌, List, [], ◌∷◌, map, reverse, Option, Some, None, slice_index}
use Rattle.std.specs.List.{range_with_len}
use Rattle.mh_base.specs.declared.obj_ref.ObjRef.{ObjRef}
use Rattle.mh_group.specs.Table.{is_visible}
use Rattle.mh_model.specs.declared.object.Object.{Object}
use Rattle.mh_model.specs.declared.picture.cell.Cell.{Cell}
use Rattle.mh_model.specs.Looks.{Paint, nothing, paint_in}
use Rattle.mh_model.specs.Planes.{Planes}
use Rattle.mh_model.specs.Service.{object_at}
use Rattle.mh_model.specs.State.{State, all}

-- a plane, made number by number
unfoldable pub plane : (ℕ → ℕ) → List ℕ
plane f = map f (range_with_len 0 2160)

-- the picture with these cells
abbrev pub picture_of : (ℕ → Cell) → Planes
picture_of f = record { scalars = plane (λ c. (f c).scalar); fores = plane (λ c. (f c).fore); backs = plane (λ c. (f c).back) }

-- a space, black on black
abbrev pub black : Cell
black = record { scalar = 32; fore = 0; back = 0 }

abbrev pub cell_of : Planes → ℕ → Cell
cell_of p c = record { scalar = slice_index p.scalars c; fore = slice_index p.fores c; back = slice_index p.backs c }

-- Looking down, the topmost first.

abbrev pub back_or : Option ℕ → ℕ → ℕ
back_or None below = below
back_or (Some b) below = b

-- the colour behind a cell is that of the topmost that gives one, else black
abbrev pub back_under : List Paint → ℕ
back_under [] = 0
back_under (p ∷ below) = back_or p.back (back_under below)

-- where only a colour is painted there is a black space
abbrev pub mark_or : Option (ℕ × ℕ) → Option ℕ → ℕ × ℕ → ℕ × ℕ
mark_or (Some m) back below = m
mark_or None (Some b) below = (32, 0)
mark_or None None below = below

-- the character of a cell, with its colour, is that of the topmost that paints the cell at all
abbrev pub mark_under : List Paint → ℕ × ℕ
mark_under [] = (32, 0)
mark_under (p ∷ below) = mark_or p.mark p.back (mark_under below)

abbrev pub cell_under : List Paint → Cell
cell_under ps = record { scalar = (mark_under ps).0; fore = (mark_under ps).1; back = back_under ps }

-- only visibles that are available and running are painted
abbrev pub is_seen : Object → Bool
is_seen o = is_visible o.fixed.class && o.body.available && o.body.running

abbrev pub painted : ℕ → Option Object → Paint
painted c None = nothing
painted c (Some o) = if is_seen o then paint_in o c else nothing

-- what is painted into a cell for a reference
abbrev pub paint_at : List Object → ℕ → ObjRef → Paint
paint_at os c r = painted c (object_at r os)

-- a cell, looking down a display stack
abbrev pub cell_at : List Object → List ObjRef → ℕ → Cell
cell_at os stack c = cell_under (map (paint_at os c) (reverse stack))

-- the picture of these objects on this display stack
abbrev pub picture : List Object → List ObjRef → Planes
picture os stack = picture_of (cell_at os stack)

-- the picture of a state
abbrev pub looked : State → Planes
looked s = picture (all s.objects) s.stack

-- the picture that it shows: while the screen is locked, the frozen one
abbrev pub shown : State → Planes
shown s = if s.locks == 0 then looked s else s.frozen
