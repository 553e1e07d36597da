-- Panels: boxes with an edge and an inside.
use Rattle.std.specs.Prelude.{ℕ, ◌^◌, Bool, not, ◌&&◌, if◌then◌else◌, Option, None, ℤ, pos, ◌≤ℤ◌}
use Rattle.std.specs.Option.{is_some}
use Rattle.mh_base.specs.declared.area.Area.{Area}
use Rattle.mh_model.specs.Boxes.{IsNear, box_back, is_edge, x_of, y_of}
use Rattle.mh_model.specs.Looks.{Paint}
use Rattle.mh_display.specs.declared.frame.Frame.{Frame}
use Rattle.mh_display.specs.declared.panel.Panel.{Panel}

-- a frame says the same as an area
abbrev pub area_of_frame : Frame → Area
area_of_frame f = record { x = f.x; y = f.y; width = f.width; height = f.height }

-- no sum of its numbers needs more than 64 bits
pub record IsFrame (f : Frame) : Type 0 where
  pub x : IsNear (2 ^ 33) f.x
  pub y : IsNear (2 ^ 33) f.y
  pub width : IsNear (2 ^ 33) f.width
  pub height : IsNear (2 ^ 33) f.height

-- a unit that lies on the screen, or not far from it
pub record IsOnScreen (unit : ℤ) : Type 0 where
  pub low : pos 0 ≤ℤ unit
  pub high : unit ≤ℤ pos 720

-- what a panel paints into a cell
abbrev pub panel_paint : Panel → ℕ → Paint
panel_paint p c = record { back = box_back (area_of_frame p.frame) p.has_line p.line p.fill (x_of c) (y_of c); mark = None }

-- it has no colour for its inside, and none for its edge if that has a line
abbrev pub is_clear : Panel → Bool
is_clear p = not (is_some p.fill) && not (p.has_line && is_some p.line)

-- the colour at these units of a panel that covers them
abbrev pub colour_at : Panel → ℤ → ℤ → Option ℕ
colour_at p x y = if p.has_line && is_edge (area_of_frame p.frame) x y then p.line else p.fill

-- what is painted into a cell that is covered
abbrev pub inner_paint : Panel → ℕ → Paint
inner_paint p c = record { back = colour_at p (x_of c) (y_of c); mark = None }
