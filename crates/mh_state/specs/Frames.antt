-- Boxes with room for sums.
use Rattle.std.specs.Prelude.{ℕ, ◌^◌, ◌&&◌, if◌then◌else◌, Option, ℤ, pos, ◌≤ℤ◌}
use Rattle.mh_base.specs.declared.area.Area.{Area}
use Rattle.mh_model.specs.Boxes.{IsNear, is_edge}
use Rattle.mh_state.specs.declared.cell.frame.Frame.{Frame}
use Rattle.mh_state.specs.declared.cell.frame.Panel.{Panel}

-- a frame says the same as an area
abbrev pub area_of_frame : Frame → Area
area_of_frame f = record { x = f.x; y = f.y; width = f.width; height = f.height }

-- no sum of its numbers needs more than 64 bits
pub record IsFrame (f : Frame) : Type 0 where
  pub x : IsNear (2 ^ 33) f.x
  pub y : IsNear (2 ^ 33) f.y
  pub width : IsNear (2 ^ 33) f.width
  pub height : IsNear (2 ^ 33) f.height

-- a unit that lies on the screen, or not far from it
pub record IsOnScreen (unit : ℤ) : Type 0 where
  pub low : pos 0 ≤ℤ unit
  pub high : unit ≤ℤ pos 720

-- the colour at these units of a panel that covers them
abbrev pub colour_at : Panel → ℤ → ℤ → Option ℕ
colour_at p x y = if p.has_line && is_edge (area_of_frame p.frame) x y then p.line else p.fill
