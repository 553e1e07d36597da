-- Windows, against the boxes that they are made of.
use Rattle.std.specs.Prelude.{◌≡◌, ℕ, ◌/◌, ◌%◌, ◌<◌, ◌≤◌, Bool, ◌&&◌, nat_lt, nat_le}
use Rattle.mh_base.specs.declared.area.Area.{Area}
use Rattle.mh_model.specs.Boxes.{covers, x_of, y_of}
use Rattle.mh_display.specs.declared.window.Window.{Window}

-- the window has the cell
unfoldable pub has : Window → ℕ → Bool
has w c = (nat_le w.left (c % 60) && nat_lt (c % 60) w.right) && (nat_le w.top (c / 60) && nat_lt (c / 60) w.bottom)

-- the window has those cells of the picture that the box covers
pub record IsOf (a : Area) (w : Window) : Type 0 where
  pub bottom : w.bottom ≤ 36
  pub right : w.right ≤ 60
  pub covered : (c : ℕ) → c < 2160 → has w c ≡ covers a (x_of c) (y_of c)

-- the window has the cells of both
pub record IsMeet (a b w : Window) : Type 0 where
  pub bottom : w.bottom ≤ a.bottom
  pub right : w.right ≤ a.right
  pub both : (c : ℕ) → has w c ≡ (has a c && has b c)
