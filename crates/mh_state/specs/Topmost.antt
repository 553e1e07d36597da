-- The topmost that paints is what the picture shows.
use Rattle.std.specs.Prelude.{◌≡◌, ℕ, ◌<◌, ◌==◌, List, [], ◌∷◌, ◌++◌, reverse, Option, Some, None}
use Rattle.mh_base.specs.declared.obj_ref.ObjRef.{ObjRef}
use Rattle.mh_model.specs.declared.object.Object.{Object}
use Rattle.mh_model.specs.declared.picture.cell.Cell.{Cell}
use Rattle.mh_model.specs.Looks.{nothing}
use Rattle.mh_model.specs.Picture.{cell_of, paint_at, shown}
use Rattle.mh_model.specs.State.{State, all}
use Rattle.mh_state.specs.Cell.{own_mark}

-- none of these paints anything into the cell
abbrev pub PaintNothing : List Object → ℕ → List ObjRef → Type 0
PaintNothing os c [] = Unit {0}
PaintNothing os c (r ∷ rs) = (paint_at os c r ≡ nothing) × PaintNothing os c rs

-- Of a screen that is not locked: where nothing above an object of the display stack paints a cell, and it does, the character of the
-- cell in the picture is the object's, or a black space if it paints a colour alone; and the colour behind it is its, if it paints one.
abbrev pub TopmostIsShown : Type 0
TopmostIsShown =
    (s : State) (c : ℕ) (above below : List ObjRef) (r : ObjRef) → c < 2160 → s.locks ≡ 0
    → reverse s.stack ≡ above ++ r ∷ below → PaintNothing (all s.objects) c above →
    ((m : ℕ × ℕ) → own_mark (paint_at (all s.objects) c r).mark (paint_at (all s.objects) c r).back ≡ Some m
    → ((cell_of (shown s) c).scalar ≡ m.0) × ((cell_of (shown s) c).fore ≡ m.1))
    × ((b : ℕ) → (paint_at (all s.objects) c r).back ≡ Some b → (cell_of (shown s) c).back ≡ b)
