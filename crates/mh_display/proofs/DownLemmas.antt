-- Looking down the display stack, visible by visible.
use Rattle.std.specs.Prelude.{◌≡◌, ℕ, ◌<◌, Bool, true, false, List, [], ◌∷◌, map, reverse, Option, refl}
use Rattle.std.proofs.Common.{ap, ◌∙◌, sym, subst}
use Rattle.mh_base.specs.declared.obj_ref.ObjRef.{ObjRef}
use Rattle.mh_model.specs.declared.picture.cell.Cell.{Cell}
use Rattle.mh_model.specs.declared.object.Object.{Object}
use Rattle.mh_model.specs.Looks.{Paint}
use Rattle.mh_model.specs.Picture.{cell_at, cell_under, paint_at, painted, picture}
use Rattle.mh_model.specs.Service.{object_at}
use Rattle.mh_model.proofs.PlanesLemmas.{is_picture}
use Rattle.mh_display.specs.declared.marked.Marked.{Marked}
use Rattle.mh_display.specs.Painting.{IsAll, IsComplete, IsDown, IsPainted, marked_at, put, renewed, seen, settled}
use Rattle.mh_display.specs.Surface.{Surface, IsClean, IsRight}
use Rattle.mh_display.proofs.CellLemmas.{seen_below}

-- all are left
pub all_left : (os : List Object) (rs : List ObjRef) (s : Surface) → IsDown os rs rs s s
all_left os rs s = record { each = λ c inside. refl }

-- the topmost of those that are left is painted
pub next_down : (os : List Object) (rs left below : List ObjRef) (top : ObjRef) (found : Option Object) (old mid new : Surface) → left ≡ top ∷ below → found ≡ object_at top os
    → IsDown os rs left old mid → IsPainted (λ c. painted c found) mid new → IsDown os rs below old new
next_down os rs left below top found old mid new here there done one = record {
  each = λ c in_it.
      seen_below (paint_at os c top) (marked_at mid c) (marked_at new c) (map (paint_at os c) below)
      (one.each c in_it ∙ ap (λ (o : Option Object). put (painted c o) (marked_at mid c)) there)
      ∙ ap (λ (qs : List ObjRef). seen (marked_at mid c) (map (paint_at os c) qs)) (sym here)
      ∙ done.each c in_it;
}

-- none is left
pub none_left : (os : List Object) (rs left : List ObjRef) (old new : Surface) → left ≡ [] → IsDown os rs left old new → IsDown os rs [] old new
none_left os rs left old new none done = subst (λ (qs : List ObjRef). IsDown os rs qs old new) none done

-- a cell that is right is what it is, whatever is below
seen_right : (k : Marked) (ps : List Paint) → k.stale ≡ false → seen k ps ≡ k.cell
seen_right k ps e = rw e refl

-- no cell is left
pub nothing_left : (os : List Object) (rs left : List ObjRef) (old new : Surface) → IsClean new.marks → IsDown os rs left old new → IsDown os rs [] old new
nothing_left os rs left old new clean done = record {
  each = λ c inside.
      seen_right (marked_at new c) [] (clean c inside) ∙ sym (seen_right (marked_at new c) (map (paint_at os c) left) (clean c inside)) ∙ done.each c inside;
}

-- what is found by looking down the whole stack is the picture
renewed_cases : (a b : Bool) (x : Cell) (ps : List Paint) → (a ≡ false → x ≡ cell_under ps) → seen (renewed (record { stale = a; bare = b; cell = x })) ps ≡ cell_under ps
renewed_cases true b x ps right = refl
renewed_cases false b x ps right = right refl

sought : (os : List Object) (stack : List ObjRef) (old : Surface) (c : ℕ) → c < 2160 → IsRight os stack old → seen (renewed (marked_at old c)) (map (paint_at os c) (reverse stack)) ≡ cell_at os stack c
sought os stack old c inside right = renewed_cases (marked_at old c).stale (marked_at old c).bare (marked_at old c).cell (map (paint_at os c) (reverse stack)) (right c inside)

pub repainted : (os : List Object) (stack : List ObjRef) (old mid down new : Surface) → IsRight os stack old → IsAll (λ c. renewed) (marked_at old) (marked_at mid)
    → IsDown os (reverse stack) [] mid down → IsAll (λ c. settled) (marked_at down) (marked_at new) → IsComplete new → new.planes ≡ picture os stack
repainted os stack old mid down new right first walk last whole =
    is_picture (cell_at os stack) new.planes whole.planes (λ c inside.
    ap (λ (k : Marked). k.cell) (last.each c inside)
    ∙ walk.each c inside
    ∙ ap (λ (k : Marked). seen k (map (paint_at os c) (reverse stack))) (first.each c inside)
    ∙ sought os stack old c inside right)

pub clean_after : (down new : Surface) → IsAll (λ c. settled) (marked_at down) (marked_at new) → IsClean new.marks
clean_after down new last c inside = ap (λ (k : Marked). k.stale) (last.each c inside)

pub right_already : (os : List Object) (stack : List ObjRef) (s : Surface) → IsRight os stack s → IsClean s.marks → IsComplete s → s.planes ≡ picture os stack
right_already os stack s right clean whole = is_picture (cell_at os stack) s.planes whole.planes (λ c inside. right c inside (clean c inside))
