-- Cells by their rows and columns, and what painting from the top down makes of them.
use Rattle.std.specs.Prelude.{◌≡◌, ℕ, ◌+◌, ◌*◌, ◌/◌, ◌%◌, ◌<◌, Bool, true, false, List, ◌∷◌, if◌then◌else◌, Option, Some, None, pos, refl}
use Rattle.std.proofs.Common.{ap, ◌∙◌, sym, arith}
use Rattle.mh_model.specs.declared.picture.cell.Cell.{Cell}
use Rattle.mh_model.specs.Looks.{Paint, nothing}
use Rattle.mh_display.specs.declared.marked.Marked.{Marked}
use Rattle.mh_display.specs.declared.panel.Panel.{Panel}
use Rattle.mh_display.specs.Painting.{put, seen}
use Rattle.mh_display.specs.Panels.{colour_at, inner_paint}

pub row_of_cell : (row column : ℕ) → column < 60 → (60 * row + column) / 60 ≡ row
row_of_cell row column h = grind arith

pub column_of_cell : (row column : ℕ) → column < 60 → (60 * row + column) % 60 ≡ column
column_of_cell row column h = grind arith

-- the cell in a row and a column
pub placed : (p : Panel) (row column : ℕ) → column < 60 → colour_at p (pos (12 * column)) (pos (16 * row)) ≡ (inner_paint p (60 * row + column)).back
placed p row column h =
    let down : (60 * row + column) / 60 ≡ row = row_of_cell row column h in
    let along : (60 * row + column) % 60 ≡ column = column_of_cell row column h in
    sym (λ i. colour_at p (pos (12 * along i)) (pos (16 * down i)))

-- Painting one thing more under what is settled.

put_cases : (back : Option ℕ) (mark : Option (ℕ × ℕ)) (a b : Bool) (x : Cell) (ps : List Paint)
    → seen (put (record { back = back; mark = mark }) (record { stale = a; bare = b; cell = x })) ps ≡ seen (record { stale = a; bare = b; cell = x }) (record { back = back; mark = mark } ∷ ps)
put_cases back mark false b x ps = refl
put_cases None mark true false x ps = refl
put_cases (Some n) mark true false x ps = refl
put_cases None None true true x ps = refl
put_cases (Some n) None true true x ps = refl
put_cases None (Some m) true true x ps = refl
put_cases (Some n) (Some m) true true x ps = refl

put_below : (p : Paint) (k : Marked) (ps : List Paint) → seen (put p k) ps ≡ seen k (p ∷ ps)
put_below p k ps = put_cases p.back p.mark k.stale k.bare k.cell ps

pub seen_below : (p : Paint) (k after : Marked) (ps : List Paint) → after ≡ put p k → seen after ps ≡ seen k (p ∷ ps)
seen_below p k after ps is = ap (λ (x : Marked). seen x ps) is ∙ put_below p k ps

-- nothing is painted
pub put_nothing : (k : Marked) → put nothing k ≡ k
put_nothing k = by k.stale k.bare
  where
    by : (a b : Bool) → (if a then (if b then k else k) else k) ≡ k
    by false b = refl
    by true true = refl
    by true false = refl
