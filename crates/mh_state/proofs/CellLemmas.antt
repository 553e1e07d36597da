-- Looking down at a cell, one object at a time.
use Rattle.std.specs.Prelude.{◌≡◌, ℕ, ◌+◌, ◌<◌, ◌≤◌, ◌==◌, Bool, true, if◌then◌else◌, List, [], ◌∷◌, ◌++◌, drop, length, map, Option, Some, None, refl}
use Rattle.std.specs.Option.{option_or, unwrap_or}
use Rattle.std.proofs.Common.{ap, sym, ◌∙◌, append_assoc, append-nil}
use Rattle.std.proofs.lemmas.List.{at_drop_all}
use Rattle.mh_base.specs.declared.obj_ref.ObjRef.{ObjRef}
use Rattle.mh_model.specs.declared.object.Object.{Object}
use Rattle.mh_model.specs.declared.picture.cell.Cell.{Cell}
use Rattle.mh_model.specs.Looks.{Paint, nothing}
use Rattle.mh_model.specs.Picture.{back_or, back_under, cell_at, cell_of, cell_under, looked, mark_or, mark_under, paint_at, shown}
use Rattle.mh_model.specs.Service.{object_at}
use Rattle.mh_model.specs.State.{State, all}
use Rattle.mh_model.proofs.PlanesLemmas.{cell_of-picture}
use Rattle.mh_state.specs.Cell.{down_text, looked_down, own_mark, place_text, settled_as, under}
use Rattle.mh_state.specs.Topmost.{PaintNothing, TopmostIsShown}

-- What is settled by looking down is what the picture has.

back_met : (a b : Option ℕ) (n : ℕ) → unwrap_or (option_or a b) n ≡ unwrap_or a (back_or b n)
back_met None None n = refl
back_met None (Some x) n = refl
back_met (Some y) b n = refl

mark_met : (a m : Option (ℕ × ℕ)) (b : Option ℕ) (n : ℕ × ℕ) → unwrap_or (option_or a (own_mark m b)) n ≡ unwrap_or a (mark_or m b n)
mark_met None None None n = refl
mark_met None None (Some x) n = refl
mark_met None (Some x) b n = refl
mark_met (Some y) m b n = refl

back_down : (os : List Object) (c : ℕ) (s : Paint) (rs : List ObjRef)
    → unwrap_or (looked_down os c s rs).back 0 ≡ unwrap_or s.back (back_under (map (paint_at os c) rs))
back_down os c s [] = refl
back_down os c s (r ∷ rs) =
    back_down os c (under s (paint_at os c r)) rs ∙ back_met s.back (paint_at os c r).back (back_under (map (paint_at os c) rs))

mark_down : (os : List Object) (c : ℕ) (s : Paint) (rs : List ObjRef)
    → unwrap_or (looked_down os c s rs).mark (32, 0) ≡ unwrap_or s.mark (mark_under (map (paint_at os c) rs))
mark_down os c s [] = refl
mark_down os c s (r ∷ rs) =
    mark_down os c (under s (paint_at os c r)) rs
    ∙ mark_met s.mark (paint_at os c r).mark (paint_at os c r).back (mark_under (map (paint_at os c) rs))

pub all_settled : (os : List Object) (c : ℕ) (rs : List ObjRef)
    → settled_as (looked_down os c nothing rs).mark (looked_down os c nothing rs).back ≡ cell_under (map (paint_at os c) rs)
all_settled os c rs = λ i. record {
  scalar = (mark_down os c nothing rs i).0;
  fore = (mark_down os c nothing rs i).1;
  back = back_down os c nothing rs i;
}

-- What is left to look at, from a place on, is looked at as all was from the beginning.

pub record IsDown (os : List Object) (c : ℕ) (rs : List ObjRef) (n : ℕ) (before text : List ℕ) (s : Paint) : Type 0 where
  pub told : text ++ down_text os c s (drop n rs) ≡ before ++ down_text os c nothing rs
  pub settled : looked_down os c s (drop n rs) ≡ looked_down os c nothing rs

pub next_down : (os : List Object) (c : ℕ) (rs : List ObjRef) (n : ℕ) (r : ObjRef) (before text new : List ℕ) (s after : Paint)
    → drop n rs ≡ r ∷ drop (n + 1) rs → new ≡ text ++ place_text s c r (paint_at os c r) (object_at r os) → after ≡ under s (paint_at os c r)
    → IsDown os c rs n before text s → IsDown os c rs (n + 1) before new after
next_down os c rs n r before text new s after here told settled so_far =
    let line : List ℕ = place_text s c r (paint_at os c r) (object_at r os) in
    let left : List ObjRef = drop (n + 1) rs in record {
      told =
          (λ i. told i ++ down_text os c (settled i) left)
          ∙ append_assoc text line (down_text os c (under s (paint_at os c r)) left)
          ∙ ap (λ (qs : List ObjRef). text ++ down_text os c s qs) (sym here) ∙ so_far.told;
      settled = ap (λ (p : Paint). looked_down os c p left) settled ∙ ap (λ (qs : List ObjRef). looked_down os c s qs) (sym here) ∙ so_far.settled;
    }

pub all_told : (os : List Object) (c : ℕ) (rs : List ObjRef) (n : ℕ) (before text : List ℕ) (s : Paint) → length rs ≤ n
    → IsDown os c rs n before text s → text ≡ before ++ down_text os c nothing rs
all_told os c rs n before text s over so_far =
    sym (append-nil text) ∙ sym (at_drop_all (λ (qs : List ObjRef). text ++ down_text os c s qs) rs n over) ∙ so_far.told

pub all_shown : (os : List Object) (c : ℕ) (rs : List ObjRef) (n : ℕ) (before text : List ℕ) (s : Paint) → length rs ≤ n
    → IsDown os c rs n before text s → settled_as s.mark s.back ≡ cell_under (map (paint_at os c) rs)
all_shown os c rs n before text s over so_far =
    ap (λ (p : Paint). settled_as p.mark p.back) (sym (at_drop_all (λ (qs : List ObjRef). looked_down os c s qs) rs n over) ∙ so_far.settled)
    ∙ all_settled os c rs

-- The topmost that paints.

mark_topmost : (os : List Object) (c : ℕ) (above below : List ObjRef) (r : ObjRef) (m : ℕ × ℕ) → PaintNothing os c above
    → own_mark (paint_at os c r).mark (paint_at os c r).back ≡ Some m → mark_under (map (paint_at os c) (above ++ r ∷ below)) ≡ m
mark_topmost os c [] below r m none own = from (paint_at os c r).mark (paint_at os c r).back (mark_under (map (paint_at os c) below)) own
  where
    from : (k : Option (ℕ × ℕ)) (b : Option ℕ) (n : ℕ × ℕ) → own_mark k b ≡ Some m → mark_or k b n ≡ m
    from (Some x) b n is = cc
    from None (Some y) n is = cc
    from None None n is = absurd cc
mark_topmost os c (q ∷ above) below r m none own =
    ap (λ (p : Paint). mark_or p.mark p.back (mark_under (map (paint_at os c) (above ++ r ∷ below)))) none.0
    ∙ mark_topmost os c above below r m none.1 own

back_topmost : (os : List Object) (c : ℕ) (above below : List ObjRef) (r : ObjRef) (b : ℕ) → PaintNothing os c above
    → (paint_at os c r).back ≡ Some b → back_under (map (paint_at os c) (above ++ r ∷ below)) ≡ b
back_topmost os c [] below r b none own = ap (λ (o : Option ℕ). back_or o (back_under (map (paint_at os c) below))) own
back_topmost os c (q ∷ above) below r b none own =
    ap (λ (p : Paint). back_or p.back (back_under (map (paint_at os c) (above ++ r ∷ below)))) none.0
    ∙ back_topmost os c above below r b none.1 own

-- the cell of the picture of a screen that is not locked
cell_shown : (s : State) (c : ℕ) → c < 2160 → s.locks ≡ 0 → cell_of (shown s) c ≡ cell_at (all s.objects) s.stack c
cell_shown s c inside free =
    let open_to : (s.locks == 0) ≡ true = ap (λ (n : ℕ). n == 0) free in
    ap (λ (b : Bool). cell_of (if b then looked s else s.frozen) c) open_to ∙ cell_of-picture (cell_at (all s.objects) s.stack) c inside

pub topmost_shown : TopmostIsShown
topmost_shown s c above below r inside free stacked none = (
  (λ m own.
      let there = mark_topmost (all s.objects) c above below r m none own in
      let whole = cell_shown s c inside free ∙ ap (λ (qs : List ObjRef). cell_under (map (paint_at (all s.objects) c) qs)) stacked in
      (ap (λ (x : Cell). x.scalar) whole ∙ ap (λ (k : ℕ × ℕ). k.0) there, ap (λ (x : Cell). x.fore) whole ∙ ap (λ (k : ℕ × ℕ). k.1) there)),
  (λ b own.
      let whole = cell_shown s c inside free ∙ ap (λ (qs : List ObjRef). cell_under (map (paint_at (all s.objects) c) qs)) stacked in
      ap (λ (x : Cell). x.back) whole ∙ back_topmost (all s.objects) c above below r b none own),
)
