-- The cells that an object paints are stale.
use Rattle.std.specs.Prelude.{◌≡◌, ℕ, ◌<◌, Bool, true, false, if◌then◌else◌, List, Some, refl}
use Rattle.std.proofs.Common.{ap, ◌∙◌, sym}
use Rattle.mh_base.specs.declared.area.Area.{Area}
use Rattle.mh_group.specs.declared.class.Class.{Class}
use Rattle.mh_group.specs.declared.class.Class.TheVariants as class
use Rattle.mh_model.specs.declared.object.Object.{Object}
use Rattle.mh_model.specs.Boxes.{covers, x_of, y_of}
use Rattle.mh_model.specs.Looks.{Paint, nothing, area_of, paint_by, paint_in}
use Rattle.mh_model.specs.Picture.{is_seen, painted}
use Rattle.mh_display.specs.declared.frame.Frame.{Frame}
use Rattle.mh_display.specs.declared.window.Window.{Window}
use Rattle.mh_display.specs.Painting.{IsIn, IsPainted, marked_at, put}
use Rattle.mh_display.specs.Panels.{area_of_frame}
use Rattle.mh_display.specs.Surface.{Spoils, Surface, is_in, is_stale}
use Rattle.mh_display.proofs.CellLemmas.{put_nothing}
use Rattle.mh_display.proofs.PaintLemmas.{settled_stays}
use Rattle.mh_display.specs.Windows.{has, IsOf}

pub not_seen : (o : Object) (marks : List ℕ) → is_seen o ≡ false → Spoils (Some o) marks marks
not_seen o marks unseen c inside right = (right, ap (λ (b : Bool). if b then paint_in o c else nothing) unseen)

-- beside its box a visible paints nothing
paints_nothing : (k : Class) (o : Object) (c : ℕ) → covers (area_of o) (x_of c) (y_of c) ≡ false → paint_by k o c ≡ nothing
paints_nothing class.Rectangle o c off = rw off refl
paints_nothing class.DynamicLineArt o c off = rw off refl
paints_nothing _ o c off = rw off refl

not_both : (b : Bool) → b ≡ true → b ≡ false → true ≡ false
not_both b e f = sym e ∙ f

pub box_spoilt : (o : Object) (a : Area) (f : Frame) (w : Window) (old new : List ℕ) → a ≡ area_of o → area_of_frame f ≡ a → IsOf (area_of_frame f) w
    → IsIn (λ c b. true) w (is_in old) (is_in new) → Spoils (Some o) old new
box_spoilt o a f w old new is same own done c inside right = by (has w c) refl
  where
    shows : (b : Bool) → paint_in o c ≡ nothing → (if b then paint_in o c else nothing) ≡ nothing
    shows true e = e
    shows false e = refl

    by : (b : Bool) → has w c ≡ b → (is_stale old c ≡ false) × (painted c (Some o) ≡ nothing)
    by true e =
        let stale : is_stale new c ≡ true = done.each c inside ∙ ap (λ (b : Bool). if b then true else is_in old c) e in
        let neither : true ≡ false = not_both (is_stale new c) stale right in
        absurd cc
    by false e =
        let still : is_in new c ≡ is_in old c = done.each c inside ∙ ap (λ (b : Bool). if b then true else is_in old c) e in
        let off : covers (area_of o) (x_of c) (y_of c) ≡ false = (λ i. covers ((sym is) i) (x_of c) (y_of c)) ∙ (λ i. covers ((sym same) i) (x_of c) (y_of c)) ∙ sym (own.covered c inside) ∙ e in
        (sym still ∙ right, shows (is_seen o) (paints_nothing o.fixed.class o c off))

-- where no cell of its box is stale, nothing is painted
pub box_settled : (o : Object) (a : Area) (f : Frame) (w : Window) (s : Surface) → a ≡ area_of o → area_of_frame f ≡ a → IsOf (area_of_frame f) w
    → ((c : ℕ) → c < 2160 → has w c ≡ true → (marked_at s c).stale ≡ false) → IsPainted (paint_in o) s s
box_settled o a f w s is same own none = record { each = λ c inside. by c inside (has w c) refl }
  where
    by : (c : ℕ) → c < 2160 → (b : Bool) → has w c ≡ b → marked_at s c ≡ put (paint_in o c) (marked_at s c)
    by c inside true e = settled_stays (paint_in o c) (marked_at s c) (none c inside e)
    by c inside false e =
        let off : covers (area_of o) (x_of c) (y_of c) ≡ false = (λ i. covers ((sym is) i) (x_of c) (y_of c)) ∙ (λ i. covers ((sym same) i) (x_of c) (y_of c)) ∙ sym (own.covered c inside) ∙ e in
        sym (put_nothing (marked_at s c)) ∙ ap (λ (q : Paint). put q (marked_at s c)) (sym (paints_nothing o.fixed.class o c off))
