-- Drawings, painted one below another.
use Rattle.std.specs.Prelude.{◌≡◌, ℕ, ◌+◌, ◌<◌, ◌≤◌, Bool, true, false, if◌then◌else◌, List, [], ◌∷◌, drop, length, Option, Some, None, slice_index_or, refl}
use Rattle.std.specs.Option.{option_or}
use Rattle.std.proofs.Common.{ap, ◌∙◌, sym, arith, subst}
use Rattle.std.proofs.Math.ListN.{drop_of_length-le}
use Rattle.std.proofs.lemmas.List.{at_drop_more}
use Rattle.mh_base.specs.declared.area.Area.{Area}
use Rattle.mh_model.specs.declared.picture.cell.Cell.{Cell}
use Rattle.mh_model.specs.declared.picture.drawing.Drawing.{Drawing}
use Rattle.mh_model.specs.Boxes.{box_back, x_of, y_of}
use Rattle.mh_model.specs.Drawn.{box_of, drawing_back, drawn_over, figure_back}
use Rattle.mh_model.specs.declared.picture.drawing.Figure.TheVariants as figure
use Rattle.mh_model.specs.Looks.{Paint, art_paint}
use Rattle.mh_display.specs.declared.frame.Frame.{Frame}
use Rattle.mh_display.specs.declared.marked.Marked.{Marked}
use Rattle.mh_display.specs.declared.panel.Panel.{Panel}
use Rattle.mh_display.specs.declared.window.Window.{Window}
use Rattle.mh_display.specs.Painting.{IsPainted, IsPaintedIn, marked_at, put}
use Rattle.mh_display.specs.Panels.{area_of_frame, panel_paint}
use Rattle.mh_display.specs.Surface.{Surface}
use Rattle.mh_display.specs.Texts.{drawing_paint, drawn_paint}
use Rattle.mh_display.specs.Windows.{has, IsOf}
use Rattle.mh_display.proofs.CellLemmas.{put_nothing}
use Rattle.mh_display.proofs.PaintLemmas.{whole_of}

-- colours alone, one below the other
below_cases : (n : ℕ) (y : Option ℕ) (a b : Bool) (x : Cell) → put (record { back = y; mark = None }) (put (record { back = Some n; mark = None }) (record { stale = a; bare = b; cell = x })) ≡ put (record { back = Some n; mark = None }) (record { stale = a; bare = b; cell = x })
below_cases n y false b x = refl
below_cases n y true false x = refl
below_cases n y true true x = refl

one_below : (x y : Option ℕ) (k : Marked) → put (record { back = y; mark = None }) (put (record { back = x; mark = None }) k) ≡ put (record { back = option_or x y; mark = None }) k
one_below None y k = ap (put (record { back = y; mark = None })) (put_nothing k)
one_below (Some n) y k = below_cases n y k.stale k.bare k.cell

or_none : {X : Type 0} (x : Option X) → option_or x None ≡ x
or_none None = refl
or_none (Some x) = refl

or_or : {X : Type 0} (x y z : Option X) → option_or (option_or x y) z ≡ option_or x (option_or y z)
or_or None y z = refl
or_or (Some x) y z = refl

drawn_below : (a : Area) (ds : List Drawing) (c : ℕ) (below : Option ℕ) → drawn_over a ds c below ≡ option_or (drawn_over a ds c None) below
drawn_below a [] c below = refl
drawn_below a (d ∷ ds) c below =
    drawn_below a ds c (option_or (drawing_back a d c) below)
    ∙ sym (or_or (drawn_over a ds c None) (drawing_back a d c) below)
    ∙ ap (λ (x : Option ℕ). option_or x below) (ap (option_or (drawn_over a ds c None)) (sym (or_none (drawing_back a d c))) ∙ sym (drawn_below a ds c (option_or (drawing_back a d c) None)))

drawn_first : (a : Area) (d : Drawing) (ds : List Drawing) (c : ℕ) → drawn_over a (d ∷ ds) c None ≡ option_or (drawn_over a ds c None) (drawing_back a d c)
drawn_first a d ds c = drawn_below a ds c (option_or (drawing_back a d c) None) ∙ ap (option_or (drawn_over a ds c None)) (or_none (drawing_back a d c))

if_same : {X : Type 0} (b : Bool) (x : X) → x ≡ (if b then x else x)
if_same true x = refl
if_same false x = refl

-- nothing is drawn yet
pub not_drawn : (a : Area) (ds : List Drawing) (n : ℕ) (w : Window) (s : Surface) → length ds ≤ n → IsPaintedIn (drawn_paint a (drop n ds)) w s s
not_drawn a ds n w s most = subst (λ (rest : List Drawing). IsPaintedIn (drawn_paint a rest) w s s) (sym (drop_of_length-le ds most)) (record {
  each = λ c inside. if_same (has w c) (marked_at s c) ∙ ap (λ (k : Marked). if has w c then k else marked_at s c) (sym (put_nothing (marked_at s c)));
})

two_in : (b : Bool) (f g h : Marked → Marked) (x y z : Marked) → y ≡ (if b then f x else x) → z ≡ (if b then g y else y) → g (f x) ≡ h x → z ≡ (if b then h x else x)
two_in true f g h x y z e d both = d ∙ ap g e ∙ both
two_in false f g h x y z e d both = d ∙ e

-- one more below
pub next_drawing : (a : Area) (ds : List Drawing) (left n : ℕ) (e : Drawing) (w : Window) (old mid new : Surface) → left ≤ length ds → left ≡ n + 1
    → IsPaintedIn (drawn_paint a (drop left ds)) w old mid → IsPaintedIn (drawing_paint a (slice_index_or ds n e)) w mid new → IsPaintedIn (drawn_paint a (drop n ds)) w old new
next_drawing a ds left n e w old mid new inside is done one =
    let d = slice_index_or ds n e in
    let rest : drop n ds ≡ d ∷ drop left ds = at_drop_more (λ xs. xs) ds n e (omega (arith, inside, is)) ∙ ap (λ (k : ℕ). d ∷ drop k ds) (sym is) in
    subst (λ (xs : List Drawing). IsPaintedIn (drawn_paint a xs) w old new) (sym rest) (record {
      each = λ c in_it.
          two_in (has w c) (put (drawn_paint a (drop left ds) c)) (put (drawing_paint a d c)) (put (drawn_paint a (d ∷ drop left ds) c)) (marked_at old c) (marked_at mid c) (marked_at new c)
          (done.each c in_it) (one.each c in_it)
          (one_below (drawn_over a (drop left ds) c None) (drawing_back a d c) (marked_at old c)
          ∙ ap (λ (x : Option ℕ). put (record { back = x; mark = None }) (marked_at old c)) (sym (drawn_first a d (drop left ds) c)));
    })

-- there is no more
pub all_drawn : (a : Area) (ds : List Drawing) (left : ℕ) (w : Window) (old new : Surface) → left ≤ 0 → IsPaintedIn (drawn_paint a (drop left ds)) w old new → IsPaintedIn (drawn_paint a ds) w old new
all_drawn a ds left w old new most done =
    let none : left ≡ 0 = omega (arith, most) in
    subst (λ (k : ℕ). IsPaintedIn (drawn_paint a (drop k ds)) w old new) none done

-- the colour behind all of them
pub with_ground : (a : Area) (fill : Option ℕ) (ds : List Drawing) (ground : Panel) (f : Frame) (own : Window) (old mid new : Surface)
    → ground ≡ record { frame = f; has_line = false; line = None; fill = fill } → area_of_frame f ≡ a → IsOf (area_of_frame f) own
    → IsPaintedIn (drawn_paint a ds) own old mid → IsPaintedIn (panel_paint ground) own mid new → IsPainted (art_paint a fill ds) old new
with_ground a fill ds ground f own old mid new is same is_own done last =
    whole_of (art_paint a fill ds) (λ c. record { back = drawn_over a ds c fill; mark = None }) a own old new (subst (λ (x : Area). IsOf x own) same is_own)
    (λ c on. rw on refl) (λ c off. rw off refl) (record { each = λ c inside. by c inside (has own c) refl })
  where
    filled : (c : ℕ) → c < 2160 → has own c ≡ true → panel_paint ground c ≡ record { back = fill; mark = None }
    filled c inside e = rw is (rw (sym (is_own.covered c inside) ∙ e) refl)

    by : (c : ℕ) → c < 2160 → (b : Bool) → has own c ≡ b → marked_at new c ≡ (if b then put (record { back = drawn_over a ds c fill; mark = None }) (marked_at old c) else marked_at old c)
    by c inside true e =
        last.each c inside ∙ ap (λ (b : Bool). if b then put (panel_paint ground c) (marked_at mid c) else marked_at mid c) e
        ∙ ap (λ (q : Paint). put q (marked_at mid c)) (filled c inside e)
        ∙ ap (put (record { back = fill; mark = None })) (done.each c inside ∙ ap (λ (b : Bool). if b then put (drawn_paint a ds c) (marked_at old c) else marked_at old c) e)
        ∙ one_below (drawn_over a ds c None) fill (marked_at old c)
        ∙ ap (λ (x : Option ℕ). put (record { back = x; mark = None }) (marked_at old c)) (sym (drawn_below a ds c fill))
    by c inside false e =
        last.each c inside ∙ ap (λ (b : Bool). if b then put (panel_paint ground c) (marked_at mid c) else marked_at mid c) e
        ∙ done.each c inside ∙ ap (λ (b : Bool). if b then put (drawn_paint a ds c) (marked_at old c) else marked_at old c) e

-- a drawn rectangle is a panel
pub drawn_panel : (a : Area) (d : Drawing) (p : Panel) (f : Frame) (w : Window) (old new : Surface) → d.figure ≡ figure.Rectangle
    → p ≡ record { frame = f; has_line = d.has_line; line = d.line; fill = d.fill } → area_of_frame f ≡ box_of a d → IsPaintedIn (panel_paint p) w old new → IsPaintedIn (drawing_paint a d) w old new
drawn_panel a d p f w old new kind is same done = record {
  each = λ c inside. done.each c inside ∙ ap (λ (q : Paint). if has w c then put q (marked_at old c) else marked_at old c) (paints c);
}
  where
    paints : (c : ℕ) → panel_paint p c ≡ drawing_paint a d c
    paints c =
        ap (λ (q : Panel). panel_paint q c) is
        ∙ ap (λ (b : Area). record { back = box_back b d.has_line d.line d.fill (x_of c) (y_of c); mark = None }) same
        ∙ ap (λ k. record { back = figure_back k a d c; mark = None }) (sym kind)
