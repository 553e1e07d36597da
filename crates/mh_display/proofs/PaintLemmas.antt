-- What is painted into cells, and into those of windows.
use Rattle.std.specs.Prelude.{◌≡◌, ◌≢◌, ℕ, ◌<◌, Bool, true, false, not, List, [], ◌∷◌, ◌&&◌, ◌||◌, if◌then◌else◌, Option, Some, None, ℤ, pos, negsuc, ◌-ℤ◌, refl}
use Rattle.std.specs.Option.{is_some}
use Rattle.std.proofs.Common.{ap, ◌∙◌, sym, arith, subst}
use Rattle.std.proofs.lemmas.List.{get_or-set_same, get_or-set_other}
use Rattle.std.proofs.lemmas.Option.{slice_get_past}
use Rattle.mh_base.specs.declared.area.Area.{Area}
use Rattle.mh_model.specs.declared.picture.line.Line.{Line}
use Rattle.mh_model.specs.Boxes.{column_of, row_of, covers, first_column, first_row, is_edge, x_of, y_of}
use Rattle.mh_model.specs.Layout.{character_at, character_in, member_at}
use Rattle.mh_model.specs.Picture.{cell_of}
use Rattle.mh_model.specs.Planes.{Planes, with_cell}
use Rattle.mh_model.specs.Step.{is_empty}
use Rattle.mh_model.specs.Looks.{Paint, marked, nothing, text_paint}
use Rattle.mh_display.specs.declared.marked.Marked.{Marked}
use Rattle.mh_display.specs.declared.panel.Panel.{Panel}
use Rattle.mh_display.specs.declared.texts.Ink.{Ink}
use Rattle.mh_display.specs.declared.window.Window.{Window}
use Rattle.mh_display.specs.Painting.{IsComplete, IsSet, IsPainted, IsPaintedIn, marked_at, put, seen, settled}
use Rattle.mh_display.specs.Panels.{area_of_frame, inner_paint, is_clear, panel_paint}
use Rattle.mh_display.specs.Surface.{Surface, is_in}
use Rattle.mh_display.specs.Texts.{letter_paint}
use Rattle.mh_display.specs.Texts.{is_clear as text_is_clear}
use Rattle.mh_display.specs.Windows.{has, IsOf, IsMeet}
use Rattle.mh_display.proofs.CellLemmas.{put_nothing}

-- a cell that is put is there, and the others stay
pub is_set : (s : Surface) (p : Planes) (m n : List ℕ) (at : ℕ) (k : Marked) → IsComplete s → at < 2160 → p ≡ with_cell s.planes at k.cell
    → IsSet (is_in s.marks) (is_in m) at k.stale → IsSet (is_in s.bare) (is_in n) at k.bare → IsSet (marked_at s) (marked_at (record { planes = p; marks = m; bare = n })) at k
is_set s p m n at k whole inside is stale bare = record {
  here = λ i. record { stale = stale.here i; bare = bare.here i; cell = there i };
  others = λ c apart. λ i. record { stale = stale.others c apart i; bare = bare.others c apart i; cell = beside c apart i };
}
  where
    there : cell_of p at ≡ k.cell
    there = ap (λ (q : Planes). cell_of q at) is ∙ rw (get_or-set_same s.planes.scalars at k.cell.scalar 0 (omega (arith, inside, whole.planes.scalars)), get_or-set_same s.planes.fores at k.cell.fore 0 (omega (arith, inside, whole.planes.fores)), get_or-set_same s.planes.backs at k.cell.back 0 (omega (arith, inside, whole.planes.backs))) refl

    beside : (c : ℕ) → c ≢ at → cell_of p c ≡ cell_of s.planes c
    beside c apart = ap (λ (q : Planes). cell_of q c) is ∙ rw (get_or-set_other s.planes.scalars at c k.cell.scalar 0 apart, get_or-set_other s.planes.fores at c k.cell.fore 0 apart, get_or-set_other s.planes.backs at c k.cell.back 0 apart) refl

pub settled_stays : (p : Paint) (k : Marked) → k.stale ≡ false → k ≡ put p k
settled_stays p k e = rw e refl

pub settled_already : (k : Marked) → k.stale ≡ false → k ≡ settled k
settled_already k e =
    let right : seen k [] ≡ k.cell = rw e refl in
    λ i. record { stale = e i; bare = k.bare; cell = sym right i }

-- what a panel paints into a cell that it covers, and beside
panel_inside : (p : Panel) (c : ℕ) → covers (area_of_frame p.frame) (x_of c) (y_of c) ≡ true → inner_paint p c ≡ panel_paint p c
panel_inside p c on = ap (λ (b : Bool). record { back = if b then (if p.has_line && is_edge (area_of_frame p.frame) (x_of c) (y_of c) then p.line else p.fill) else None; mark = None }) (sym on)

panel_beside : (p : Panel) (c : ℕ) → covers (area_of_frame p.frame) (x_of c) (y_of c) ≡ false → nothing ≡ panel_paint p c
panel_beside p c off = ap (λ (b : Bool). record { back = if b then (if p.has_line && is_edge (area_of_frame p.frame) (x_of c) (y_of c) then p.line else p.fill) else None; mark = None }) (sym off)

-- what is painted into the cells that a panel shares with a window is painted in the window
pub shared : (p : Panel) (own w meet : Window) (old new : Surface) → IsOf (area_of_frame p.frame) own → IsMeet own w meet → IsPaintedIn (inner_paint p) meet old new → IsPaintedIn (panel_paint p) w old new
shared p own w meet old new is_own is_meet done = record {
  each = λ c inside.
      done.each c inside
      ∙ ap (λ (b : Bool). if b then put (inner_paint p c) (marked_at old c) else marked_at old c) (is_meet.both c)
      ∙ by c inside (has own c) refl (has w c);
}
  where
    by : (c : ℕ) → c < 2160 → (a : Bool) → has own c ≡ a → (b : Bool)
        → (if a && b then put (inner_paint p c) (marked_at old c) else marked_at old c) ≡ (if b then put (panel_paint p c) (marked_at old c) else marked_at old c)
    by c inside true e true = ap (λ (q : Paint). put q (marked_at old c)) (panel_inside p c (sym (is_own.covered c inside) ∙ e))
    by c inside true e false = refl
    by c inside false e true = sym (put_nothing (marked_at old c)) ∙ ap (λ (q : Paint). put q (marked_at old c)) (panel_beside p c (sym (is_own.covered c inside) ∙ e))
    by c inside false e false = refl

-- what a window of its own leaves out of something is nothing
pub whole_of : (g inner : ℕ → Paint) (a : Area) (own : Window) (old new : Surface) → IsOf a own
    → ((c : ℕ) → covers a (x_of c) (y_of c) ≡ true → inner c ≡ g c) → ((c : ℕ) → covers a (x_of c) (y_of c) ≡ false → nothing ≡ g c)
    → IsPaintedIn inner own old new → IsPainted g old new
whole_of g inner a own old new is_own on off done = record { each = λ c inside. done.each c inside ∙ by c inside (has own c) refl }
  where
    by : (c : ℕ) → c < 2160 → (b : Bool) → has own c ≡ b → (if b then put (inner c) (marked_at old c) else marked_at old c) ≡ put (g c) (marked_at old c)
    by c inside true e = ap (λ (q : Paint). put q (marked_at old c)) (on c (sym (is_own.covered c inside) ∙ e))
    by c inside false e = sym (put_nothing (marked_at old c)) ∙ ap (λ (q : Paint). put q (marked_at old c)) (off c (sym (is_own.covered c inside) ∙ e))

-- What paints nothing leaves all cells as they are.

nothing_put : (g : ℕ → Paint) (s : Surface) (c : ℕ) → g c ≡ nothing → marked_at s c ≡ put (g c) (marked_at s c)
nothing_put g s c none = sym (put_nothing (marked_at s c)) ∙ ap (λ (q : Paint). put q (marked_at s c)) (sym none)

pub nothing_in : (g : ℕ → Paint) (w : Window) (s : Surface) → ((c : ℕ) → g c ≡ nothing) → IsPaintedIn g w s s
nothing_in g w s none = record { each = λ c inside. by c (has w c) }
  where
    by : (c : ℕ) (b : Bool) → marked_at s c ≡ (if b then put (g c) (marked_at s c) else marked_at s c)
    by c true = nothing_put g s c (none c)
    by c false = refl

clear_panel : (p : Panel) → is_clear p ≡ true → (c : ℕ) → panel_paint p c ≡ nothing
clear_panel p clear c = by p.has_line p.line p.fill (covers (area_of_frame p.frame) (x_of c) (y_of c)) (is_edge (area_of_frame p.frame) (x_of c) (y_of c)) clear
  where
    by : (lined : Bool) (line fill : Option ℕ) (on edge : Bool) → (not (is_some fill) && not (lined && is_some line)) ≡ true
        → record { back = if on then (if lined && edge then line else fill) else None; mark = None } ≡ nothing
    by lined line (Some colour) on edge e = absurd cc
    by true (Some colour) None on edge e = absurd cc
    by lined line None false edge e = refl
    by false line None true edge e = refl
    by true None None true true e = refl
    by true None None true false e = refl

pub clear_in : (p : Panel) (w : Window) (s : Surface) → is_clear p ≡ true → IsPaintedIn (panel_paint p) w s s
clear_in p w s clear = nothing_in (panel_paint p) w s (clear_panel p clear)

unmarked : (colour : Option ℕ) → marked colour None ≡ None
unmarked None = refl
unmarked (Some colour) = refl

no_line : (z : ℤ) → member_at {A = Line} [] z ≡ None
no_line (pos n) = slice_get_past [] n (omega arith)
no_line (negsuc n) = refl

clear_text : (a : Area) (ink : Ink) (lines : List Line) → text_is_clear ink lines ≡ true → (c : ℕ) → text_paint a ink.background ink.colour lines c ≡ nothing
clear_text a ink lines clear c = by (covers a (x_of c) (y_of c)) ink.background ink.colour lines clear
  where
    by : (on : Bool) (background colour : Option ℕ) (ls : List Line) → (not (is_some background) && (not (is_some colour) || is_empty ls)) ≡ true
        → (if on then record { back = background; mark = marked colour (character_at ls a (column_of c) (row_of c)) } else nothing) ≡ nothing
    by on (Some b) colour ls e = absurd cc
    by false None colour ls e = refl
    by true None None ls e = refl
    by true None (Some k) [] e =
        ap (λ (l : Option Line). record { back = None; mark = marked (Some k) (character_in l (column_of c -ℤ first_column a)) }) (no_line (row_of c -ℤ first_row a))
    by true None (Some k) (l ∷ ls) e = absurd cc

pub clear_painted : (a : Area) (ink : Ink) (lines : List Line) (s : Surface) → text_is_clear ink lines ≡ true → IsPainted (text_paint a ink.background ink.colour lines) s s
clear_painted a ink lines s clear = record { each = λ c inside. nothing_put (text_paint a ink.background ink.colour lines) s c (clear_text a ink lines clear c) }

pub text_in_box : (a b : Area) (ink : Ink) (lines : List Line) (own : Window) (old new : Surface) → b ≡ a → IsOf b own
    → IsPaintedIn (letter_paint ink a lines) own old new → IsPainted (text_paint a ink.background ink.colour lines) old new
text_in_box a b ink lines own old new same is_own done =
    whole_of (text_paint a ink.background ink.colour lines) (letter_paint ink a lines) a own old new (subst (λ (x : Area). IsOf x own) same is_own)
    (λ c on. rw on refl) (λ c off. rw off refl) done
