-- A drawn line is painted by the one cell of each row, or of each column, through which it goes.
use Rattle.std.specs.Prelude.{◌≡◌, ◌≢◌, ℕ, ◌+◌, ◌-◌, ◌*◌, ◌/◌, ◌%◌, ◌<◌, ◌≤◌, nat_eq, nat_lt, Bool, true, false, ◌&&◌, if◌then◌else◌, Option, Some, None, pos, refl}
use Rattle.std.proofs.Common.{ap, ◌∙◌, sym, arith, subst}
use Rattle.std.proofs.lemmas.Bool.Decides.{nat_tests}
use Rattle.mh_model.specs.declared.picture.drawing.Stroke.{Stroke}
use Rattle.mh_model.specs.Boxes.{column_of, row_of}
use Rattle.mh_model.specs.Drawn.{goes_through}
use Rattle.mh_model.specs.Looks.{Paint, nothing}
use Rattle.mh_display.specs.declared.marked.Marked.{Marked}
use Rattle.mh_display.specs.declared.window.Window.{Window}
use Rattle.mh_display.specs.Painting.{IsAcross, IsBeside, IsBetween, IsIn, IsPaintedIn, IsSet, put}
use Rattle.mh_display.specs.Strokes.{IsOnly, is_place, stroke_paint}
use Rattle.mh_display.specs.Surface.{Surface}
use Rattle.mh_display.specs.Windows.{has}
use Rattle.mh_display.proofs.CellLemmas.{column_of_cell, put_nothing, row_of_cell}
use Rattle.mh_display.proofs.PaintLemmas.{nothing_in, settled_stays}

-- What is painted in one row.

-- no cell of it is changed
row_stays : {X : Type 0} (h : ℕ → X → X) (old : ℕ → X) (row left right : ℕ) → ((k : ℕ) → left ≤ k → k < right → (x : X) → h (60 * row + k) x ≡ x)
    → IsBetween h old old (60 * row + left) (60 * row + right)
row_stays h old row left right stays = record {
  inside = λ c low high.
      let is : 60 * row + (c - 60 * row) ≡ c = omega (arith, low) in
      subst (λ (n : ℕ). old n ≡ h n (old n)) is (sym (stays (c - 60 * row) (omega (arith, low)) (omega (arith, low, high)) (old (60 * row + (c - 60 * row)))));
  before = λ c less. refl;
  behind = λ c most. refl;
}

-- one is
row_with : {X : Type 0} (h : ℕ → X → X) (old new : ℕ → X) (row left right at : ℕ) → left ≤ at → at < right → ((k : ℕ) → left ≤ k → k < right → k ≢ at → (x : X) → h (60 * row + k) x ≡ x)
    → IsSet old new (60 * row + at) (h (60 * row + at) (old (60 * row + at))) → IsBetween h old new (60 * row + left) (60 * row + right)
row_with {X} h old new row left right at least most stays one = record {
  inside = λ c low high.
      let is : 60 * row + (c - 60 * row) ≡ c = omega (arith, low) in
      subst (λ (n : ℕ). new n ≡ h n (old n)) is (by (c - 60 * row) (omega (arith, low)) (omega (arith, low, high)) (nat_eq (c - 60 * row) at) refl);
  before = λ c less. one.others c (λ same. absurd (omega (arith, less, same, least)));
  behind = λ c far. one.others c (λ same. absurd (omega (arith, far, same, most)));
}
  where
    by : (k : ℕ) → left ≤ k → k < right → (b : Bool) → nat_eq k at ≡ b → new (60 * row + k) ≡ h (60 * row + k) (old (60 * row + k))
    by k low high true e =
        let is : at ≡ k = grind (arith, nat_tests, e) in
        subst (λ (n : ℕ). new (60 * row + n) ≡ h (60 * row + n) (old (60 * row + n))) is one.here
    by k low high false e =
        let apart : k ≢ at = λ same. grind (arith, nat_tests, e, same) in
        one.others (60 * row + k) (λ same. apart (omega (arith, same))) ∙ sym (stays k low high apart (old (60 * row + k)))

-- What is painted in one column.

-- the cell by its row and column
split_cell : (c column : ℕ) → nat_eq (c % 60) column ≡ true → 60 * (c / 60) + column ≡ c
split_cell c column e = grind (arith, nat_tests, e)

column_told : (w : Window) (c column : ℕ) → (nat_eq (c % 60) column && has w c) ≡ true → (60 * (c / 60) + column ≡ c) × (w.top ≤ c / 60) × (c / 60 < w.bottom)
unfolding has
column_told w c column e = (grind (arith, nat_tests, e), grind (arith, nat_tests, e), grind (arith, nat_tests, e))

column_has : (w : Window) (row column : ℕ) → column < 60 → w.left ≤ column → column < w.right → w.top ≤ row → row < w.bottom → (nat_eq ((60 * row + column) % 60) column && has w (60 * row + column)) ≡ true
unfolding has
column_has w row column wide left right top bottom = grind (arith, nat_tests, row_of_cell row column wide, column_of_cell row column wide, left, right, top, bottom)

-- no cell of it is changed
column_stays : {X : Type 0} (h : ℕ → X → X) (w : Window) (old : ℕ → X) (column : ℕ) → ((k : ℕ) → w.top ≤ k → k < w.bottom → (x : X) → h (60 * k + column) x ≡ x) → IsAcross h w old old column
column_stays {X} h w old column stays = record { each = λ c inside. by c (nat_eq (c % 60) column && has w c) refl }
  where
    by : (c : ℕ) (b : Bool) → (nat_eq (c % 60) column && has w c) ≡ b → old c ≡ (if b then h c (old c) else old c)
    by c true e =
        let here = column_told w c column e in
        subst (λ (n : ℕ). old n ≡ h n (old n)) here.0 (sym (stays (c / 60) here.1 here.2 (old (60 * (c / 60) + column))))
    by c false e = refl

-- one is
column_with : {X : Type 0} (h : ℕ → X → X) (w : Window) (old new : ℕ → X) (column at : ℕ) → column < 60 → w.left ≤ column → column < w.right → w.top ≤ at → at < w.bottom
    → ((k : ℕ) → w.top ≤ k → k < w.bottom → k ≢ at → (x : X) → h (60 * k + column) x ≡ x)
    → IsSet old new (60 * at + column) (h (60 * at + column) (old (60 * at + column))) → IsAcross h w old new column
column_with {X} h w old new column at wide left right top bottom stays one = record { each = λ c inside. by c (nat_eq (c % 60) column && has w c) refl (nat_eq c (60 * at + column)) refl }
  where
    by : (c : ℕ) (b : Bool) → (nat_eq (c % 60) column && has w c) ≡ b → (a : Bool) → nat_eq c (60 * at + column) ≡ a → new c ≡ (if b then h c (old c) else old c)
    by c true e true f =
        let is : 60 * at + column ≡ c = grind (arith, nat_tests, f) in
        subst (λ (n : ℕ). new n ≡ h n (old n)) is one.here
    by c true e false f =
        let here = column_told w c column e in
        let apart : c ≢ 60 * at + column = λ same. grind (arith, nat_tests, f, same) in
        one.others c apart
        ∙ subst (λ (n : ℕ). old n ≡ h n (old n)) here.0 (sym (stays (c / 60) here.1 here.2 (λ same. apart (omega (arith, same, here.0))) (old (60 * (c / 60) + column))))
    by c false e true f =
        let is : c ≡ 60 * at + column = grind (arith, nat_tests, f) in
        absurd (clash (sym e ∙ ap (λ (n : ℕ). nat_eq (n % 60) column && has w n) is ∙ column_has w at column wide left right top bottom))
      where
        clash : false ≡ true → ⊥
        clash e = absurd cc
    by c false e false f = one.others c (λ same. grind (arith, nat_tests, f, same))

-- Column by column.

pub no_column : {X : Type 0} (h : ℕ → X → X) (w : Window) (old : ℕ → X) → IsBeside h w old old w.left
unfolding has
no_column h w old = record {
  each = λ c inside.
      let none : (nat_lt (c % 60) w.left && has w c) ≡ false = grind (arith, nat_tests) in
      ap (λ (b : Bool). if b then h c (old c) else old c) (sym none);
}

pub next_column : {X : Type 0} (h : ℕ → X → X) (w : Window) (old mid new : ℕ → X) (column : ℕ) → IsBeside h w old mid column → IsAcross h w mid new column → IsBeside h w old new (column + 1)
next_column {X} h w old mid new column first last = record {
  each = λ c inside. last.each c inside ∙ by c (has w c) (nat_lt (c % 60) column) refl (nat_eq (c % 60) column) refl (nat_lt (c % 60) (column + 1)) refl (first.each c inside);
}
  where
    by : (c : ℕ) (here a : Bool) → nat_lt (c % 60) column ≡ a → (b : Bool) → nat_eq (c % 60) column ≡ b → (d : Bool) → nat_lt (c % 60) (column + 1) ≡ d
        → mid c ≡ (if a && here then h c (old c) else old c) → (if b && here then h c (mid c) else mid c) ≡ (if d && here then h c (old c) else old c)
    by c here true e true f d g is = absurd (grind (arith, nat_tests, e, f))
    by c here true e false f false g is = absurd (grind (arith, nat_tests, e, g))
    by c here true e false f true g is = is
    by c here false e true f false g is = absurd (grind (arith, nat_tests, f, g))
    by c true false e true f true g is = ap (h c) is
    by c false false e true f true g is = is
    by c here false e false f true g is = absurd (grind (arith, nat_tests, e, f, g))
    by c here false e false f false g is = is

pub last_column : {X : Type 0} (h : ℕ → X → X) (w : Window) (old new : ℕ → X) (column : ℕ) → w.right ≤ column → IsBeside h w old new column → IsIn h w old new
unfolding has
last_column h w old new column right done = record {
  each = λ c inside.
      let same : (nat_lt (c % 60) column && has w c) ≡ has w c = grind (arith, nat_tests, right) in
      done.each c inside ∙ ap (λ (b : Bool). if b then h c (old c) else old c) same;
}

-- A line of some colour, or of none.

paint_there : (s : Stroke) (line : Option ℕ) (row column : ℕ) (b : Bool) → column < 60 → goes_through s (pos column) (pos row) ≡ b → stroke_paint s line (60 * row + column) ≡ record { back = if b then line else None; mark = None }
paint_there s line row column b wide is =
    ap (λ (t : Bool). record { back = if t then line else None; mark = None })
    ((λ i. goes_through s (pos (column_of_cell row column wide i)) (pos (row_of_cell row column wide i))) ∙ is)

stays_there : (s : Stroke) (colour row column : ℕ) → column < 60 → goes_through s (pos column) (pos row) ≡ false → (k : Marked) → put (stroke_paint s (Some colour) (60 * row + column)) k ≡ k
stays_there s colour row column wide off k = ap (λ (p : Paint). put p k) (paint_there s (Some colour) row column false wide off) ∙ put_nothing k

set_there : (s : Stroke) (colour row column : ℕ) (old new : ℕ → Marked) → column < 60 → goes_through s (pos column) (pos row) ≡ true
    → IsSet old new (60 * row + column) (put (record { back = Some colour; mark = None }) (old (60 * row + column)))
    → IsSet old new (60 * row + column) (put (stroke_paint s (Some colour) (60 * row + column)) (old (60 * row + column)))
set_there s colour row column old new wide on one =
    subst (λ (p : Paint). IsSet old new (60 * row + column) (put p (old (60 * row + column)))) (sym (paint_there s (Some colour) row column true wide on)) one

-- the place that was found is the one, and no other is
is_there : (n : ℕ) → is_place (Some n) n ≡ true
is_there n = grind (arith, nat_tests)

is_apart : (n k : ℕ) → k ≢ n → is_place (Some n) k ≡ false
is_apart n k apart = by (nat_eq n k) refl
  where
    by : (b : Bool) → nat_eq n k ≡ b → b ≡ false
    by true e = absurd (apart (grind (arith, nat_tests, e)))
    by false e = refl

pub missed_in_row : (s : Stroke) (colour row left right : ℕ) (old : ℕ → Marked) → right ≤ 60 → IsOnly (λ column. goes_through s (pos column) (pos row)) left right None
    → IsBetween (λ c. put (stroke_paint s (Some colour) c)) old old (60 * row + left) (60 * row + right)
missed_in_row s colour row left right old wide only =
    row_stays (λ c. put (stroke_paint s (Some colour) c)) old row left right (λ k low high x. stays_there s colour row k (omega (arith, high, wide)) (only.each k low high) x)

pub painted_in_row : (s : Stroke) (colour row left right at : ℕ) (old new : ℕ → Marked) → right ≤ 60 → IsOnly (λ column. goes_through s (pos column) (pos row)) left right (Some at)
    → IsSet old new (60 * row + at) (put (record { back = Some colour; mark = None }) (old (60 * row + at)))
    → IsBetween (λ c. put (stroke_paint s (Some colour) c)) old new (60 * row + left) (60 * row + right)
painted_in_row s colour row left right at old new wide only one =
    row_with (λ c. put (stroke_paint s (Some colour) c)) old new row left right at only.inside.0 only.inside.1
    (λ k low high apart x. stays_there s colour row k (omega (arith, high, wide)) (only.each k low high ∙ is_apart at k apart) x)
    (set_there s colour row at old new (omega (arith, only.inside.1, wide)) (only.each at only.inside.0 only.inside.1 ∙ is_there at) one)

pub missed_in_column : (s : Stroke) (colour column : ℕ) (w : Window) (old : ℕ → Marked) → column < 60 → IsOnly (λ row. goes_through s (pos column) (pos row)) w.top w.bottom None
    → IsAcross (λ c. put (stroke_paint s (Some colour) c)) w old old column
missed_in_column s colour column w old wide only =
    column_stays (λ c. put (stroke_paint s (Some colour) c)) w old column (λ k low high x. stays_there s colour k column wide (only.each k low high) x)

pub painted_in_column : (s : Stroke) (colour column at : ℕ) (w : Window) (old new : ℕ → Marked) → w.right ≤ 60 → w.left ≤ column → column < w.right
    → IsOnly (λ row. goes_through s (pos column) (pos row)) w.top w.bottom (Some at)
    → IsSet old new (60 * at + column) (put (record { back = Some colour; mark = None }) (old (60 * at + column)))
    → IsAcross (λ c. put (stroke_paint s (Some colour) c)) w old new column
painted_in_column s colour column at w old new most left right only one =
    let wide : column < 60 = omega (arith, right, most) in
    column_with (λ c. put (stroke_paint s (Some colour) c)) w old new column at wide left right only.inside.0 only.inside.1
    (λ k low high apart x. stays_there s colour k column wide (only.each k low high ∙ is_apart at k apart) x)
    (set_there s colour at column old new wide (only.each at only.inside.0 only.inside.1 ∙ is_there at) one)

-- it paints nothing
pub no_colour : (s : Stroke) (line : Option ℕ) (w : Window) (old : Surface) → line ≡ None → IsPaintedIn (stroke_paint s line) w old old
no_colour s line w old none = nothing_in (stroke_paint s line) w old (λ c. by (goes_through s (column_of c) (row_of c)))
  where
    by : (b : Bool) → record { back = if b then line else None; mark = None } ≡ nothing
    by true = λ i. record { back = none i; mark = None }
    by false = refl

-- a cell that is not stale is left as it is
pub left_alone : (p : Paint) (old : ℕ → Marked) (at : ℕ) → (old at).stale ≡ false → IsSet old old at (put p (old at))
left_alone p old at settled = record { here = settled_stays p (old at) settled; others = λ c apart. refl }
