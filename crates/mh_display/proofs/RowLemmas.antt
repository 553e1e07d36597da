-- Cells of a window, row by row.
use Rattle.std.specs.Prelude.{◌≡◌, ℕ, ◌+◌, ◌*◌, ◌/◌, ◌<◌, ◌≤◌, Bool, true, false, ◌&&◌, if◌then◌else◌, nat_lt, max, refl}
use Rattle.std.proofs.Common.{ap, ◌∙◌, sym, arith, subst}
use Rattle.std.proofs.lemmas.Bool.Decides.{nat_tests}
use Rattle.mh_display.specs.declared.window.Window.{Window}
use Rattle.mh_display.specs.Painting.{IsSet, IsBetween, IsAbove, IsIn, IsAll}
use Rattle.mh_display.specs.Windows.{has}

-- no cell yet
pub no_cell : {X : Type 0} (h : ℕ → X → X) (old : ℕ → X) (first : ℕ) → IsBetween h old old first first
no_cell h old first = record {
  inside = λ c low high. absurd (omega (arith, low, high));
  before = λ c less. refl;
  behind = λ c most. refl;
}

-- none between them
pub no_cells : {X : Type 0} (h : ℕ → X → X) (old : ℕ → X) (first last : ℕ) → last ≤ first → IsBetween h old old first last
no_cells h old first last most = record {
  inside = λ c low high. absurd (omega (arith, low, high, most));
  before = λ c less. refl;
  behind = λ c most. refl;
}

-- one cell more
pub next_cell : {X : Type 0} (h : ℕ → X → X) (old mid new : ℕ → X) (first at : ℕ) → first ≤ at → IsBetween h old mid first at → IsSet mid new at (h at (mid at)) → IsBetween h old new first (at + 1)
next_cell {X} h old mid new first at low done one = record {
  inside = λ c least less. by c least less (nat_lt c at) refl;
  before = λ c less. one.others c (λ is. absurd (omega (arith, less, low, is))) ∙ done.before c less;
  behind = λ c most. one.others c (λ is. absurd (omega (arith, most, is))) ∙ done.behind c (omega (arith, most));
}
  where
    by : (c : ℕ) → first ≤ c → c < at + 1 → (b : Bool) → nat_lt c at ≡ b → new c ≡ h c (old c)
    by c least less true e =
        let below : c < at = grind (arith, nat_tests, e) in
        one.others c (λ is. absurd (omega (arith, below, is))) ∙ done.inside c least below
    by c least less false e =
        let is : at ≡ c = grind (arith, nat_tests, e, less) in
        subst (λ (k : ℕ). new k ≡ h k (old k)) is (one.here ∙ ap (h at) (done.behind at (omega arith)))

-- one column more of a row
pub next_column : {X : Type 0} (h : ℕ → X → X) (old mid new : ℕ → X) (row left column : ℕ) → left ≤ column → IsBetween h old mid (60 * row + left) (60 * row + column)
    → IsSet mid new (60 * row + column) (h (60 * row + column) (mid (60 * row + column))) → IsBetween h old new (60 * row + left) (60 * row + (column + 1))
next_column h old mid new row left column low done one =
    let behind : (60 * row + column) + 1 ≡ 60 * row + (column + 1) = omega arith in
    subst (λ (n : ℕ). IsBetween h old new (60 * row + left) n) behind (next_cell h old mid new (60 * row + left) (60 * row + column) (omega (arith, low)) done one)

-- no cell of the window lies above its first row
pub no_row : {X : Type 0} (h : ℕ → X → X) (w : Window) (old : ℕ → X) → IsAbove h w old old w.top
unfolding has
no_row h w old = record {
  each = λ c inside.
      let none : (nat_lt (c / 60) w.top && has w c) ≡ false = grind (arith, nat_tests) in
      ap (λ (b : Bool). if b then h c (old c) else old c) (sym none);
}

-- the columns of a row, each changed, are those of the window
pub ended : {X : Type 0} (h : ℕ → X → X) (w : Window) (old new : ℕ → X) (row column : ℕ) → w.left ≤ column → column ≤ max w.left w.right → w.right ≤ column
    → IsBetween h old new (60 * row + w.left) (60 * row + column) → IsBetween h old new (60 * row + w.left) (60 * row + w.right)
ended h w old new row column left most right done = record {
  inside = λ c low high. done.inside c low (omega (arith, high, right));
  before = done.before;
  behind = λ c g. by c g (nat_lt c (60 * row + w.left)) refl;
}
  where
    by : (c : ℕ) → 60 * row + w.right ≤ c → (b : Bool) → nat_lt c (60 * row + w.left) ≡ b → new c ≡ old c
    by c g true e = done.before c (grind (arith, nat_tests, e))
    by c g false e = done.behind c (grind (arith, nat_tests, e, left, most, right, g))

in_row : (c row : ℕ) → nat_lt (c / 60) row ≡ true → c < 60 * row
in_row c row e = grind (arith, nat_tests, e)

at_left : (w : Window) (c row : ℕ) → nat_lt (c / 60) row ≡ false → (nat_lt (c / 60) (row + 1) && has w c) ≡ true → 60 * row + w.left ≤ c
unfolding has
at_left w c row e h = grind (arith, nat_tests, e, h)

at_right : (w : Window) (c row : ℕ) → nat_lt (c / 60) row ≡ false → (nat_lt (c / 60) (row + 1) && has w c) ≡ true → c < 60 * row + w.right
unfolding has
at_right w c row e h = grind (arith, nat_tests, e, h)

-- what the window does not have of this row and of those below lies beside it
beside : (w : Window) (c row : ℕ) → w.top ≤ row → row < w.bottom → w.right ≤ 60 → nat_lt (c / 60) row ≡ false → (nat_lt (c / 60) (row + 1) && has w c) ≡ false
    → nat_lt c (60 * row + w.left) ≡ false → 60 * row + w.right ≤ c
unfolding has
beside w c row top bottom right e h f = grind (arith, nat_tests, top, bottom, right, e, h, f)

-- one row more
pub next_row : {X : Type 0} (h : ℕ → X → X) (w : Window) (old mid new : ℕ → X) (row : ℕ) → w.top ≤ row → row < w.bottom → w.right ≤ 60
    → IsAbove h w old mid row → IsBetween h mid new (60 * row + w.left) (60 * row + w.right) → IsAbove h w old new (row + 1)
next_row {X} h w old mid new row top bottom right first last = record {
  each = λ c inside. by c inside (nat_lt (c / 60) row) refl (nat_lt (c / 60) (row + 1) && has w c) refl (nat_lt c (60 * row + w.left)) refl;
}
  where
    made : ℕ → Bool → X
    made c b = if b then h c (old c) else old c

    still : (c : ℕ) → c < 2160 → nat_lt (c / 60) row ≡ false → mid c ≡ old c
    still c inside e = first.each c inside ∙ ap (λ (b : Bool). made c (b && has w c)) e

    by : (c : ℕ) → c < 2160 → (a : Bool) → nat_lt (c / 60) row ≡ a → (b : Bool) → (nat_lt (c / 60) (row + 1) && has w c) ≡ b → (d : Bool) → nat_lt c (60 * row + w.left) ≡ d
        → new c ≡ made c (nat_lt (c / 60) (row + 1) && has w c)
    by c inside true e b f d g =
        let more : nat_lt (c / 60) (row + 1) ≡ true = grind (arith, nat_tests, e) in
        let above : c < 60 * row = in_row c row e in
        last.before c (omega (arith, above)) ∙ first.each c inside ∙ ap (λ (t : Bool). made c (t && has w c)) (e ∙ sym more)
    by c inside false e true f d g = last.inside c (at_left w c row e f) (at_right w c row e f) ∙ ap (h c) (still c inside e) ∙ sym (ap (made c) f)
    by c inside false e false f true g = last.before c (grind (arith, nat_tests, g)) ∙ still c inside e ∙ sym (ap (made c) f)
    by c inside false e false f false g = last.behind c (beside w c row top bottom right e f g) ∙ still c inside e ∙ sym (ap (made c) f)

-- all rows of the window
pub last_row : {X : Type 0} (h : ℕ → X → X) (w : Window) (old new : ℕ → X) (row : ℕ) → w.bottom ≤ row → IsAbove h w old new row → IsIn h w old new
unfolding has
last_row h w old new row bottom done = record {
  each = λ c inside.
      let same : (nat_lt (c / 60) row && has w c) ≡ has w c = grind (arith, nat_tests, bottom) in
      done.each c inside ∙ ap (λ (b : Bool). if b then h c (old c) else old c) same;
}

-- all cells
pub every_cell : {X : Type 0} (h : ℕ → X → X) (old new : ℕ → X) (at : ℕ) → 2160 ≤ at → IsBetween h old new 0 at → IsAll h old new
every_cell h old new at most done = record { each = λ c inside. done.inside c (omega arith) (omega (arith, inside, most)) }

-- one row more of all cells
pub next_stretch : {X : Type 0} (h : ℕ → X → X) (old mid new : ℕ → X) (row : ℕ) → IsBetween h old mid 0 (60 * row) → IsBetween h mid new (60 * row + 0) (60 * row + 60) → IsBetween h old new 0 (60 * (row + 1))
next_stretch {X} h old mid new row first last = record {
  inside = λ c low high. by c high (nat_lt c (60 * row)) refl;
  before = λ c less. absurd (omega (arith, less));
  behind = λ c most. last.behind c (omega (arith, most)) ∙ first.behind c (omega (arith, most));
}
  where
    by : (c : ℕ) → c < 60 * (row + 1) → (b : Bool) → nat_lt c (60 * row) ≡ b → new c ≡ h c (old c)
    by c high true e =
        let above : c < 60 * row = grind (arith, nat_tests, e) in
        last.before c (omega (arith, above)) ∙ first.inside c (omega arith) above
    by c high false e =
        let most : 60 * row ≤ c = grind (arith, nat_tests, e) in
        last.inside c (omega (arith, most)) (omega (arith, high)) ∙ ap (h c) (first.behind c most)

pub every_row : {X : Type 0} (h : ℕ → X → X) (old new : ℕ → X) (row : ℕ) → 36 ≤ row → IsBetween h old new 0 (60 * row) → IsAll h old new
every_row h old new row most done = record { each = λ c inside. done.inside c (omega arith) (omega (arith, inside, most)) }
