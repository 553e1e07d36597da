-- Windows, against the boxes that they are made of.
use Rattle.std.specs.Prelude.{◌≡◌, ℕ, ◌*◌, ◌/◌, ◌%◌, ◌<◌, ◌≤◌, true, not, ◌&&◌, nat_lt, nat_le, max, min, ℤ, pos, negsuc, ◌+ℤ◌, int_lt, int_le, refl}
use Rattle.std.proofs.Common.{ap, ◌∙◌, sym, arith}
use Rattle.std.proofs.lemmas.Bool.Decides.{nat_tests}
use Rattle.mh_base.specs.declared.area.Area.{Area}
use Rattle.mh_model.specs.Boxes.{within}
use Rattle.mh_display.specs.declared.window.Window.{Window}
use Rattle.mh_display.specs.Windows.{has, IsOf, IsMeet}

not_lt : (a b : ℕ) → not (nat_lt a b) ≡ nat_le b a
not_lt a b = grind (arith, nat_tests)

not_below : (a b : ℤ) → not (int_lt a b) ≡ int_le b a
not_below (pos a) (pos b) = not_lt a b
not_below (pos a) (negsuc b) = refl
not_below (negsuc a) (pos b) = refl
not_below (negsuc a) (negsuc b) = not_lt b a

-- a stretch that begins and ends where rows or columns do
stretch : (start size at : ℤ) (first last k : ℕ) → nat_lt k first ≡ int_lt at start → nat_lt k last ≡ int_lt at (start +ℤ size) → (nat_le first k && nat_lt k last) ≡ within start size at
stretch start size at first last k e f =
    let begun : nat_le first k ≡ int_le start at = sym (not_lt k first) ∙ ap not e ∙ not_below at start in
    λ i. begun i && f i

row_of : (c : ℕ) → c < 2160 → c / 60 < 36
row_of c inside = grind arith

column_of : (c : ℕ) → c % 60 < 60
column_of c = grind arith

pub window_of : (a : Area) (w : Window) → w.bottom ≤ 36 → w.right ≤ 60
    → ((k : ℕ) → k < 36 → nat_lt k w.top ≡ int_lt (pos (16 * k)) a.y)
    → ((k : ℕ) → k < 36 → nat_lt k w.bottom ≡ int_lt (pos (16 * k)) (a.y +ℤ a.height))
    → ((k : ℕ) → k < 60 → nat_lt k w.left ≡ int_lt (pos (12 * k)) a.x)
    → ((k : ℕ) → k < 60 → nat_lt k w.right ≡ int_lt (pos (12 * k)) (a.x +ℤ a.width))
    → IsOf a w
unfolding has
window_of a w bottom right top below left beside = record {
  bottom = bottom;
  right = right;
  covered = λ c inside.
      let rows = stretch a.y a.height (pos (16 * (c / 60))) w.top w.bottom (c / 60) (top (c / 60) (row_of c inside)) (below (c / 60) (row_of c inside)) in
      let columns = stretch a.x a.width (pos (12 * (c % 60))) w.left w.right (c % 60) (left (c % 60) (column_of c)) (beside (c % 60) (column_of c)) in
      λ i. columns i && rows i;
}

pub whole_has : (c : ℕ) → c < 2160 → has (record { top = 0; bottom = 36; left = 0; right = 60 }) c ≡ true
unfolding has
whole_has c inside = grind (arith, nat_tests, row_of c inside, column_of c)

pub meet : (a b w : Window) → w.top ≡ max a.top b.top → w.bottom ≡ min a.bottom b.bottom → w.left ≡ max a.left b.left → w.right ≡ min a.right b.right → IsMeet a b w
unfolding has
meet a b w top bottom left right = record {
  bottom = grind (arith, bottom);
  right = grind (arith, right);
  both = λ c. grind (arith, nat_tests, top, bottom, left, right);
}
