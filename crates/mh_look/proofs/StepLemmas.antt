-- A run that is printed, as its reader sees it.
use Rattle.std.specs.Prelude.{◌≡◌, ℕ, ◌+◌, ◌-◌, ◌<◌, ◌≤◌, ◌&&◌, ◌⊎◌, true, List, [], ◌∷◌, ◌++◌, length, map, replicate, nat_lt, refl}
use Rattle.std.specs.List.{list_all, suffix_len}
use Rattle.std.proofs.Common.{ap, ◌∙◌, sym, arith, inl, inr, append_assoc}
use Rattle.std.proofs.lemmas.Bool.{ltb-true}
use Rattle.std.proofs.lemmas.List.{length-append, length-map, length-replicate, map-append}
use Rattle.std.proofs.lemmas.List.Folds.{list_all-append}
use lib.Utf8.{scalar}
use Rattle.mh_model.specs.declared.picture.cell.Cell.{Cell}
use Rattle.mh_told.specs.Frame.{Run, begun, behind, is_space, last, place, characters}
use Rattle.mh_model.specs.Picture.{black}
use Rattle.mh_told.specs.Stretch.{runs_at}
use Rattle.mh_look.specs.declared.report.run.Place.{Place}
use Rattle.mh_look.specs.Report.{is_shown}
use Rattle.mh_look.specs.Reading.{quoted_text}
use Rattle.mh_look.specs.Cells.{AreColours, FitInto, StandsBehind, coloured, filled, place_text, with_run}
use Rattle.mh_look.proofs.NextLemmas.{run_cells, next, IsBlack, IsPrinted}
use Rattle.mh_look.proofs.SpaceLemmas.{printed, printed_length, with_spaces, coloured_spaces}
use Rattle.mh_look.proofs.CellLemmas.{both_true}

-- where a run lies
abbrev pub place_of : Run → Place
place_of r = record { first = r.first; last = last r; fore = r.fore; back = r.back }

-- its text, part by part
pub run_parts : (r : Run) (rest : List ℕ) → (place r ++ characters r.scalars) ++ rest ≡ place_text (place_of r) (quoted_text (printed r.scalars) ++ rest)
run_parts r rest = parts r (quoted_text (printed r.scalars)) rest
  where
    parts : (r : Run) (q rest : List ℕ) → (place r ++ q) ++ rest ≡ place_text (place_of r) (q ++ rest)
    parts r q rest = simp append_assoc

-- Nothing more of a row is printed, or one more run is.
pub record NoMore (k : ℕ) (more : List Cell) : Type 0 where
  pub count : ℕ
  pub all : more ≡ replicate count black
  pub text : runs_at k more ≡ []

pub record OneMore (k : ℕ) (more : List Cell) : Type 0 where
  pub count : ℕ
  pub run : Run
  pub left : List Cell
  pub all : more ≡ replicate count black ++ (run_cells run ++ left)
  pub first : run.first ≡ k + count
  pub some : 0 < length run.scalars
  pub text : runs_at k more ≡ (place run ++ characters run.scalars) ++ runs_at (behind run) left

begun_next : (k : ℕ) (c : Cell) (cs : List Cell) → IsBlack (begun k c) cs ⊎ IsPrinted (begun k c) cs → NoMore k (c ∷ cs) ⊎ OneMore k (c ∷ cs)
begun_next k c cs (inl b) = inl (record { count = b.count; all = b.all; text = b.text })
begun_next k c cs (inr p) = inr (record { count = p.count; run = p.run; left = p.left; all = p.all; first = p.first; some = p.some; text = p.text })

pub next_at : (k : ℕ) (more : List Cell) → NoMore k more ⊎ OneMore k more
next_at k [] = inl (record { count = 0; all = refl; text = refl })
next_at k (c ∷ cs) = begun_next k c cs (next (begun k c) cs (omega arith))

-- The cells that its reader puts.

-- the cells of a run: those that are printed, and the spaces behind them
run_ends : (r : Run) → run_cells r ≡ map (coloured r.fore r.back) (printed r.scalars) ++ replicate (suffix_len is_space r.scalars) (coloured r.fore r.back 32)
run_ends r =
    let n : ℕ = suffix_len is_space r.scalars in
    ap (λ (cs : List ℕ). map (coloured r.fore r.back) cs) (with_spaces r.scalars)
    ∙ map-append (coloured r.fore r.back) (printed r.scalars) (replicate n 32)
    ∙ ap (λ (xs : List Cell). map (coloured r.fore r.back) (printed r.scalars) ++ xs) (coloured_spaces r.fore r.back n)

filled_by : (cells : List Cell) (n m : ℕ) (c : Cell) → n ≡ length cells + m → filled cells n c ≡ cells ++ replicate m c
filled_by cells n m c e = let left : n - length cells ≡ m = omega (arith, e) in ap (λ (k : ℕ). cells ++ replicate k c) left

pub run_put : (cells : List Cell) (r : Run) (count : ℕ) → r.first ≡ length cells + count → 0 < length r.scalars → with_run cells (place_of r) (printed r.scalars) ≡ cells ++ (replicate count black ++ run_cells r)
run_put cells r count first some =
    let n : ℕ = suffix_len is_space r.scalars in
    let space : Cell = coloured r.fore r.back 32 in
    let marks : List Cell = map (coloured r.fore r.back) (printed r.scalars) in
    let dark : List Cell = cells ++ replicate count black in
    let high : length dark ≡ length cells + count = length-append cells (replicate count black) ∙ ap (λ (k : ℕ). length cells + k) (length-replicate count black) in
    let wide : length marks ≡ length (printed r.scalars) = length-map (printed r.scalars) (coloured r.fore r.back) in
    let long : length (dark ++ marks) ≡ length dark + length marks = length-append dark marks in
    let end : last r + 1 ≡ length (dark ++ marks) + n = omega (arith, high, wide, long, printed_length r.scalars, first, some) in
    ap (λ (xs : List Cell). filled (xs ++ marks) (last r + 1) space) (filled_by cells r.first count black first)
    ∙ filled_by (dark ++ marks) (last r + 1) n space end
    ∙ append_assoc dark marks (replicate n space)
    ∙ append_assoc cells (replicate count black) (marks ++ replicate n space)
    ∙ ap (λ (xs : List Cell). cells ++ (replicate count black ++ xs)) (sym (run_ends r))

-- Its place and its characters.

pub shown_parts : (xs ys : List Cell) → list_all is_shown (xs ++ ys) ≡ true → (list_all is_shown xs ≡ true) × (list_all is_shown ys ≡ true)
shown_parts xs ys e = both_true (list_all is_shown xs) (list_all is_shown ys) (sym (list_all-append is_shown xs ys) ∙ e)

colours_of : (c : Cell) → is_shown c ≡ true → AreColours c.fore c.back
colours_of c e =
    let outer : ((scalar c.scalar && nat_lt c.fore 16777216) ≡ true) × (nat_lt c.back 16777216 ≡ true) = both_true (scalar c.scalar && nat_lt c.fore 16777216) (nat_lt c.back 16777216) e in
    let inner : (scalar c.scalar ≡ true) × (nat_lt c.fore 16777216 ≡ true) = both_true (scalar c.scalar) (nat_lt c.fore 16777216) outer.0 in
    record { front = ltb-true c.fore 16777216 inner.1; behind = ltb-true c.back 16777216 outer.1 }

scalar_of : (c : Cell) → is_shown c ≡ true → scalar c.scalar ≡ true
scalar_of c e =
    let outer : ((scalar c.scalar && nat_lt c.fore 16777216) ≡ true) × (nat_lt c.back 16777216 ≡ true) = both_true (scalar c.scalar && nat_lt c.fore 16777216) (nat_lt c.back 16777216) e in
    (both_true (scalar c.scalar) (nat_lt c.fore 16777216) outer.0).0

run_colours : (fore back : ℕ) (cs : List ℕ) → 0 < length cs → list_all is_shown (map (coloured fore back) cs) ≡ true → AreColours fore back
run_colours fore back [] some e = absurd (omega (arith, some))
run_colours fore back (c ∷ cs) some e = colours_of (coloured fore back c) (both_true (is_shown (coloured fore back c)) (list_all is_shown (map (coloured fore back) cs)) e).0

run_scalars : (fore back : ℕ) (cs : List ℕ) → list_all is_shown (map (coloured fore back) cs) ≡ true → list_all scalar cs ≡ true
run_scalars fore back [] e = refl
run_scalars fore back (c ∷ cs) e =
    let parts : (is_shown (coloured fore back c) ≡ true) × (list_all is_shown (map (coloured fore back) cs) ≡ true) = both_true (is_shown (coloured fore back c)) (list_all is_shown (map (coloured fore back) cs)) e in
    rw (scalar_of (coloured fore back c) parts.0, run_scalars fore back cs parts.1) refl

pub run_stands : (k : ℕ) (r : Run) (count : ℕ) → r.first ≡ k + count → 0 < length r.scalars → behind r ≤ 60 → list_all is_shown (run_cells r) ≡ true → StandsBehind k (place_of r)
run_stands k r count first some high shown = record {
  behind = omega (arith, first);
  rising = omega (arith, some);
  within = omega (arith, some, high);
  colours = run_colours r.fore r.back r.scalars some shown;
}

pub run_fits : (r : Run) → 0 < length r.scalars → list_all is_shown (run_cells r) ≡ true → FitInto (place_of r) (printed r.scalars)
run_fits r some shown =
    let n : ℕ = suffix_len is_space r.scalars in
    let all : list_all scalar r.scalars ≡ true = run_scalars r.fore r.back r.scalars shown in
    let parts : (list_all scalar (printed r.scalars) && list_all scalar (replicate n 32)) ≡ true = sym (list_all-append scalar (printed r.scalars) (replicate n 32)) ∙ sym (ap (λ (cs : List ℕ). list_all scalar cs) (with_spaces r.scalars)) ∙ all in
    record {
      short = omega (arith, printed_length r.scalars, some);
      scalars = (both_true (list_all scalar (printed r.scalars)) (list_all scalar (replicate n 32)) parts).0;
    }
