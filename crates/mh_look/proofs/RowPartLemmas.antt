-- A part of a row, read so far.
use Rattle.std.specs.Prelude.{◌≡◌, ◌≢◌, ℕ, ◌+◌, ◌-◌, ◌≤◌, ◌⊎◌, true, List, [], ◌∷◌, ◌++◌, length, replicate, Option, Some, None, refl}
use Rattle.std.specs.List.{list_all}
use Rattle.std.proofs.Common.{ap, ◌∙◌, sym, subst, arith, inl, inr, get_or, append_assoc}
use Rattle.std.proofs.lemmas.List.{length-append, length-map, length-replicate}
use Rattle.mh_model.specs.declared.picture.cell.Cell.{Cell}
use Rattle.mh_told.specs.Frame.{Run, behind, place, characters, runs}
use Rattle.mh_model.specs.Picture.{black}
use Rattle.mh_told.specs.Stretch.{runs_at}
use Rattle.mh_look.specs.declared.report.run.Place.{Place}
use Rattle.mh_look.specs.Report.{is_shown}
use Rattle.mh_look.specs.Reading.{IsRow, quoted_text}
use Rattle.mh_look.specs.Cells.{AreCellsFound, FitInto, IsRunFound, StandsBehind, coloured, filled, place_text, place_length}
use Rattle.mh_look.proofs.NextLemmas.{run_cells}
use Rattle.mh_look.proofs.OptionLemmas.{some_is, nothing_is}
use Rattle.mh_look.proofs.PlaceLemmas.{behind_run}
use Rattle.mh_look.proofs.ReadLemmas.{shown_filled}
use Rattle.mh_look.proofs.SpaceLemmas.{printed}
use Rattle.mh_look.proofs.StepLemmas.{NoMore, OneMore, next_at, place_of, run_fits, run_parts, run_put, run_stands, shown_parts}
use Rattle.mh_look.proofs.TailLemmas.{tail}

-- what is left of a row and of its text, behind the cells that were read
pub record IsLeft (cs cells : List Cell) (left rest : List ℕ) : Type 0 where
  pub more : List Cell
  pub all : cs ≡ cells ++ more
  pub text : left ≡ runs_at (length cells) more ++ 10 ∷ rest

pub record IsPart (bytes left : List ℕ) (cells : List Cell) : Type 0 where
  pub within : length cells ≤ 60
  pub shown : list_all is_shown cells ≡ true
  pub row : (cs : List Cell) → IsRow cs → (rest : List ℕ) → bytes ≡ runs cs ++ 10 ∷ rest → IsLeft cs cells left rest

all_runs : (cs : List Cell) → runs cs ≡ runs_at 0 cs
all_runs [] = refl
all_runs (c ∷ cs) = refl

pub no_part : (bytes : List ℕ) (cells : List Cell) → cells ≡ [] → IsPart bytes bytes cells
no_part bytes cells none = record {
  within = omega (arith, ap (λ (xs : List Cell). length xs) none);
  shown = ap (λ (xs : List Cell). list_all is_shown xs) none;
  row = λ cs good rest e. record {
    more = cs;
    all = ap (λ (xs : List Cell). xs ++ cs) (sym none);
    text = e ∙ ap (λ (xs : List ℕ). xs ++ 10 ∷ rest) (all_runs cs) ∙ ap (λ (n : ℕ). runs_at n cs ++ 10 ∷ rest) (sym (ap (λ (xs : List Cell). length xs) none));
  };
}

-- A run is left, and its reader finds it.

-- what is behind the run
abbrev behind_text : (r : Run) → List Cell → List ℕ → List ℕ
behind_text r more rest = runs_at (behind r) more ++ 10 ∷ rest

run_left : (k : ℕ) (more : List Cell) (left rest : List ℕ) (o : OneMore k more) → left ≡ runs_at k more ++ 10 ∷ rest → left ≡ place_text (place_of o.run) (quoted_text (printed o.run.scalars) ++ behind_text o.run o.left rest)
run_left k more left rest o e =
    e ∙ ap (λ (xs : List ℕ). xs ++ 10 ∷ rest) o.text
    ∙ append_assoc (place o.run ++ characters o.run.scalars) (runs_at (behind o.run) o.left) (10 ∷ rest)
    ∙ run_parts o.run (behind_text o.run o.left rest)

-- the cells of the run are shown, and end within the row
run_shown : (cs cells more : List Cell) (o : OneMore (length cells) more) → IsRow cs → cs ≡ cells ++ more → list_all is_shown (run_cells o.run) ≡ true
run_shown cs cells more o good all =
    let whole : list_all is_shown (cells ++ more) ≡ true = sym (ap (λ (xs : List Cell). list_all is_shown xs) all) ∙ good.shown in
    let rest : list_all is_shown (replicate o.count black ++ (run_cells o.run ++ o.left)) ≡ true = sym (ap (λ (xs : List Cell). list_all is_shown xs) o.all) ∙ (shown_parts cells more whole).1 in
    (shown_parts (run_cells o.run) o.left (shown_parts (replicate o.count black) (run_cells o.run ++ o.left) rest).1).0

run_inside : (cs cells more : List Cell) (o : OneMore (length cells) more) → IsRow cs → cs ≡ cells ++ more → behind o.run ≤ 60
run_inside cs cells more o good all =
    let one : length cs ≡ length cells + length more = ap (λ (xs : List Cell). length xs) all ∙ length-append cells more in
    let two : length more ≡ length (replicate o.count black) + length (run_cells o.run ++ o.left) = ap (λ (xs : List Cell). length xs) o.all ∙ length-append (replicate o.count black) (run_cells o.run ++ o.left) in
    let three : length (replicate o.count black) ≡ o.count = length-replicate o.count black in
    let four : length (run_cells o.run ++ o.left) ≡ length (run_cells o.run) + length o.left = length-append (run_cells o.run) o.left in
    let five : length (run_cells o.run) ≡ length o.run.scalars = length-map o.run.scalars (coloured o.run.fore o.run.back) in
    omega (arith, one, two, three, four, five, good.whole, o.first)

stands : (cs cells more : List Cell) (o : OneMore (length cells) more) → IsRow cs → cs ≡ cells ++ more → StandsBehind (length cells) (place_of o.run)
stands cs cells more o good all = run_stands (length cells) o.run o.count o.first o.some (run_inside cs cells more o good all) (run_shown cs cells more o good all)

fits : (cs cells more : List Cell) (o : OneMore (length cells) more) → IsRow cs → cs ≡ cells ++ more → FitInto (place_of o.run) (printed o.run.scalars)
fits cs cells more o good all = run_fits o.run o.some (run_shown cs cells more o good all)

-- nothing but the end of the line is left where the text does not begin with a space, and a run where it does
starts_run : (k : ℕ) (more : List Cell) (left rest : List ℕ) → NoMore k more → left ≡ runs_at k more ++ 10 ∷ rest → get_or left 0 0 ≡ 32 → ⊥
starts_run k more left rest none e space =
    let end : get_or left 0 0 ≡ 10 = ap (λ (xs : List ℕ). get_or xs 0 0) (e ∙ ap (λ (xs : List ℕ). xs ++ 10 ∷ rest) none.text) in
    absurd (omega (arith, end, space))

-- no run was found where one is left
no_run_in : (bytes left : List ℕ) (cells new cs : List Cell) (rest : List ℕ) → IsRow cs → (l : IsLeft cs cells left rest) → get_or left 0 0 ≡ 32 → IsRunFound left cells new None → NoMore (length cells) l.more ⊎ OneMore (length cells) l.more → ⊥
no_run_in bytes left cells new cs rest good l space found (inl none) = starts_run (length cells) l.more left rest none l.text space
no_run_in bytes left cells new cs rest good l space found (inr o) =
    nothing_is _ ⊥ (found.count (place_of o.run) (printed o.run.scalars) (stands cs cells l.more o good l.all) (fits cs cells l.more o good l.all) (behind_text o.run o.left rest) (run_left (length cells) l.more left rest o l.text))

pub no_run : (bytes left : List ℕ) (cells new : List Cell) (found : Option ℕ) → IsPart bytes left cells → get_or left 0 0 ≡ 32 → found ≡ None → IsRunFound left cells new found → AreCellsFound bytes None
no_run bytes left cells new found part space none run = λ cs good rest e.
    let l : IsLeft cs cells left rest = part.row cs good rest e in
    absurd (no_run_in bytes left cells new cs rest good l space (subst (λ (o : Option ℕ). IsRunFound left cells new o) none run) (next_at (length cells) l.more))

-- the run that was found is the one that is left, and the row goes on behind it
one_run_in : (left : List ℕ) (cells new cs : List Cell) (n : ℕ) (rest : List ℕ) → IsRow cs → (l : IsLeft cs cells left rest) → get_or left 0 0 ≡ 32 → IsRunFound left cells new (Some n) → NoMore (length cells) l.more ⊎ OneMore (length cells) l.more → IsLeft cs new (tail n left) rest
one_run_in left cells new cs n rest good l space found (inl none) = absurd (starts_run (length cells) l.more left rest none l.text space)
one_run_in left cells new cs n rest good l space found (inr o) =
    let p : Place = place_of o.run in
    let marks : List ℕ = printed o.run.scalars in
    let after : List ℕ = behind_text o.run o.left rest in
    let text : left ≡ place_text p (quoted_text marks ++ after) = run_left (length cells) l.more left rest o l.text in
    let st : StandsBehind (length cells) p = stands cs cells l.more o good l.all in
    let ft : FitInto p marks = fits cs cells l.more o good l.all in
    let count : n ≡ place_length p + length (quoted_text marks) = some_is n _ (found.count p marks st ft after text) in
    let put : new ≡ cells ++ (replicate o.count black ++ run_cells o.run) = found.put p marks st ft after text ∙ run_put cells o.run o.count o.first o.some in
    let end : length new ≡ behind o.run = run_end cells new o.run o.count o.first put in
    record {
      more = o.left;
      all = l.all ∙ ap (λ (xs : List Cell). cells ++ xs) (o.all ∙ sym (append_assoc (replicate o.count black) (run_cells o.run) o.left))
          ∙ sym (append_assoc cells (replicate o.count black ++ run_cells o.run) o.left)
          ∙ sym (ap (λ (xs : List Cell). xs ++ o.left) put);
      text = behind_run p (quoted_text marks) after left n text count ∙ sym (ap (λ (k : ℕ). runs_at k o.left ++ 10 ∷ rest) end);
    }
  where
    run_end : (cells new : List Cell) (r : Run) (count : ℕ) → r.first ≡ length cells + count → new ≡ cells ++ (replicate count black ++ run_cells r) → length new ≡ behind r
    run_end cells new r count first put =
        let one : length new ≡ length cells + length (replicate count black ++ run_cells r) = ap (λ (xs : List Cell). length xs) put ∙ length-append cells (replicate count black ++ run_cells r) in
        let two : length (replicate count black ++ run_cells r) ≡ length (replicate count black) + length (run_cells r) = length-append (replicate count black) (run_cells r) in
        let three : length (replicate count black) ≡ count = length-replicate count black in
        let four : length (run_cells r) ≡ length r.scalars = length-map r.scalars (coloured r.fore r.back) in
        omega (arith, one, two, three, four, first)

pub one_run : (bytes left : List ℕ) (cells new : List Cell) (found : Option ℕ) (n : ℕ) → IsPart bytes left cells → get_or left 0 0 ≡ 32 → found ≡ Some n → IsRunFound left cells new found → length new ≤ 60 → list_all is_shown new ≡ true → IsPart bytes (tail n left) new
one_run bytes left cells new found n part space some run within shown = record {
  within = within;
  shown = shown;
  row = λ cs good rest e.
      let l : IsLeft cs cells left rest = part.row cs good rest e in
      one_run_in left cells new cs n rest good l space (subst (λ (o : Option ℕ). IsRunFound left cells new o) some run) (next_at (length cells) l.more);
}

-- Nothing more is left but black cells.

pub whole_row : (bytes left : List ℕ) (cells new : List Cell) → IsPart bytes left cells → new ≡ filled cells 60 black → IsRow new
whole_row bytes left cells new part fill =
    let long : length new ≡ length cells + length (replicate (60 - length cells) black) = ap (λ (xs : List Cell). length xs) fill ∙ length-append cells (replicate (60 - length cells) black) in
    let behind : length (replicate (60 - length cells) black) ≡ 60 - length cells = length-replicate (60 - length cells) black in
    record {
      whole = omega (arith, long, behind, part.within);
      shown = ap (λ (xs : List Cell). list_all is_shown xs) fill ∙ shown_filled cells 60 black part.shown refl;
    }

row_end : (left : List ℕ) (cells new cs : List Cell) (rest : List ℕ) → IsRow cs → (l : IsLeft cs cells left rest) → ((ys : List ℕ) → left ≢ 32 ∷ ys) → new ≡ filled cells 60 black → NoMore (length cells) l.more ⊎ OneMore (length cells) l.more → new ≡ cs
row_end left cells new cs rest good l other fill (inl none) =
    let one : length cs ≡ length cells + length l.more = ap (λ (xs : List Cell). length xs) l.all ∙ length-append cells l.more in
    let two : length l.more ≡ none.count = ap (λ (xs : List Cell). length xs) none.all ∙ length-replicate none.count black in
    let count : 60 - length cells ≡ none.count = omega (arith, one, two, good.whole) in
    fill ∙ ap (λ (n : ℕ). cells ++ replicate n black) count ∙ sym (ap (λ (xs : List Cell). cells ++ xs) none.all) ∙ sym l.all
row_end left cells new cs rest good l other fill (inr o) = absurd (other _ (run_left (length cells) l.more left rest o l.text))

pub row_done : (bytes left : List ℕ) (cells new : List Cell) → IsPart bytes left cells → ((ys : List ℕ) → left ≢ 32 ∷ ys) → new ≡ filled cells 60 black → AreCellsFound bytes (Some new)
row_done bytes left cells new part other fill = λ cs good rest e.
    let l : IsLeft cs cells left rest = part.row cs good rest e in
    ap (λ (xs : List Cell). Some xs) (row_end left cells new cs rest good l other fill (next_at (length cells) l.more))
