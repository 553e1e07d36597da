-- How the parts of a report begin, and what is found of each of them.
use Rattle.std.specs.Prelude.{◌≡◌, ◌≢◌, ◌≤◌, ℕ, ◌+◌, true, false, List, [], ◌∷◌, ◌++◌, length, take, drop, codes, Option, Some, None, IfSome, MatchOption, refl}
use Rattle.std.specs.Fmt.{decimal}
use Rattle.std.specs.Str.{bytes_eq}
use Rattle.std.proofs.Common.{ap, ◌∙◌, sym, arith, subst}
use Rattle.std.proofs.lemmas.Bool.Decides.{Decides-eqb}
use Rattle.std.proofs.lemmas.Slice.Eq.{starts_is}
use Rattle.mh_group.specs.Words.{action_word}
use Rattle.mh_model.specs.Planes.{Planes}
use Rattle.mh_told.specs.Frame.{frame_text, row_changes}
use Rattle.mh_told.specs.Told.{fault_line, fault_word, refused_line, did_line, rest_word, total_line}
use Rattle.mh_look.specs.declared.report.Part.{Part}
use Rattle.mh_look.specs.declared.report.Part.TheVariants as part
use Rattle.mh_look.specs.Report.{lines_from, IsGoodPart}
use Rattle.mh_look.specs.Reading.{Begins, EndsFrame, IsFrameFound}
use Rattle.mh_look.specs.Lines.{line_text, IsGoodLine, IsLineFound}
use Rattle.mh_look.specs.Parts.{part_text, frames_behind, last_behind, IsPartFound, IsNextFound}
use Rattle.mh_look.proofs.PartLemmas.{first_of_pair, second_of_pair}

-- How texts begin: with their first two letters.

pub record Starts (a b : ℕ) (text : List ℕ) : Type 0 where
  pub behind : List ℕ
  pub whole : text ≡ a ∷ b ∷ behind

starts_before : (a b : ℕ) (text rest : List ℕ) → Starts a b text → Starts a b (text ++ rest)
starts_before a b text rest s = record { behind = s.behind ++ rest; whole = ap (λ (xs : List ℕ). xs ++ rest) s.whole }

starts_first : (a b c d : ℕ) (text : List ℕ) → Starts a b text → Starts c d text → a ≡ c
starts_first a b c d text s t = let e : a ∷ b ∷ s.behind ≡ c ∷ d ∷ t.behind = sym s.whole ∙ t.whole in cc

starts_second : (a b c d : ℕ) (text : List ℕ) → Starts a b text → Starts c d text → b ≡ d
starts_second a b c d text s t = let e : a ∷ b ∷ s.behind ≡ c ∷ d ∷ t.behind = sym s.whole ∙ t.whole in cc

fault_starts : (f : _) → Starts 102 97 (fault_line f)
unfolding fault_line
fault_starts f = record {
  behind = codes "ult " ++ fault_word f.what ++ codes " " ++ action_word f.action ++ codes " " ++ f.at.group ++ codes " " ++ decimal f.at.number ++ 10 ∷ [];
  whole = refl;
}

refused_starts : (n : ℕ) → Starts 114 101 (refused_line n)
unfolding refused_line
refused_starts n = record { behind = codes "fused " ++ decimal n ++ 10 ∷ []; whole = refl }

did_starts : (n : ℕ) (left : _) → Starts 100 105 (did_line n left)
unfolding did_line
did_starts n left = record { behind = codes "d " ++ decimal n ++ rest_word left ++ 10 ∷ []; whole = refl }

frame_starts : (k : ℕ) (before p : Planes) → Starts 102 114 (frame_text k before p)
frame_starts k before p = record { behind = codes "ame " ++ decimal k ++ 10 ∷ [] ++ row_changes before p; whole = refl }

pub total_starts : (n : ℕ) → Starts 116 111 (total_line n)
unfolding total_line
total_starts n = record { behind = codes "tal " ++ decimal n ++ 10 ∷ []; whole = refl }

-- no part begins like a row, or like the end of a report
pub record IsOther (text : List ℕ) : Type 0 where
  pub first : ℕ
  pub second : ℕ
  pub starts : Starts first second text
  pub no_total : first ≢ 116
  pub no_row : (first ≡ 114 → second ≡ 111 → ⊥)

part_is_other : (k : ℕ) (before : Planes) (p : Part) → IsOther (part_text k before p)
part_is_other k before (part.Fault f) = record { first = 102; second = 97; starts = fault_starts f; no_total = λ e. omega arith; no_row = λ e d. omega arith }
part_is_other k before (part.Refused n) = record { first = 114; second = 101; starts = refused_starts n; no_total = λ e. omega arith; no_row = λ e d. omega arith }
part_is_other k before (part.Did n left) = record { first = 100; second = 105; starts = did_starts n left; no_total = λ e. omega arith; no_row = λ e d. omega arith }
part_is_other k before (part.Frame p) = record { first = 102; second = 114; starts = frame_starts (k + 1) before p; no_total = λ e. omega arith; no_row = λ e d. omega arith }

-- the lines of parts, the first of them in front
pub lines_of_part : (k : ℕ) (before : Planes) (p : Part) (ps : List Part) (total : ℕ)
    → lines_from k before (p ∷ ps) total ≡ part_text k before p ++ lines_from (frames_behind k p) (last_behind before p) ps total
lines_of_part k before (part.Fault f) ps total = refl
lines_of_part k before (part.Refused n) ps total = refl
lines_of_part k before (part.Did n left) ps total = refl
lines_of_part k before (part.Frame p) ps total = refl

no_row_here : (text : List ℕ) (back : List ℕ) → IsOther text → text ≡ codes "row " ++ back → ⊥
no_row_here text back other e =
    let row : Starts 114 111 text = record { behind = 119 ∷ 32 ∷ back; whole = e } in
    other.no_row (starts_first other.first other.second 114 111 text other.starts row) (starts_second other.first other.second 114 111 text other.starts row)

-- whatever stands behind a part ends a frame
pub lines_end_frame : (k : ℕ) (before : Planes) (ps : List Part) (total : ℕ) → EndsFrame (lines_from k before ps total)
lines_end_frame k before [] total back e =
    let row : Starts 114 111 (total_line total) = record { behind = 119 ∷ 32 ∷ back; whole = e } in
    let wrong : ◌≡◌ {A = ℕ} 116 114 = starts_first 116 111 114 111 (total_line total) (total_starts total) row in
    absurd (omega arith)
lines_end_frame k before (p ∷ ps) total back e =
    let other = part_is_other k before p in
    let behind : List ℕ = lines_from (frames_behind k p) (last_behind before p) ps total in
    let whole : IsOther (part_text k before p ++ behind) =
    record { first = other.first; second = other.second; starts = starts_before other.first other.second (part_text k before p) behind other.starts; no_total = other.no_total; no_row = other.no_row } in
    no_row_here (part_text k before p ++ behind) back whole (sym (lines_of_part k before p ps total) ∙ e)

-- the end of a report is no part
pub no_part_at_end : (k : ℕ) (before : Planes) (p : Part) (total : ℕ) (rest : List ℕ) → total_line total ≡ part_text k before p ++ rest → ⊥
no_part_at_end k before p total rest e =
    let other = part_is_other k before p in
    let here : Starts 116 111 (part_text k before p ++ rest) = subst (λ (text : List ℕ). Starts 116 111 text) e (total_starts total) in
    other.no_total (starts_first other.first other.second 116 111 (part_text k before p ++ rest) (starts_before other.first other.second (part_text k before p) rest other.starts) here)

pub part_long : (k : ℕ) (before : Planes) (p : Part) → 2 ≤ length (part_text k before p)
part_long k before p = let other = part_is_other k before p in omega (arith, ap length other.starts.whole)

-- Lines and frames are parts.

good_line_is_good : (p : Part) → IsGoodLine p → IsGoodPart p
good_line_is_good (part.Fault f) good = good
good_line_is_good (part.Refused n) good = good
good_line_is_good (part.Did n left) good = good
good_line_is_good (part.Frame p) good = absurd good

line_is_part : (k : ℕ) (before : Planes) (p : Part) → IsGoodLine p → line_text p ≡ part_text k before p
line_is_part k before (part.Fault f) good = refl
line_is_part k before (part.Refused n) good = refl
line_is_part k before (part.Did n left) good = refl
line_is_part k before (part.Frame p) good = absurd good

pub line_part_found : (k : ℕ) (before : Planes) (bytes : List ℕ) (found : Option (Part × ℕ)) → ((rest : List ℕ) → bytes ≢ codes "frame " ++ rest) → IsLineFound bytes found → IsPartFound k before bytes found
line_part_found k before bytes found no_frame line = record {
  read = λ p n e. subst (λ (text : List ℕ). Begins bytes text n) (line_is_part k before p (line.good p n e)) (line.read p n e);
  good = λ p n e. good_line_is_good p (line.good p n e);
  taken = taken;
}
  where
    taken : (p : Part) → IsGoodPart p → (rest : List ℕ) → EndsFrame rest → bytes ≡ part_text k before p ++ rest → found ≡ Some (p, length (part_text k before p))
    taken (part.Fault f) good rest ends e = line.taken (part.Fault f) good rest e
    taken (part.Refused n) good rest ends e = line.taken (part.Refused n) good rest e
    taken (part.Did n left) good rest ends e = line.taken (part.Did n left) good rest e
    taken (part.Frame p) good rest ends e = absurd (no_frame ((decimal (k + 1) ++ 10 ∷ [] ++ row_changes before p) ++ rest) e)

pub frame_part_found : (k : ℕ) (before : Planes) (bytes rest : List ℕ) (found : Option (Part × ℕ)) → bytes ≡ codes "frame " ++ rest → IsNextFound k before bytes found → IsPartFound k before bytes found
frame_part_found k before bytes back found frame next = record {
  read = next.read;
  good = next.good;
  taken = taken;
}
  where
    here : Starts 102 114 bytes
    here = record { behind = codes "ame " ++ back; whole = frame }

    there : (a b : ℕ) (text rest : List ℕ) → Starts a b text → bytes ≡ text ++ rest → Starts a b bytes
    there a b text rest s e = subst (λ (xs : List ℕ). Starts a b xs) (sym e) (starts_before a b text rest s)

    taken : (p : Part) → IsGoodPart p → (rest : List ℕ) → EndsFrame rest → bytes ≡ part_text k before p ++ rest → found ≡ Some (p, length (part_text k before p))
    taken (part.Fault f) good rest ends e =
        let wrong : ◌≡◌ {A = ℕ} 114 97 = starts_second 102 114 102 97 bytes here (there 102 97 (fault_line f) rest (fault_starts f) e) in
        absurd (omega arith)
    taken (part.Refused n) good rest ends e =
        let wrong : ◌≡◌ {A = ℕ} 102 114 = starts_first 102 114 114 101 bytes here (there 114 101 (refused_line n) rest (refused_starts n) e) in
        absurd (omega arith)
    taken (part.Did n left) good rest ends e =
        let wrong : ◌≡◌ {A = ℕ} 102 100 = starts_first 102 114 100 105 bytes here (there 100 105 (did_line n left) rest (did_starts n left) e) in
        absurd (omega arith)
    taken (part.Frame p) good rest ends e = next.taken p good rest ends e

pub no_next : (k : ℕ) (before : Planes) (bytes : List ℕ) (after : Planes) → IsFrameFound (k + 1) before bytes after None → IsNextFound k before bytes None
no_next k before bytes after frame = record {
  read = λ p n e. absurd (cc);
  good = λ p n e. absurd (cc);
  taken = λ p shown rest ends e. let wrong : None ≡ Some (length (frame_text (k + 1) before p)) = frame.taken p shown rest ends e in absurd (cc);
}

pub next_found : (k : ℕ) (before : Planes) (bytes : List ℕ) (after : Planes) (n : ℕ) → IsFrameFound (k + 1) before bytes after (Some n) → IsNextFound k before bytes (Some (part.Frame after, n))
next_found k before bytes after n frame = record {
  read = λ p m e.
      let same : part.Frame after ≡ p = first_of_pair (part.Frame after) p n m e in
      subst (λ (q : Part). Begins bytes (part_text k before q) m) same (subst (λ (i : ℕ). Begins bytes (frame_text (k + 1) before after) i) (second_of_pair (part.Frame after) p n m e) (frame.read n refl));
  good = λ p m e. subst (λ (q : Part). IsGoodPart q) (first_of_pair (part.Frame after) p n m e) (frame.shown n refl);
  taken = λ p shown rest ends e.
      let same : after ≡ p = frame.same p shown rest ends e in
      let long : Some n ≡ Some (length (frame_text (k + 1) before p)) = frame.taken p shown rest ends e in
      let count : n ≡ length (frame_text (k + 1) before p) = cc in
      ap (λ (q : Planes). Some (part.Frame q, n)) same ∙ ap (λ (i : ℕ). Some (part.Frame p, i)) count;
}

-- lines leave the last frame as it is
pub line_keeps_count : (k : ℕ) (bytes : List ℕ) (found : Option (Part × ℕ)) → IsLineFound bytes found → MatchOption found (k ≡ k) (λ x. k ≡ frames_behind k x.0)
line_keeps_count k bytes None line = refl
line_keeps_count k bytes (Some (p, n)) line = by p (line.good p n refl)
  where
    by : (q : Part) → IsGoodLine q → k ≡ frames_behind k q
    by (part.Fault f) good = refl
    by (part.Refused m) good = refl
    by (part.Did m left) good = refl
    by (part.Frame p) good = absurd good

pub line_keeps_last : (before : Planes) (bytes : List ℕ) (found : Option (Part × ℕ)) → IsLineFound bytes found → IfSome found (λ x. before ≡ last_behind before x.0)
line_keeps_last before bytes None line = tt
line_keeps_last before bytes (Some (p, n)) line = by p (line.good p n refl)
  where
    by : (q : Part) → IsGoodLine q → before ≡ last_behind before q
    by (part.Fault f) good = refl
    by (part.Refused m) good = refl
    by (part.Did m left) good = refl
    by (part.Frame p) good = absurd good

-- whether the bytes begin with the word of a frame
pub frame_ahead : (bytes : List ℕ) → bytes_eq (codes "frame ") (take 6 bytes) ≡ true → bytes ≡ codes "frame " ++ drop 6 bytes
frame_ahead bytes same = (starts_is Decides-eqb bytes (codes "frame ") true (sym same)).0 refl

pub no_frame_ahead : (bytes : List ℕ) → bytes_eq (codes "frame ") (take 6 bytes) ≡ false → (rest : List ℕ) → bytes ≢ codes "frame " ++ rest
no_frame_ahead bytes other rest e = let wrong : false ≡ true = (starts_is Decides-eqb bytes (codes "frame ") false (sym other)).1 rest e in cc
