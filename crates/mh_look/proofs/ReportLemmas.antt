-- A report, read part by part.
use Rattle.std.specs.Prelude.{◌≡◌, ◌≤◌, ℕ, ◌+◌, ◌-◌, List, [], ◌∷◌, ◌++◌, length, take, drop, Option, Some, None, refl}
use Rattle.std.proofs.Common.{ap, ◌∙◌, sym, arith, subst, append_assoc, append-nil}
use Rattle.std.proofs.lemmas.List.{length-append, length-drop, length-take-le, take-append-drop, drop-drop}
use Rattle.std.proofs.Math.Seq.{take-append_seam}
use Rattle.mh_model.specs.Planes.{Planes, blank}
use Rattle.mh_look.specs.declared.report.Part.{Part}
use Rattle.mh_look.specs.declared.report.Part.TheVariants as part
use Rattle.mh_look.specs.Report.{Report, lines_from, AreGood}
use Rattle.mh_look.specs.Reading.{Begins, IsReportOf}
use Rattle.mh_look.specs.Lines.{IsTotalFound}
use Rattle.mh_look.specs.Parts.{part_text, frames_behind, last_behind, IsPartFound}
use Rattle.mh_look.proofs.FrontLemmas.{left_behind, begins_within, slice_to_end}
use Rattle.mh_look.proofs.PartLemmas.{first_of_pair}
use Rattle.mh_look.proofs.BeginningLemmas.{lines_of_part, lines_end_frame, no_part_at_end, part_long}

-- The parts so far.

-- what of a report is left, where so much of it was read
pub record PartsLeft (bytes : List ℕ) (parts : List Part) (at frames : ℕ) (last : Planes) (r : Report) : Type 0 where
  pub left : List Part
  pub whole : r.parts ≡ parts ++ left
  pub good : AreGood left
  pub behind : drop at bytes ≡ lines_from frames last left r.total

pub record PartsSoFar (bytes : List ℕ) (parts : List Part) (at frames : ℕ) (last : Planes) : Type 0 where
  pub read : (ps : List Part) (total : ℕ) → lines_from 0 blank (parts ++ ps) total ≡ take at bytes ++ lines_from frames last ps total
  pub good : (ps : List Part) → AreGood ps → AreGood (parts ++ ps)
  pub taken : (r : Report) → IsReportOf bytes r → PartsLeft bytes parts at frames last r
  pub within : at ≤ length bytes
  pub few : frames + frames ≤ at

pub no_parts : (bytes : List ℕ) (last : Planes) (frames : ℕ) → frames ≡ 0 → last ≡ blank → PartsSoFar bytes [] 0 frames last
no_parts bytes last frames none black = record {
  read = λ ps total. ap (λ (k : ℕ). lines_from k blank ps total) (sym none) ∙ ap (λ (p : Planes). lines_from frames p ps total) (sym black);
  good = λ ps good. good;
  taken = λ r is. record {
    left = r.parts;
    whole = refl;
    good = is.good.parts;
    behind = sym is.printed ∙ ap (λ (k : ℕ). lines_from k blank r.parts r.total) (sym none) ∙ ap (λ (p : Planes). lines_from frames p r.parts r.total) (sym black);
  };
  within = omega arith;
  few = omega arith;
}

-- the front of the bytes, and the next part
front_more : (bytes text : List ℕ) (at n : ℕ) → at ≤ length bytes → Begins (drop at bytes) text n → take (at + n) bytes ≡ take at bytes ++ text
front_more bytes text at n within more =
    let left : List ℕ = drop n (drop at bytes) in
    let whole : bytes ≡ (take at bytes ++ text) ++ left = sym (take-append-drop at bytes) ∙ ap (λ (xs : List ℕ). take at bytes ++ xs) more.whole ∙ sym (append_assoc (take at bytes) text left) in
    let long : length (take at bytes ++ text) ≡ at + n = omega (arith, length-append (take at bytes) text, length-take-le at bytes within, more.long) in
    ap (λ (k : ℕ). take k bytes) (sym long) ∙ ap (take (length (take at bytes ++ text))) whole ∙ take-append_seam (take at bytes ++ text) left

frames_few : (k n at : ℕ) (before : Planes) (p : Part) → k + k ≤ at → 2 ≤ n → frames_behind k p + frames_behind k p ≤ at + n
frames_few k n at before (part.Fault f) few some = omega arith
frames_few k n at before (part.Refused m) few some = omega arith
frames_few k n at before (part.Did m left) few some = omega arith
frames_few k n at before (part.Frame p) few some = omega arith

-- what is left of a report, where the next part was read
part_left : (bytes : List ℕ) (parts : List Part) (at frames : ℕ) (last : Planes) (r : Report) (p : Part) (n : ℕ)
    → IsPartFound frames last (drop at bytes) (Some (p, n)) → PartsLeft bytes parts at frames last r → PartsLeft bytes (parts ++ p ∷ []) (at + n) (frames_behind frames p) (last_behind last p) r
part_left bytes parts at frames last r p n found l = by l.left l.whole l.good l.behind
  where
    front : Begins (drop at bytes) (part_text frames last p) n
    front = found.read p n refl

    by : (ps : List Part) → r.parts ≡ parts ++ ps → AreGood ps → drop at bytes ≡ lines_from frames last ps r.total → PartsLeft bytes (parts ++ p ∷ []) (at + n) (frames_behind frames p) (last_behind last p) r
    by [] whole good behind = absurd (no_part_at_end frames last p r.total (drop n (drop at bytes)) (sym behind ∙ front.whole))
    by (q ∷ qs) whole good behind =
        let rest : List ℕ = lines_from (frames_behind frames q) (last_behind last q) qs r.total in
        let here : drop at bytes ≡ part_text frames last q ++ rest = behind ∙ lines_of_part frames last q qs r.total in
        let pair : ◌≡◌ {A = Option (Part × ℕ)} (Some (p, n)) (Some (q, length (part_text frames last q))) = found.taken q good.0 rest (lines_end_frame (frames_behind frames q) (last_behind last q) qs r.total) here in
        let same : p ≡ q = first_of_pair p q n (length (part_text frames last q)) pair in
        let left : drop n (drop at bytes) ≡ rest = left_behind (drop at bytes) (part_text frames last q) rest n (subst (λ (x : Part). Begins (drop at bytes) (part_text frames last x) n) same front) here in
        record {
          left = qs;
          whole = whole ∙ sym (append_assoc parts (q ∷ []) qs) ∙ ap (λ (x : Part). (parts ++ x ∷ []) ++ qs) (sym same);
          good = good.1;
          behind = sym (drop-drop n at bytes) ∙ left ∙ ap (λ (x : Part). lines_from (frames_behind frames x) (last_behind last x) qs r.total) (sym same);
        }

pub part_more : (bytes : List ℕ) (parts : List Part) (at frames : ℕ) (last : Planes) (p : Part) (n : ℕ) → PartsSoFar bytes parts at frames last
    → IsPartFound frames last (drop at bytes) (Some (p, n)) → PartsSoFar bytes (parts ++ p ∷ []) (at + n) (frames_behind frames p) (last_behind last p)
part_more bytes parts at frames last p n so found =
    let front : Begins (drop at bytes) (part_text frames last p) n = found.read p n refl in
    let long : 2 ≤ n = omega (arith, part_long frames last p, front.long) in
    record {
      read = λ ps total.
          let rest : List ℕ = lines_from (frames_behind frames p) (last_behind last p) ps total in
          ap (λ (qs : List Part). lines_from 0 blank qs total) (append_assoc parts (p ∷ []) ps)
          ∙ so.read (p ∷ ps) total
          ∙ ap (λ (text : List ℕ). take at bytes ++ text) (lines_of_part frames last p ps total)
          ∙ sym (append_assoc (take at bytes) (part_text frames last p) rest)
          ∙ ap (λ (text : List ℕ). text ++ rest) (sym (front_more bytes (part_text frames last p) at n so.within front));
      good = λ ps good. subst (λ (qs : List Part). AreGood qs) (sym (append_assoc parts (p ∷ []) ps)) (so.good (p ∷ ps) (found.good p n refl, good));
      taken = λ r is. part_left bytes parts at frames last r p n found (so.taken r is);
      within = omega (arith, begins_within (drop at bytes) (part_text frames last p) n front, length-drop at bytes, so.within);
      few = frames_few frames n at last p so.few long;
    }

-- The end of a report.

pub report_found : (bytes : List ℕ) (parts : List Part) (at frames : ℕ) (last : Planes) (total : ℕ) → PartsSoFar bytes parts at frames last → IsTotalFound (drop at bytes) (Some total)
    → IsReportOf bytes (record { parts = parts; total = total })
report_found bytes parts at frames last total so found = record {
  good = record { parts = subst (λ (ps : List Part). AreGood ps) (append-nil parts) (so.good [] tt); total = found.good total refl };
  printed =
      ap (λ (ps : List Part). lines_from 0 blank ps total) (sym (append-nil parts))
      ∙ so.read [] total
      ∙ ap (λ (text : List ℕ). take at bytes ++ text) (sym (found.read total refl))
      ∙ take-append-drop at bytes;
}

reports_alike : (ps qs : List Part) (m n : ℕ) → ps ≡ qs → m ≡ n → ◌≡◌ {A = Report} (record { parts = ps; total = m }) (record { parts = qs; total = n })
reports_alike ps qs m n e d = rw (e, d) refl

pub report_only : (bytes : List ℕ) (parts : List Part) (at frames : ℕ) (last : Planes) (total : ℕ) → PartsSoFar bytes parts at frames last → IsTotalFound (drop at bytes) (Some total)
    → (other : Report) → IsReportOf bytes other → ◌≡◌ {A = Report} (record { parts = parts; total = total }) other
report_only bytes parts at frames last total so found other is = let l = so.taken other is in by l.left l.whole l.behind
  where
    by : (ps : List Part) → other.parts ≡ parts ++ ps → drop at bytes ≡ lines_from frames last ps other.total → ◌≡◌ {A = Report} (record { parts = parts; total = total }) other
    by [] whole behind =
        let told : Some total ≡ Some other.total = found.taken other.total is.good.total behind in
        let same : total ≡ other.total = cc in
        reports_alike parts other.parts total other.total (sym (whole ∙ append-nil parts)) same
    by (q ∷ qs) whole behind =
        absurd (no_part_at_end frames last q total (lines_from (frames_behind frames q) (last_behind last q) qs other.total) (sym (found.read total refl) ∙ behind ∙ lines_of_part frames last q qs other.total))

pub no_report : (bytes : List ℕ) (parts : List Part) (at frames : ℕ) (last : Planes) → PartsSoFar bytes parts at frames last → IsTotalFound (drop at bytes) None → IsPartFound frames last (drop at bytes) None
    → (r : Report) → IsReportOf bytes r → ⊥
no_report bytes parts at frames last so no_total no_part r is = let l = so.taken r is in by l.left l.good l.behind
  where
    by : (ps : List Part) → AreGood ps → drop at bytes ≡ lines_from frames last ps r.total → ⊥
    by [] good behind =
        let wrong : None ≡ Some r.total = no_total.taken r.total is.good.total behind in
        absurd (cc)
    by (q ∷ qs) good behind =
        let rest : List ℕ = lines_from (frames_behind frames q) (last_behind last q) qs r.total in
        let wrong : ◌≡◌ {A = Option (Part × ℕ)} None (Some (q, length (part_text frames last q))) =
        no_part.taken q good.0 rest (lines_end_frame (frames_behind frames q) (last_behind last q) qs r.total) (behind ∙ lines_of_part frames last q qs r.total) in
        absurd (cc)

-- what was found in a slice up to the end
pub part_here : (bytes : List ℕ) (at k : ℕ) (before : Planes) (found meant : Option (Part × ℕ)) → IsPartFound k before (take (length bytes - at) (drop at bytes)) found → found ≡ meant
    → IsPartFound k before (drop at bytes) meant
part_here bytes at k before found meant h e =
    subst (λ (o : Option (Part × ℕ)). IsPartFound k before (drop at bytes) o) e (subst (λ (xs : List ℕ). IsPartFound k before xs found) (slice_to_end bytes at) h)

pub total_here : (bytes : List ℕ) (at : ℕ) (found meant : Option ℕ) → IsTotalFound (take (length bytes - at) (drop at bytes)) found → found ≡ meant → IsTotalFound (drop at bytes) meant
total_here bytes at found meant h e =
    subst (λ (o : Option ℕ). IsTotalFound (drop at bytes) o) e (subst (λ (xs : List ℕ). IsTotalFound xs found) (slice_to_end bytes at) h)

pub so_far_as : (bytes : List ℕ) (parts parts' : List Part) (at k k' : ℕ) (before before' : Planes) → PartsSoFar bytes parts at k before → parts' ≡ parts → k' ≡ k → before' ≡ before
    → PartsSoFar bytes parts' at k' before'
so_far_as bytes parts parts' at k k' before before' so p q r =
    subst (λ (ps : List Part). PartsSoFar bytes ps at k' before') (sym p)
    (subst (λ (n : ℕ). PartsSoFar bytes parts at n before') (sym q) (subst (λ (x : Planes). PartsSoFar bytes parts at k x) (sym r) so))

-- a part takes some bytes, and no more than there are
pub part_moves : (k : ℕ) (before : Planes) (bytes : List ℕ) (p : Part) (n : ℕ) → IsPartFound k before bytes (Some (p, n)) → 2 ≤ n
part_moves k before bytes p n found = omega (arith, part_long k before p, (found.read p n refl).long)

pub part_within : (bytes : List ℕ) (at k : ℕ) (before : Planes) (p : Part) (n : ℕ) → at ≤ length bytes → IsPartFound k before (drop at bytes) (Some (p, n)) → at + n ≤ length bytes
part_within bytes at k before p n within found =
    omega (arith, begins_within (drop at bytes) (part_text k before p) n (found.read p n refl), length-drop at bytes, within)
