-- The rows of a frame, found one by one.
use Rattle.std.specs.Prelude.{◌≡◌, ◌≢◌, ◌<◌, ◌≤◌, ℕ, zero, suc, ◌+◌, ◌-◌, ◌/◌, ◌%◌, ◌==◌, Bool, true, false, if◌then◌else◌, List, [], ◌∷◌, ◌++◌, length, drop, codes, Option, Some, None, refl}
use Rattle.std.specs.List.{flat_map, range_with_len}
use Rattle.std.proofs.Common.{ap, ◌∙◌, sym, arith, subst, append_assoc}
use Rattle.std.proofs.lemmas.Bool.Decides.{Decides-eqb}
use Rattle.std.proofs.lemmas.List.{length-append}
use Rattle.mh_model.specs.declared.picture.cell.Cell.{Cell}
use Rattle.mh_model.specs.Planes.{Planes, IsWhole}
use Rattle.mh_told.specs.Printing.{two_digits}
use Rattle.mh_told.specs.Frame.{differ, runs, row_line, row_cells, row_change, row_changes, frame_text}
use Rattle.mh_told.proofs.FrameLemmas.{rows_more}
use Rattle.mh_look.specs.Report.{IsShown}
use Rattle.mh_look.specs.Reading.{Begins, IsRow, IsRowFound, SameBut, EndsFrame, IsFrameFound}
use Rattle.mh_look.specs.Front.{IsInFront}
use Rattle.mh_look.specs.Changes.{row_front, change, head, EndsRow, IsChangeFound, AreChangesFound}
use Rattle.mh_look.proofs.FrontLemmas.{begins, left_behind}
use Rattle.mh_look.proofs.PictureLemmas.{either_way, differ_self, same_rows, row_shown, all_shown, same_pictures}

-- The line of one row.

no_change : (j : ℕ) (old new : List Cell) → differ old new ≡ false → change j old new ≡ []
no_change j old new e = ap (λ (t : Bool). if t then row_line j new else []) e

a_change : (j : ℕ) (old new : List Cell) → differ old new ≡ true → change j old new ≡ row_line j new
a_change j old new e = ap (λ (t : Bool). if t then row_line j new else []) e

-- where no line of the row stands, the row is the same
stays : (j : ℕ) (old cs : List Cell) (bytes rest : List ℕ) → IsInFront bytes (row_front j) None → bytes ≡ change j old cs ++ rest → differ old cs ≡ false
stays j old cs bytes rest front e =
    either_way (differ old cs)
    (λ so.
    let there : bytes ≡ row_line j cs ++ rest = e ∙ ap (λ (text : List ℕ). text ++ rest) (a_change j old cs so) in
    let wrong : None ≡ Some (length (row_front j)) = front.taken ((runs cs ++ 10 ∷ []) ++ rest) there in
    absurd (cc))
    (λ so. so)

same_as : (j : ℕ) (old cs : List Cell) (bytes rest : List ℕ) → length old ≡ 60 → IsRow cs → IsInFront bytes (row_front j) None → bytes ≡ change j old cs ++ rest → old ≡ cs
same_as j old cs bytes rest long row front e = same_rows old cs (long ∙ sym row.whole) (stays j old cs bytes rest front e)

nothing_begins : (bytes : List ℕ) → Begins bytes [] 0
nothing_begins bytes = record { whole = refl; long = refl }

pub kept : (j : ℕ) (cells : List Cell) (bytes : List ℕ) → length cells ≡ 60 → IsInFront bytes (row_front j) None → IsRow cells → IsChangeFound j cells bytes cells (Some 0)
kept j cells bytes long front row = record {
  read = λ n e.
      let none : 0 ≡ n = cc in
      let empty : [] ≡ change j cells cells = sym (no_change j cells cells (differ_self cells)) in
      subst (λ (k : ℕ). Begins bytes (change j cells cells) k) none (subst (λ (text : List ℕ). Begins bytes text 0) empty (nothing_begins bytes));
  shown = λ n e. row;
  taken = λ cs is_good rest ends e.
      let empty : change j cells cs ≡ [] = no_change j cells cs (stays j cells cs bytes rest front e) in
      ap (λ (text : List ℕ). Some (length text)) (sym empty);
  same = λ cs is_good rest ends e. same_as j cells cs bytes rest long is_good front e;
}

pub not_kept : (j : ℕ) (cells : List Cell) (bytes : List ℕ) → length cells ≡ 60 → IsInFront bytes (row_front j) None → (IsRow cells → ⊥) → IsChangeFound j cells bytes cells None
not_kept j cells bytes long front no_row = record {
  read = λ n e. absurd (cc);
  shown = λ n e. absurd (cc);
  taken = λ cs is_good rest ends e. absurd (no_row (subst (λ (x : List Cell). IsRow x) (sym (same_as j cells cs bytes rest long is_good front e)) is_good));
  same = λ cs is_good rest ends e. same_as j cells cs bytes rest long is_good front e;
}

-- where a line of the row stands, the row differs
pub record Differs (j : ℕ) (old cs : List Cell) (bytes rest : List ℕ) : Type 0 where
  pub so : differ old cs ≡ true
  pub there : bytes ≡ row_line j cs ++ rest

changes_there : (j m : ℕ) (old cs : List Cell) (bytes rest : List ℕ) → IsInFront bytes (row_front j) (Some m) → EndsRow j rest → bytes ≡ change j old cs ++ rest → Differs j old cs bytes rest
changes_there j m old cs bytes rest front ends e =
    either_way (differ old cs)
    (λ so. record { so = so; there = e ∙ ap (λ (text : List ℕ). text ++ rest) (a_change j old cs so) })
    (λ so.
    let nothing : bytes ≡ rest = e ∙ ap (λ (text : List ℕ). text ++ rest) (no_change j old cs so) in
    absurd (ends (drop m bytes) (sym nothing ∙ (front.read m refl).whole)))

not_alike : (old new : List Cell) → old ≡ new → differ old new ≡ true → ⊥
not_alike old new same so = let wrong : false ≡ true = sym (differ_self old) ∙ ap (differ old) same ∙ so in absurd (cc)

pub unchanged : (j m : ℕ) (old new : List Cell) (bytes : List ℕ) (found : Option ℕ) → IsInFront bytes (row_front j) (Some m) → IsRowFound j bytes new found → old ≡ new → IsChangeFound j old bytes new None
unchanged j m old new bytes found front row alike = record {
  read = λ n e. absurd (cc);
  shown = λ n e. absurd (cc);
  taken = λ cs is_good rest ends e.
      let d = changes_there j m old cs bytes rest front ends e in
      absurd (not_alike old cs (alike ∙ row.same cs is_good rest d.there) d.so);
  same = λ cs is_good rest ends e. row.same cs is_good rest (changes_there j m old cs bytes rest front ends e).there;
}

pub changed : (j m : ℕ) (old new : List Cell) (bytes : List ℕ) (found : Option ℕ) → length old ≡ 60 → length new ≡ 60 → IsInFront bytes (row_front j) (Some m) → IsRowFound j bytes new found → old ≢ new → IsChangeFound j old bytes new found
changed j m old new bytes found long long' front row other =
    let so : differ old new ≡ true = either_way (differ old new) (λ h. h) (λ h. absurd (other (same_rows old new (long ∙ sym long') h))) in
    record {
      read = λ n e. subst (λ (text : List ℕ). Begins bytes text n) (sym (a_change j old new so)) (row.read n e);
      shown = row.shown;
      taken = λ cs is_good rest ends e.
          let d = changes_there j m old cs bytes rest front ends e in
          row.taken cs is_good rest d.there ∙ ap (λ (text : List ℕ). Some (length text)) (sym (a_change j old cs d.so));
      same = λ cs is_good rest ends e. row.same cs is_good rest (changes_there j m old cs bytes rest front ends e).there;
    }

-- The lines of rows that follow one another.

abbrev pub changes : ℕ → ℕ → Planes → Planes → List ℕ
changes j n before after = flat_map (row_change before after) (range_with_len j n)

row_change_is : (before after : Planes) (j : ℕ) → row_change before after j ≡ change j (row_cells before j) (row_cells after j)
unfolding row_change
row_change_is before after j = refl

all_changes : (before after : Planes) → row_changes before after ≡ changes 0 36 before after
unfolding row_changes
all_changes before after = refl

row_number : (j k : ℕ) (x y : List ℕ) → row_front k ++ x ≡ row_front j ++ y → k ≡ j
row_number j k x y e =
    let tens : 48 + k / 10 ≡ 48 + j / 10 = cc in
    let ones : 48 + k % 10 ≡ 48 + j % 10 = cc in
    omega arith

-- behind a row stand only lines of rows further down
later_rows : (before p : Planes) (rest : List ℕ) → EndsFrame rest → (n j k : ℕ) → j < k → EndsRow j (changes k n before p ++ rest)
later_rows before p rest ends zero j k low back e = ends (two_digits j ++ codes ":" ++ back) e
later_rows before p rest ends (suc n) j k low back e =
    let more : EndsRow j (changes (k + 1) n before p ++ rest) = later_rows before p rest ends n j (k + 1) (omega arith) in
    let first : row_change before p k ++ (changes (k + 1) n before p ++ rest) ≡ row_front j ++ back = sym (append_assoc (row_change before p k) (changes (k + 1) n before p) rest) ∙ e in
    either_way (differ (row_cells before k) (row_cells p k))
    (λ so.
    let text : row_change before p k ≡ row_line k (row_cells p k) = row_change_is before p k ∙ a_change k (row_cells before k) (row_cells p k) so in
    let line : row_line k (row_cells p k) ++ (changes (k + 1) n before p ++ rest) ≡ row_front j ++ back = ap (λ (t : List ℕ). t ++ (changes (k + 1) n before p ++ rest)) (sym text) ∙ first in
    let same : k ≡ j = row_number j k ((runs (row_cells p k) ++ 10 ∷ []) ++ (changes (k + 1) n before p ++ rest)) back line in
    absurd (omega arith))
    (λ so.
    let text : row_change before p k ≡ [] = row_change_is before p k ∙ no_change k (row_cells before k) (row_cells p k) so in
    more back (ap (λ (t : List ℕ). t ++ (changes (k + 1) n before p ++ rest)) (sym text) ∙ first))

-- the lines of rows that are the same in two pictures
same_changes : (before p q : Planes) (n a : ℕ) → ((k : ℕ) → a ≤ k → k < a + n → row_cells p k ≡ row_cells q k) → changes a n before p ≡ changes a n before q
same_changes before p q zero a rows = refl
same_changes before p q (suc n) a rows =
    let here : row_change before p a ≡ row_change before q a = row_change_is before p a ∙ ap (change a (row_cells before a)) (rows a (omega arith) (omega arith)) ∙ sym (row_change_is before q a) in
    ap (λ (text : List ℕ). text ++ changes (a + 1) n before p) here
    ∙ ap (λ (text : List ℕ). row_change before q a ++ text) (same_changes before p q n (a + 1) (λ k low high. rows k (omega arith) (omega arith)))

-- one text behind another
pub begins_both : (bytes s t : List ℕ) (a b : ℕ) → Begins bytes s a → Begins (drop a bytes) t b → Begins bytes (s ++ t) (a + b)
begins_both bytes s t a b front more =
    let left : List ℕ = drop b (drop a bytes) in
    let whole : bytes ≡ (s ++ t) ++ left = front.whole ∙ ap (λ (xs : List ℕ). s ++ xs) more.whole ∙ sym (append_assoc s t left) in
    let long : length (s ++ t) ≡ a + b = omega (arith, length-append s t, front.long, more.long) in
    subst (λ (n : ℕ). Begins bytes (s ++ t) n) long (begins bytes (s ++ t) left whole)

-- The rows so far.

pub record RowsSoFar (j : ℕ) (before : Planes) (bytes : List ℕ) (after : Planes) (at : ℕ) : Type 0 where
  pub read : Begins bytes (changes 0 j before after) at
  pub left : (k : ℕ) → j ≤ k → k < 36 → row_cells after k ≡ row_cells before k
  pub shown : (k : ℕ) → k < j → IsRow (row_cells after k)
  pub taken : (p : Planes) → IsShown p → (rest : List ℕ) → EndsFrame rest → bytes ≡ row_changes before p ++ rest → drop at bytes ≡ changes j (36 - j) before p ++ rest
  pub same : (p : Planes) → IsShown p → (rest : List ℕ) → EndsFrame rest → bytes ≡ row_changes before p ++ rest → (k : ℕ) → k < j → row_cells after k ≡ row_cells p k

pub no_rows : (before : Planes) (bytes : List ℕ) (after : Planes) → after ≡ before → RowsSoFar 0 before bytes after 0
no_rows before bytes after same = record {
  read = nothing_begins bytes;
  left = λ k low high. ap (λ (p : Planes). row_cells p k) same;
  shown = λ k low. absurd (omega arith);
  taken = λ p shown rest ends e. e ∙ ap (λ (text : List ℕ). text ++ rest) (all_changes before p);
  same = λ p shown rest ends e k low. absurd (omega arith);
}

-- the line of the next row and what is left behind it
next_line : (j : ℕ) (before : Planes) (bytes : List ℕ) (after : Planes) (at : ℕ) (p : Planes) (rest : List ℕ) → j < 36 → drop at bytes ≡ changes j (36 - j) before p ++ rest
    → drop at bytes ≡ change j (row_cells before j) (row_cells p j) ++ (changes (j + 1) (36 - (j + 1)) before p ++ rest)
next_line j before bytes after at p rest inside e =
    let count : 36 - j ≡ suc (36 - (j + 1)) = omega arith in
    e ∙ ap (λ (n : ℕ). changes j n before p ++ rest) count
    ∙ append_assoc (row_change before p j) (changes (j + 1) (36 - (j + 1)) before p) rest
    ∙ ap (λ (text : List ℕ). text ++ (changes (j + 1) (36 - (j + 1)) before p ++ rest)) (row_change_is before p j)

-- a row is the one at hand, or one before it
at_or_before : (P : ℕ → Type 0) (j k : ℕ) → k < j + 1 → (k < j → P k) → P j → P k
at_or_before P j k low front here =
    either_way (k == j)
    (λ so. subst P (sym ((Decides-eqb k j).0 so)) here)
    (λ so.
    let other : k ≢ j = λ e. let wrong : true ≡ false = sym ((Decides-eqb k j).1 e) ∙ so in absurd (cc) in
    front (omega arith))

pub row_more : (j : ℕ) (before : Planes) (bytes : List ℕ) (after after' : Planes) (at n : ℕ) → j < 36 → RowsSoFar j before bytes after at
    → IsChangeFound j (row_cells before j) (drop at bytes) (row_cells after' j) (Some n) → SameBut j after after' → RowsSoFar (j + 1) before bytes after' (at + n)
row_more j before bytes after after' at n inside so found others =
    let front : List ℕ = changes 0 j before after in
    let line : List ℕ = change j (row_cells before j) (row_cells after' j) in
    let rows : changes 0 (j + 1) before after' ≡ front ++ line =
    rows_more (row_change before after') j
    ∙ ap (λ (text : List ℕ). text ++ row_change before after' j) (same_changes before after' after j 0 (λ k low high. let other : k ≢ j = omega arith in sym (others k (omega arith) other)))
    ∙ ap (λ (text : List ℕ). front ++ text) (row_change_is before after' j) in
    let both : Begins bytes (front ++ line) (at + n) = begins_both bytes front line at n so.read (found.read n refl) in
    record {
      read = subst (λ (text : List ℕ). Begins bytes text (at + n)) (sym rows) both;
      left = λ k low high. let other : k ≢ j = omega arith in sym (others k high other) ∙ so.left k (omega arith) high;
      shown = λ k low.
          at_or_before (λ i. IsRow (row_cells after' i)) j k low
          (λ lower. let other : k ≢ j = omega arith in subst (λ (cs : List Cell). IsRow cs) (others k (omega arith) other) (so.shown k lower))
          (found.shown n refl);
      taken = λ p shown rest ends e.
          let behind : List ℕ = changes (j + 1) (36 - (j + 1)) before p ++ rest in
          let here : drop at bytes ≡ change j (row_cells before j) (row_cells p j) ++ behind = next_line j before bytes after at p rest inside (so.taken p shown rest ends e) in
          let same : row_cells after' j ≡ row_cells p j = found.same (row_cells p j) (row_shown p j shown inside) behind (later_rows before p rest ends (36 - (j + 1)) j (j + 1) (omega arith)) here in
          let whole : bytes ≡ (front ++ line) ++ behind =
          so.read.whole ∙ ap (λ (xs : List ℕ). front ++ xs) (here ∙ ap (λ (cs : List Cell). change j (row_cells before j) cs ++ behind) (sym same)) ∙ sym (append_assoc front line behind) in
          left_behind bytes (front ++ line) behind (at + n) both whole;
      same = λ p shown rest ends e k low.
          at_or_before (λ i. row_cells after' i ≡ row_cells p i) j k low
          (λ lower. let other : k ≢ j = omega arith in sym (others k (omega arith) other) ∙ so.same p shown rest ends e k lower)
          (found.same (row_cells p j) (row_shown p j shown inside) (changes (j + 1) (36 - (j + 1)) before p ++ rest)
          (later_rows before p rest ends (36 - (j + 1)) j (j + 1) (omega arith)) (next_line j before bytes after at p rest inside (so.taken p shown rest ends e)));
    }

pub row_missing : (j : ℕ) (before : Planes) (bytes : List ℕ) (after : Planes) (at : ℕ) (after' : Planes) → j < 36 → RowsSoFar j before bytes after at
    → IsChangeFound j (row_cells before j) (drop at bytes) (row_cells after' j) None → AreChangesFound before bytes after' None
row_missing j before bytes after at after' inside so found =
    let never : (p : Planes) → IsShown p → (rest : List ℕ) → EndsFrame rest → bytes ≡ row_changes before p ++ rest → ⊥ = λ p shown rest ends e.
    let wrong : None ≡ Some (length (change j (row_cells before j) (row_cells p j))) =
    found.taken (row_cells p j) (row_shown p j shown inside) (changes (j + 1) (36 - (j + 1)) before p ++ rest)
    (later_rows before p rest ends (36 - (j + 1)) j (j + 1) (omega arith)) (next_line j before bytes after at p rest inside (so.taken p shown rest ends e)) in
    absurd (cc) in
    record {
      read = λ n e. absurd (cc);
      shown = λ n e. absurd (cc);
      taken = λ p shown rest ends e. absurd (never p shown rest ends e);
      same = λ p shown rest ends e. absurd (never p shown rest ends e);
    }

pub all_rows : (before : Planes) (bytes : List ℕ) (after : Planes) (at : ℕ) → IsWhole after → RowsSoFar 36 before bytes after at → AreChangesFound before bytes after (Some at)
all_rows before bytes after at whole so =
    let text : changes 0 36 before after ≡ row_changes before after = sym (all_changes before after) in
    let front : Begins bytes (row_changes before after) at = subst (λ (t : List ℕ). Begins bytes t at) text so.read in
    let alike : (p : Planes) → IsShown p → (rest : List ℕ) → EndsFrame rest → bytes ≡ row_changes before p ++ rest → after ≡ p = λ p shown rest ends e.
    same_pictures after p whole shown.whole (λ j inside. so.same p shown rest ends e j inside) in
    record {
      read = λ n e. let same : at ≡ n = cc in subst (λ (k : ℕ). Begins bytes (row_changes before after) k) same front;
      shown = λ n e. all_shown after whole so.shown;
      taken = λ p shown rest ends e. ap (λ (k : ℕ). Some k) (sym front.long) ∙ ap (λ (q : Planes). Some (length (row_changes before q))) (alike p shown rest ends e);
      same = alike;
    }

-- A frame.

frame_text_is : (k : ℕ) (before p : Planes) (rest : List ℕ) → frame_text k before p ++ rest ≡ head k ++ (row_changes before p ++ rest)
frame_text_is k before p rest = append_assoc (head k) (row_changes before p) rest

pub no_frame : (k : ℕ) (before : Planes) (bytes : List ℕ) (after : Planes) → IsInFront bytes (head k) None → IsFrameFound k before bytes after None
no_frame k before bytes after front =
    let never : (p : Planes) (rest : List ℕ) → bytes ≡ frame_text k before p ++ rest → ⊥ = λ p rest e.
    let wrong : None ≡ Some (length (head k)) = front.taken (row_changes before p ++ rest) (e ∙ frame_text_is k before p rest) in
    absurd (cc) in
    record {
      read = λ n e. absurd (cc);
      shown = λ n e. absurd (cc);
      taken = λ p shown rest ends e. absurd (never p rest e);
      same = λ p shown rest ends e. absurd (never p rest e);
    }

-- what is left behind the line that begins a frame
behind_head : (k start : ℕ) (before : Planes) (bytes : List ℕ) (p : Planes) (rest : List ℕ) → IsInFront bytes (head k) (Some start) → bytes ≡ frame_text k before p ++ rest → drop start bytes ≡ row_changes before p ++ rest
behind_head k start before bytes p rest front e = left_behind bytes (head k) (row_changes before p ++ rest) start (front.read start refl) (e ∙ frame_text_is k before p rest)

pub broken_frame : (k start : ℕ) (before : Planes) (bytes : List ℕ) (after : Planes) → IsInFront bytes (head k) (Some start) → AreChangesFound before (drop start bytes) after None → IsFrameFound k before bytes after None
broken_frame k start before bytes after front rows = record {
  read = λ n e. absurd (cc);
  shown = λ n e. absurd (cc);
  taken = λ p shown rest ends e.
      let wrong : None ≡ Some (length (row_changes before p)) = rows.taken p shown rest ends (behind_head k start before bytes p rest front e) in
      absurd (cc);
  same = λ p shown rest ends e. rows.same p shown rest ends (behind_head k start before bytes p rest front e);
}

pub whole_frame : (k start count : ℕ) (before : Planes) (bytes : List ℕ) (after : Planes) → IsInFront bytes (head k) (Some start) → AreChangesFound before (drop start bytes) after (Some count)
    → IsFrameFound k before bytes after (Some (start + count))
whole_frame k start count before bytes after front rows =
    let first : Begins bytes (head k) start = front.read start refl in
    let both : Begins bytes (frame_text k before after) (start + count) = begins_both bytes (head k) (row_changes before after) start count first (rows.read count refl) in
    record {
      read = λ n e. let same : start + count ≡ n = cc in subst (λ (m : ℕ). Begins bytes (frame_text k before after) m) same both;
      shown = λ n e. rows.shown count refl;
      taken = λ p shown rest ends e.
          let same : after ≡ p = rows.same p shown rest ends (behind_head k start before bytes p rest front e) in
          ap (λ (m : ℕ). Some m) (sym both.long) ∙ ap (λ (q : Planes). Some (length (frame_text k before q))) same;
      same = λ p shown rest ends e. rows.same p shown rest ends (behind_head k start before bytes p rest front e);
    }
