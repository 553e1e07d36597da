-- What was found of a row, of the rows so far, and of a frame, by what the tests tell.
use Rattle.std.specs.Prelude.{◌≡◌, ℕ, ◌+◌, ◌-◌, ◌<◌, ◌≤◌, true, false, List, length, take, drop, Option, Some, None}
use Rattle.std.specs.List.{list_all}
use Rattle.std.proofs.Common.{sym, arith, subst}
use Rattle.mh_model.specs.declared.picture.cell.Cell.{Cell}
use Rattle.mh_model.specs.Planes.{Planes, IsWhole}
use Rattle.mh_told.specs.Frame.{row_cells, differ}
use Rattle.mh_told.proofs.FrameLemmas.{row_cells_length}
use Rattle.mh_look.specs.Report.{is_shown}
use Rattle.mh_look.specs.Reading.{IsRowFound, SameBut, IsFrameFound}
use Rattle.mh_look.specs.Front.{IsInFront}
use Rattle.mh_look.specs.Changes.{head, row_front, IsChangeFound, AreChangesFound}
use Rattle.mh_look.proofs.FrontLemmas.{begins_within, slice_to_end}
use Rattle.mh_look.proofs.ChangeLemmas.{RowsSoFar, kept, not_kept, unchanged, changed, row_more, row_missing, all_rows, no_frame, broken_frame, whole_frame}
use Rattle.mh_look.proofs.RowLemmas.{is_row, no_row, same_row, other_row}

-- Where no line of the row stands.

pub kept_row : (before after : Planes) (j : ℕ) (bytes : List ℕ) (front : Option ℕ) → IsInFront bytes (row_front j) front → front ≡ None → row_cells after j ≡ row_cells before j
    → list_all is_shown (row_cells before j) ≡ true → IsChangeFound j (row_cells before j) bytes (row_cells after j) (Some 0)
kept_row before after j bytes front h none same shown =
    let found : IsChangeFound j (row_cells before j) bytes (row_cells before j) (Some 0) =
    kept j (row_cells before j) bytes (row_cells_length before j) (subst (λ (o : Option ℕ). IsInFront bytes (row_front j) o) none h) (is_row before j shown) in
    subst (λ (cs : List Cell). IsChangeFound j (row_cells before j) bytes cs (Some 0)) (sym same) found

pub not_kept_row : (before after : Planes) (j : ℕ) (bytes : List ℕ) (front : Option ℕ) → IsInFront bytes (row_front j) front → front ≡ None → row_cells after j ≡ row_cells before j
    → list_all is_shown (row_cells before j) ≡ false → IsChangeFound j (row_cells before j) bytes (row_cells after j) None
not_kept_row before after j bytes front h none same shown =
    let found : IsChangeFound j (row_cells before j) bytes (row_cells before j) None =
    not_kept j (row_cells before j) bytes (row_cells_length before j) (subst (λ (o : Option ℕ). IsInFront bytes (row_front j) o) none h) (no_row before j shown) in
    subst (λ (cs : List Cell). IsChangeFound j (row_cells before j) bytes cs None) (sym same) found

-- Where one stands.

pub changed_row : (before after : Planes) (j n : ℕ) (bytes : List ℕ) (front found : Option ℕ) → IsInFront bytes (row_front j) front → front ≡ Some n → IsRowFound j bytes (row_cells after j) found
    → differ (row_cells before j) (row_cells after j) ≡ true → IsChangeFound j (row_cells before j) bytes (row_cells after j) found
changed_row before after j n bytes front found h some row other =
    changed j n (row_cells before j) (row_cells after j) bytes found (row_cells_length before j) (row_cells_length after j)
    (subst (λ (o : Option ℕ). IsInFront bytes (row_front j) o) some h) row (other_row before after j other)

pub unchanged_row : (before after : Planes) (j n : ℕ) (bytes : List ℕ) (front found : Option ℕ) → IsInFront bytes (row_front j) front → front ≡ Some n → IsRowFound j bytes (row_cells after j) found
    → differ (row_cells before j) (row_cells after j) ≡ false → IsChangeFound j (row_cells before j) bytes (row_cells after j) None
unchanged_row before after j n bytes front found h some row same =
    unchanged j n (row_cells before j) (row_cells after j) bytes found (subst (λ (o : Option ℕ). IsInFront bytes (row_front j) o) some h) row (same_row before after j same)

-- The rows so far.

pub change_within : (j : ℕ) (before : List Cell) (bytes : List ℕ) (after : List Cell) (found : Option ℕ) (n : ℕ) → IsChangeFound j before bytes after found → found ≡ Some n → n ≤ length bytes
change_within j before bytes after found n h some = begins_within bytes _ n (h.read n some)

-- what is left behind these rows, as the code cuts it off
abbrev pub left_from : ℕ → List ℕ → List ℕ
left_from at bytes = take (length bytes - at) (drop at bytes)

in_left : (j at : ℕ) (before : List Cell) (bytes : List ℕ) (after : List Cell) (found o : Option ℕ) → IsChangeFound j before (left_from at bytes) after found → found ≡ o → IsChangeFound j before (drop at bytes) after o
in_left j at before bytes after found o h is =
    subst (λ (xs : List ℕ). IsChangeFound j before xs after o) (slice_to_end bytes at) (subst (λ (x : Option ℕ). IsChangeFound j before (left_from at bytes) after x) is h)

pub next_row : (j at n : ℕ) (before : Planes) (bytes : List ℕ) (after now : Planes) (found : Option ℕ) → j < 36 → RowsSoFar j before bytes after at
    → IsChangeFound j (row_cells before j) (left_from at bytes) (row_cells now j) found → found ≡ Some n → SameBut j after now → RowsSoFar (j + 1) before bytes now (at + n)
next_row j at n before bytes after now found inside so h some others =
    row_more j before bytes after now at n inside so (in_left j at (row_cells before j) bytes (row_cells now j) found (Some n) h some) others

pub next_within : (j at n : ℕ) (before : Planes) (bytes : List ℕ) (after now : Planes) (found : Option ℕ) → j < 36 → RowsSoFar j before bytes after at
    → IsChangeFound j (row_cells before j) (left_from at bytes) (row_cells now j) found → found ≡ Some n → SameBut j after now → at + n ≤ length bytes
next_within j at n before bytes after now found inside so h some others =
    let more = next_row j at n before bytes after now found inside so h some others in
    begins_within bytes _ (at + n) more.read

pub missing_row : (j at : ℕ) (before : Planes) (bytes : List ℕ) (after now : Planes) (found : Option ℕ) → j < 36 → RowsSoFar j before bytes after at
    → IsChangeFound j (row_cells before j) (left_from at bytes) (row_cells now j) found → found ≡ None → AreChangesFound before bytes now None
missing_row j at before bytes after now found inside so h none =
    row_missing j before bytes after at now inside so (in_left j at (row_cells before j) bytes (row_cells now j) found None h none)

pub no_more_rows : (j at : ℕ) (before : Planes) (bytes : List ℕ) (after : Planes) → 36 ≤ j → j ≤ 36 → IsWhole after → RowsSoFar j before bytes after at → AreChangesFound before bytes after (Some at)
no_more_rows j at before bytes after low high whole so =
    let last : j ≡ 36 = omega arith in
    all_rows before bytes after at whole (subst (λ (k : ℕ). RowsSoFar k before bytes after at) last so)

-- The frame.

pub head_within : (k n : ℕ) (bytes : List ℕ) (front : Option ℕ) → IsInFront bytes (head k) front → front ≡ Some n → n ≤ length bytes
head_within k n bytes front h some = begins_within bytes (head k) n (h.read n some)

in_rest : (start : ℕ) (before : Planes) (bytes : List ℕ) (after : Planes) (found : Option ℕ) → AreChangesFound before (left_from start bytes) after found → AreChangesFound before (drop start bytes) after found
in_rest start before bytes after found h = subst (λ (xs : List ℕ). AreChangesFound before xs after found) (slice_to_end bytes start) h

pub headless : (k : ℕ) (before : Planes) (bytes : List ℕ) (after : Planes) (front : Option ℕ) → IsInFront bytes (head k) front → front ≡ None → IsFrameFound k before bytes after None
headless k before bytes after front h none = no_frame k before bytes after (subst (λ (o : Option ℕ). IsInFront bytes (head k) o) none h)

pub rows_found : (k start count : ℕ) (before : Planes) (bytes : List ℕ) (after : Planes) (front : Option ℕ) → IsInFront bytes (head k) front → front ≡ Some start
    → AreChangesFound before (left_from start bytes) after (Some count) → IsFrameFound k before bytes after (Some (start + count))
rows_found k start count before bytes after front h some rows =
    whole_frame k start count before bytes after (subst (λ (o : Option ℕ). IsInFront bytes (head k) o) some h) (in_rest start before bytes after (Some count) rows)

pub rows_missing : (k start : ℕ) (before : Planes) (bytes : List ℕ) (after : Planes) (front : Option ℕ) → IsInFront bytes (head k) front → front ≡ Some start
    → AreChangesFound before (left_from start bytes) after None → IsFrameFound k before bytes after None
rows_missing k start before bytes after front h some rows =
    broken_frame k start before bytes after (subst (λ (o : Option ℕ). IsInFront bytes (head k) o) some h) (in_rest start before bytes after None rows)
