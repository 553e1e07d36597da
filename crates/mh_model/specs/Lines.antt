-- The lines of a text: its paragraphs, and how a paragraph is divided into lines no longer than w.
use Rattle.std.specs.Prelude.{◌≡◌, ◌≢◌, ℕ, zero, suc, ◌+◌, ◌==◌, ◌<◌, ◌≤◌, nat_le, if◌then◌else◌, ◌⊎◌, List, [], ◌∷◌, ◌++◌, length, take, drop, slice_index}
use Rattle.std.specs.List.{slice_split}

-- 0D parts two paragraphs
abbrev pub paragraphs : List ℕ → List (List ℕ)
paragraphs xs = slice_split (λ x. x == 0x0D) xs

-- the last space at index 1 to w, or 0 where there is none
abbrev pub last_space : ℕ → List ℕ → ℕ
last_space zero xs = 0
last_space (suc k) xs = if slice_index xs (suc k) == 0x20 then suc k else last_space k xs

-- where the line at the front ends, and where the next begins: a space between them is dropped
abbrev pub cut_at : ℕ → ℕ → ℕ
cut_at w space = if space == 0 then w else space

abbrev pub next_at : ℕ → ℕ → ℕ
next_at w space = if space == 0 then w else space + 1

-- as many cuts, and the line behind them
unfoldable pub lines_in : ℕ → ℕ → List ℕ → List (List ℕ)
lines_in zero w xs = xs ∷ []
lines_in (suc n) w xs =
    if nat_le (length xs) w then xs ∷ []
    else (take (cut_at w (last_space w xs)) xs ∷ lines_in n w (drop (next_at w (last_space w xs)) xs))

-- the lines of a paragraph: where w is above 0, each cut takes a scalar at least
abbrev pub lines_of : ℕ → List ℕ → List (List ℕ)
lines_of w xs = lines_in (length xs) w xs

-- The same in words: which lists of lines are a division of a paragraph.

-- one space is dropped, the last one at index 1 to w
pub record IsAtSpace (w : ℕ) (rest line next : List ℕ) : Type 0 where
  pub begins : 1 ≤ length line
  pub fits : length line ≤ w
  pub parts : rest ≡ line ++ 0x20 ∷ next
  pub none_behind : (k : ℕ) → length line < k → k ≤ w → slice_index rest k ≢ 0x20

-- nothing is dropped: the line is full, and there is no space at index 1 to w
pub record IsCut (w : ℕ) (rest line next : List ℕ) : Type 0 where
  pub full : length line ≡ w
  pub parts : rest ≡ line ++ next
  pub none_inside : (k : ℕ) → 1 ≤ k → k ≤ w → slice_index rest k ≢ 0x20

-- a rest that is longer than a line breaks into the line and the next rest
pub record IsBreak (w : ℕ) (rest line next : List ℕ) : Type 0 where
  pub longer : w < length rest
  pub place : IsAtSpace w rest line next ⊎ IsCut w rest line next

pub data AreLines (w : ℕ) : List ℕ → List (List ℕ) → Type 0 where
  last : {line : List ℕ} → length line ≤ w → AreLines w line (line ∷ [])
  more : {rest line next : List ℕ} {lines : List (List ℕ)} → IsBreak w rest line next → AreLines w next lines → AreLines w rest (line ∷ lines)
