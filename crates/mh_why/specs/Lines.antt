-- The table of a text's lines, made once, by which a place in it is found without going over it; and the stops of a long line, from which
-- its characters are counted.
use Rattle.std.specs.Prelude.{ℕ, ◌≡◌, ◌+◌, ◌-◌, ◌<◌, ◌≤◌, min, Bool, true, not, nat_le, if◌then◌else◌, List, [], ◌∷◌, length, take, drop, slice_index_or, All}
use Rattle.bstr.specs.Text.{lines_of, without_terminator}
use Rattle.bstr.specs.Utf8.{continues, lossy_chars}
use Rattle.mh_why.specs.Places.{Line, characters_of, first_shown, margin, meant, window, word_behind}
use Rattle.mh_why.specs.declared.place.stop.Stop.{Stop}

-- where each of these lines begins, and where the last one ends, if the first begins behind so many bytes
abbrev pub starts_from : ℕ → List (List ℕ) → List ℕ
starts_from n [] = n ∷ []
starts_from n (l ∷ ls) = n ∷ starts_from (n + length l) ls

-- no character that began before these bytes goes on in them
abbrev pub is_clean : List ℕ → Bool
is_clean [] = true
is_clean (b ∷ bs) = not (continues b)

-- so many bytes of the line, and characters, stand before the stop, and none of these goes on behind it
pub record IsStop (line : List ℕ) (s : Stop) : Type 0 where
  pub counted : s.column ≡ length (lossy_chars (take s.before line))
  pub clean : 0 < s.before → is_clean (drop s.before line) ≡ true
  pub within : s.before ≤ length line
  pub few : s.column ≤ s.before

-- the same of a stop of a text, which tells where its line begins
abbrev pub IsStopOf : List ℕ → Stop → Type 0
IsStopOf text s = IsStop (drop s.start text) s

pub record Lines : Type 0 where
  pub starts : List ℕ
  pub stops : List Stop

pub record IsTable (text : List ℕ) (t : Lines) : Type 0 where
  pub started : t.starts ≡ starts_from 0 (lines_of text)
  pub stopped : All (IsStopOf text) t.stops

-- the line with this number, from 0 on, begins and ends behind so many bytes
pub record IsExtent (text : List ℕ) (index start end : ℕ) : Type 0 where
  pub rising : start ≤ end
  pub within : end ≤ length text
  pub bytes : take (end - start) (drop start text) ≡ slice_index_or (lines_of text) index []

-- so many bytes of the line stand before a place, and in the last line no more than it shows
abbrev pub before_in : List ℕ → Bool → ℕ → ℕ
before_in line is_last k = if is_last then min k (length (without_terminator line)) else k

-- so many characters are left out in front of what stands in a column, where the word that a line's margin would cut goes on so far
abbrev pub first_by : ℕ → ℕ → ℕ
first_by column size = if nat_le column margin then 0 else word_behind (column - margin) size

-- what is shown of the line itself, where what is meant stands in a column
abbrev pub shown_behind : Line → ℕ → ℕ → ℕ → List ℕ
shown_behind l column size first = window l.number (drop first (characters_of l.bytes)) first (column - first) (meant l size)

abbrev pub shown_in_column : Line → ℕ → ℕ → List ℕ
shown_in_column l column size = shown_behind l column size (first_shown (characters_of l.bytes) column)
