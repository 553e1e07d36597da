-- Where something stands in a file, as an author is shown it: the file, the line and the column, both from 1 on, the line itself, and
-- carets under what is meant. No more than 70 characters of the line are shown, and no character gives a terminal an order.
use Rattle.std.specs.Prelude.{ℕ, zero, suc, ◌+◌, ◌-◌, ◌==◌, ◌≡◌, Bool, true, ◌||◌, not, nat_le, nat_lt, if◌then◌else◌, List, [], ◌∷◌, ◌++◌, length, map, take, drop, min, max, codes, replicate, slice_index_or}
use Rattle.std.specs.List.{flat_map, list_all, prefix_len}
use Rattle.std.specs.Fmt.{decimal}
use Rattle.bstr.specs.Text.{lines_of, without_terminator}
use Rattle.bstr.specs.Utf8.{lossy_chars}
use Rattle.mh_told.specs.Printing.{character}
use Rattle.mh_why.specs.LineWords.{is_in_word}
use Rattle.mh_terminal.specs.Frames.{is_order, harmless, plain}
use Rattle.mh_why.specs.Wrapping.{paragraph}

-- Text that gives a terminal no order: it is the characters of a list in which the line feed is the only order.
abbrev pub is_shown : ℕ → Bool
is_shown c = c == 10 || not (is_order c)

pub record IsHarmless (bs : List ℕ) : Type 0 where
  pub characters : List ℕ
  pub spelled : bs ≡ flat_map character characters
  pub shown : list_all is_shown characters ≡ true

-- Lines.

-- a line, by its number, and how many of its bytes stand before what is meant
pub record Line : Type 0 where
  pub number : ℕ
  pub bytes : List ℕ
  pub before : ℕ

-- the line of these, the first of which has this number, in which so many bytes stand before it; the end of the text is where the
-- characters of its last line end
abbrev pub line_in : ℕ → List (List ℕ) → ℕ → Line
line_in n [] k = record { number = n; bytes = []; before = 0 }
line_in n (l ∷ []) k = record { number = n; bytes = l; before = min k (length (without_terminator l)) }
line_in n (l ∷ m ∷ ls) k = if nat_lt k (length l) then record { number = n; bytes = l; before = k } else line_in (suc n) (m ∷ ls) (k - length l)

abbrev pub line_at : List ℕ → ℕ → Line
line_at text offset = line_in 1 (lines_of text) offset

-- how many characters stand before what is meant
abbrev pub column : Line → ℕ
column l = length (lossy_chars (take l.before l.bytes))

-- tabs are one column wide
abbrev pub spaced : ℕ → ℕ
spaced c = if c == 9 then 32 else harmless c

-- the characters of a line as they are shown
abbrev pub characters_of : List ℕ → List ℕ
characters_of bs = map spaced (lossy_chars (without_terminator bs))

-- A line is shown in part where it is long: it is cut between words, where that can be.

abbrev pub width : ℕ
width = 70

-- so many characters are shown at most before what is meant
abbrev pub margin : ℕ
margin = 40

-- the word behind the one in which it would be cut, if it begins before what is meant
abbrev pub word_behind : ℕ → ℕ → ℕ
word_behind n size = if nat_lt size margin then n + size + 1 else n

-- how many characters are left out in front of what stands in this column
unfoldable pub first_shown : List ℕ → ℕ → ℕ
first_shown cs column = if nat_le column margin then 0 else word_behind (column - margin) (prefix_len is_in_word (drop (column - margin) cs))

-- the place of the last space among so many characters, or 0
unfoldable pub last_space : List ℕ → ℕ → ℕ
last_space cs zero = 0
last_space cs (suc n) = if slice_index_or cs n 0 == 32 then n else last_space cs n

abbrev pub cut_at : ℕ → ℕ → ℕ
cut_at space shift = if nat_lt shift space then space else width

-- how many of these are shown, where what is meant stands behind so many of them
unfoldable pub size_shown : List ℕ → ℕ → ℕ
size_shown cs shift = if nat_le (length cs) width then length cs else cut_at (last_space cs width) shift

-- What is shown of a place: a line of words, the line, and one of carets.

unfoldable pub place_words : List ℕ → ℕ → ℕ → List ℕ
place_words name number column =
    paragraph (codes "  " ++ name ++ codes ", line " ++ decimal number ++ codes ", column " ++ decimal (suc column))

-- what tells that a line is cut in front, or behind

abbrev pub cut_mark : List ℕ
cut_mark = character 8230

unfoldable pub front_mark : ℕ → List ℕ
front_mark first = if first == 0 then [] else cut_mark ++ codes " "

unfoldable pub back_mark : ℕ → ℕ → List ℕ
back_mark shown all = if nat_lt shown all then codes " " ++ cut_mark else []

-- so many columns the mark in front takes
abbrev pub mark_width : ℕ → ℕ
mark_width first = if first == 0 then 0 else 2

-- the gutter has the number of the line
unfoldable pub shown_line : List ℕ → List ℕ → ℕ → ℕ → List ℕ
shown_line digits cs first shown =
    codes "  " ++ plain digits ++ codes " | " ++ front_mark first ++ flat_map character (take shown cs) ++ back_mark shown (length cs) ++ 10 ∷ []

unfoldable pub caret_line : ℕ → ℕ → ℕ → ℕ → List ℕ
caret_line digits mark shift count =
    codes "  " ++ replicate digits 32 ++ codes " | " ++ replicate mark 32 ++ replicate shift 32 ++ replicate count 94 ++ 10 ∷ []

-- characters of a line behind so many that are left out, and carets under so many behind so many others: one at least, and none past what
-- is shown
unfoldable pub window : ℕ → List ℕ → ℕ → ℕ → ℕ → List ℕ
window number cs first shift count =
    shown_line (decimal number) cs first (size_shown cs shift)
    ++ caret_line (length (decimal number)) (mark_width first) shift (max 1 (min count (size_shown cs shift - shift)))

-- how many characters so many bytes of the line are
abbrev pub meant : Line → ℕ → ℕ
meant l size = length (lossy_chars (take size (drop l.before (without_terminator l.bytes))))

-- with so many characters left out
abbrev pub shown_from : List ℕ → Line → ℕ → ℕ → List ℕ
shown_from name l size first =
    place_words name l.number (column l) ++ window l.number (drop first (characters_of l.bytes)) first (column l - first) (meant l size)

unfoldable pub shown_at : List ℕ → Line → ℕ → List ℕ
shown_at name l size = shown_from name l size (first_shown (characters_of l.bytes) (column l))

unfoldable pub shown_place : List ℕ → List ℕ → ℕ → ℕ → List ℕ
shown_place name text offset size = shown_at name (line_at text offset) size

-- the law: whatever the file and its name are, a terminal is given no order
abbrev pub PlacesAreHarmless : Type 0
PlacesAreHarmless = (name text : List ℕ) (offset size : ℕ) → IsHarmless (shown_place name text offset size)
