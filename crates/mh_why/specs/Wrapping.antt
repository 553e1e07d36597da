-- Paragraphs: text in lines of at most 80 columns, as far as its words allow, in which no character gives a terminal an order.
use Rattle.std.specs.Prelude.{ℕ, suc, ◌+◌, ◌==◌, ◌&&◌, nat_lt, if◌then◌else◌, List, [], ◌∷◌, ◌++◌, map}
use Rattle.std.specs.List.{flat_map, prefix_len}
use Rattle.bstr.specs.Utf8.{lossy_chars}
use Rattle.mh_told.specs.Printing.{character}
use Rattle.mh_why.specs.LineWords.{is_in_word}
use Rattle.mh_terminal.specs.Frames.{harmless}

abbrev pub columns : ℕ
columns = 80

-- the characters behind so many of a line: at a space a new line begins, with four spaces, where the word behind it would go past the
-- last column
abbrev pub wrapped : ℕ → List ℕ → List ℕ
wrapped n [] = []
wrapped n (c ∷ cs) =
    if c == 32 && nat_lt columns (n + suc (prefix_len is_in_word cs)) then 10 ∷ 32 ∷ 32 ∷ 32 ∷ 32 ∷ wrapped 4 cs
    else c ∷ wrapped (suc n) cs

-- the text as lines, with a line's end behind it
unfoldable pub paragraph : List ℕ → List ℕ
paragraph bs = flat_map character (wrapped 0 (map harmless (lossy_chars bs))) ++ 10 ∷ []
