-- Where an octet stands in a file in the binary notation: it, with some before it and some behind, in hexadecimal digits, and carets under
-- it. The gutter has its number, from 0 on.
use Rattle.std.specs.Prelude.{ℕ, ◌-◌, ◌*◌, List, [], ◌∷◌, ◌++◌, take, drop, min, codes}
use Rattle.std.specs.Fmt.{decimal}
use Rattle.mh_misread.specs.Telling.{hex_byte}
use Rattle.mh_why.specs.Places.{characters_of, window}
use Rattle.mh_why.specs.Wrapping.{paragraph}

unfoldable pub octet_words : List ℕ → ℕ → List ℕ
octet_words name n = paragraph (codes "  " ++ name ++ codes ", octet " ++ decimal n ++ codes ", in hexadecimal digits")

-- two digits an octet, and a space
abbrev pub hex_text : List ℕ → List ℕ
hex_text [] = []
hex_text (b ∷ bs) = hex_byte b ++ codes " " ++ hex_text bs

-- ten octets at most before it
unfoldable pub shown_octet : List ℕ → List ℕ → ℕ → List ℕ
shown_octet name bs n =
    octet_words name n ++ window n (characters_of (hex_text (take 30 (drop (n - 10) bs)))) (n - 10) (3 * min n 10) 2
