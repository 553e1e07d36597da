-- What is wrong at a place where no token begins.
use Rattle.std.specs.Prelude.{ℕ, ◌==◌, ◌||◌, if◌then◌else◌, List, [], ◌∷◌, drop, Option, Some, None}
use Rattle.std.specs.List.{prefix_len}
use Rattle.mh_text.specs.Bytes.{is_text_byte, is_quoted_byte}
use Rattle.mh_misread.specs.declared.slip.Slip.{Slip}
use Rattle.mh_misread.specs.declared.slip.Slip.TheVariants as slip

-- A string of this mark, of which these bytes stand behind so many that it may hold. A line feed, or a return, ends its line; where
-- the string ends, an `=` in it has not its digits.
abbrev pub string_slip : ℕ → ℕ → List ℕ → Slip
string_slip mark held [] = slip.OpenString mark
string_slip mark held (b ∷ bs) =
    if b == 10 || b == 13 then slip.OpenString mark
    else (if b == mark then slip.Escape else slip.ByteInString mark b held)

-- what is wrong with these bytes, of which no token is the beginning
unfoldable pub slip_of : List ℕ → Option Slip
slip_of [] = None
slip_of (b ∷ bs) =
    if b == 34 then Some (string_slip 34 (prefix_len is_text_byte bs) (drop (prefix_len is_text_byte bs) bs))
    else (if b == 39 then Some (string_slip 39 (prefix_len is_quoted_byte bs) (drop (prefix_len is_quoted_byte bs) bs))
    else (if b == 58 then Some slip.Colon
    else (if b == 45 then Some slip.Minus
    else (if b == 35 || b == 47 then Some (slip.Comment b)
    else (if b == 44 || b == 59 then Some (slip.Separator b)
    else (if b == 46 then Some slip.Point
    else (if b == 60 || b == 61 then Some (slip.Operator b)
    else (if b == 33 || b == 62 then Some (slip.Operator b) else Some (slip.Byte b)))))))))
