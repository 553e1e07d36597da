-- A finding in a line, as compilers print it: `FILE:LINE:COLUMN: GRADE RULE: MESSAGE`.
use Rattle.std.specs.Prelude.{◌≡◌, ℕ, ◌==◌, Bool, ◌||◌, ◌&&◌, nat_lt, nat_le, if◌then◌else◌, List, [], ◌∷◌, ◌++◌, codes, length}
use Rattle.std.specs.Fmt.{decimal}
use Rattle.std.specs.List.{count_by, flat_map}
use Rattle.mh_findings.specs.declared.finding.Finding.{Finding}
use Rattle.mh_findings.specs.Messages.{message, title}

abbrev pub is_control : ℕ → Bool
is_control b = nat_lt b 32 || b == 127

-- the second byte of a control character of two bytes, from U+0080 to U+009F
abbrev pub ends_control : ℕ → ℕ → Bool
ends_control before b = before == 194 && nat_le 128 b && nat_lt b 160

-- the byte that stands for this one behind another: no control character is left, but a space, of which U+00A0 is one
unfoldable pub tame_byte : ℕ → ℕ → ℕ
tame_byte before b = if is_control b then 32 else (if ends_control before b then 160 else b)

unfoldable pub tamed_behind : ℕ → List ℕ → List ℕ
tamed_behind before [] = []
tamed_behind before (b ∷ bs) = tame_byte before b ∷ tamed_behind b bs

-- the text with a space for each control character
abbrev pub tamed : List ℕ → List ℕ
tamed bs = tamed_behind 0 bs

unfoldable pub short_words : Finding → List ℕ
short_words f =
    f.at.file ++ codes ":" ++ decimal f.at.span.start.line ++ codes ":" ++ decimal f.at.span.start.column ++ codes ": "
    ++ title f ++ codes ": " ++ message f

unfoldable pub short_line : Finding → List ℕ
short_line f = tamed (short_words f) ++ 10 ∷ []

-- THE LAW

abbrev pub is_feed : ℕ → Bool
is_feed b = b == 10

-- there are as many lines as findings
abbrev pub EachHasALine : Type 0
EachHasALine = (fs : List Finding) → count_by is_feed (flat_map short_line fs) ≡ length fs
