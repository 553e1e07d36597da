-- The header of a message: lines, of which the last is empty.
use Rattle.std.specs.Prelude.{ℕ, zero, suc, ◌+◌, ◌-◌, ◌*◌, ◌==◌, nat_le, Bool, ◌&&◌, ◌||◌, not, if◌then◌else◌, List, [], ◌∷◌, drop, length, position, take, Option, Some, None}
use Rattle.std.specs.List.{list_all, list_any, prefix_len}
use Rattle.mh_protocol.specs.declared.head.TheConstants.{LENGTH_FIELD, LONGEST_LINE}
use Rattle.mh_protocol.specs.declared.head.Head.{Head}
use Rattle.mh_protocol.specs.declared.head.Head.TheVariants as head
use Rattle.mh_protocol.specs.declared.head.Line.{Line}
use Rattle.mh_protocol.specs.declared.head.Line.TheVariants as line
use Rattle.mh_protocol.specs.declared.head.Step.{Step}
use Rattle.mh_protocol.specs.declared.head.Step.TheVariants as step_is

-- BYTES

abbrev pub is_feed : ℕ → Bool
is_feed b = b == 10

-- a carriage return counts, too, since it stands at the end of a line
abbrev pub is_space : ℕ → Bool
is_space b = b == 32 || b == 9 || b == 13

abbrev pub is_colon : ℕ → Bool
is_colon b = b == 58

abbrev pub is_digit : ℕ → Bool
is_digit b = nat_le 48 b && nat_le b 57

abbrev pub lower : ℕ → ℕ
lower b = if nat_le 65 b && nat_le b 90 then b + 32 else b

-- the number that digits write, behind others that wrote n
abbrev pub number_behind : ℕ → List ℕ → ℕ
number_behind n [] = n
number_behind n (d ∷ ds) = number_behind (n * 10 + (d - 48)) ds

-- A LINE

-- what stands behind the name at the front, in whatever case that is written
abbrev pub behind_name : List ℕ → List ℕ → Option (List ℕ)
behind_name [] bs = Some bs
behind_name (w ∷ ws) [] = None
behind_name (w ∷ ws) (b ∷ bs) = if lower b == w then behind_name ws bs else None

-- the number that stands alone in a value
unfoldable pub number_of : List ℕ → Option ℕ
number_of bs =
    let ds = drop (prefix_len is_space bs) bs in
    let n = prefix_len is_digit ds in
    let value = number_behind 0 (take n ds) in
    if n == 0 || not (list_all is_space (drop n ds)) then None else (if nat_le value 2147483648 then Some value else None)

abbrev pub told : Option ℕ → Line
told None = line.Bad
told (Some n) = line.Length n

abbrev pub length_line : List ℕ → Line
length_line value = told (number_of value)

abbrev pub other_line : List ℕ → Line
other_line bs = if list_any is_colon bs then line.Other else line.Bad

abbrev pub field_line : List ℕ → Option (List ℕ) → Line
field_line bs None = other_line bs
field_line bs (Some value) = length_line value

unfoldable pub line_of : List ℕ → Line
line_of bs = if list_all is_space bs then line.End else field_line bs (behind_name LENGTH_FIELD.now bs)

-- A HEADER

-- what a line comes to of which so much came and no end
abbrev pub unended : ℕ → Head
unended n = if nat_le n LONGEST_LINE then head.More else head.Wrong

-- a header that ends, behind which so many bytes came
abbrev pub ended : ℕ → Option ℕ → Head
ended left None = head.Wrong
ended left (Some n) = head.Ends left n

-- what a line of so many bytes, with its line feed, comes to, behind which so many came
abbrev pub taken : Option ℕ → ℕ → ℕ → Line → Step
taken before size left line.End = step_is.Done (ended left before)
taken before size left (line.Length n) = step_is.On size (Some n)
taken before size left line.Other = step_is.On size before
taken before size left line.Bad = step_is.Done head.Wrong

abbrev pub step_by : Option ℕ → List ℕ → Option ℕ → Step
step_by before bs None = step_is.Done (unended (length bs))
step_by before bs (Some n) = taken before (n + 1) (length (drop (n + 1) bs)) (line_of (take n bs))

-- what the first line comes to, where those before it told this length
unfoldable pub step : Option ℕ → List ℕ → Step
step before bs = step_by before bs (position is_feed bs)

abbrev pub after : (Option ℕ → List ℕ → Head) → List ℕ → Step → Head
after further bs (step_is.Done h) = h
after further bs (step_is.On size before) = further before (drop size bs)

-- the header at the front, which has at most so many lines
abbrev pub head_in : ℕ → Option ℕ → List ℕ → Head
head_in zero before bs = head.Wrong
head_in (suc n) before bs = after (head_in n) bs (step before bs)
