-- How a misread text is mended. What is told has no full stop.
use Rattle.std.specs.Prelude.{unsigned_abs, ℕ, ◌==◌, ◌&&◌, Bool, true, false, nat_le, if◌then◌else◌, List, [], ◌∷◌, ◌++◌, length, take, drop, codes, Option, Some, None}
use Rattle.std.specs.Fmt.{decimal}
use Rattle.std.specs.Option.{option_map_or}
use Rattle.std.specs.Str.{bytes_eq}
use Rattle.mh_group.specs.declared.action_name.ActionName.{ActionName}
use Rattle.mh_group.specs.declared.class.Class.{Class}
use Rattle.mh_group.specs.declared.attribute.Attribute.{Attribute}
use Rattle.mh_group.specs.declared.shape.Need.TheVariants as need
use Rattle.mh_group.specs.declared.shape.Shape.{Shape}
use Rattle.mh_group.specs.declared.shape.Shape.TheVariants as shape
use Rattle.mh_misread.specs.declared.part.Part.TheVariants as part
use Rattle.mh_group.specs.Table.{shape_of}
use Rattle.mh_group.specs.Words.{action_word, actions, events}
use Rattle.mh_text.specs.declared.token.kind.TokenKind.{TokenKind}
use Rattle.mh_misread.specs.declared.part.Listed.TheVariants as listed
use Rattle.mh_misread.specs.declared.part.Row.TheVariants as row
use Rattle.mh_misread.specs.Misreads.{first_token}
use Rattle.mh_misread.specs.declared.name.Name.{Name}
use Rattle.mh_misread.specs.declared.part.Part.{Part}
use Rattle.mh_misread.specs.declared.goal.Goal.{Goal}
use Rattle.mh_misread.specs.declared.goal.Goal.TheVariants as goal
use Rattle.mh_misread.specs.declared.slip.Slip.{Slip}
use Rattle.mh_misread.specs.declared.slip.Slip.TheVariants as slip
use Rattle.mh_misread.specs.declared.misread.Misread.{Misread}
use Rattle.mh_misread.specs.declared.misread.Misread.TheVariants as misread
use Rattle.mh_misread.specs.declared.phrases.TheConstants as told
use Rattle.mh_misread.specs.Goals.{part_at}
use Rattle.mh_misread.specs.LimitsOf.{limits_of}
use Rattle.mh_misread.specs.Words.{limits_words}
use Rattle.mh_model.specs.declared.key.Key.{Key}
use Rattle.mh_model.specs.Key.{key_number}
use Rattle.mh_misread.specs.Telling.{marked, written, escaped, character_of, byte_words, wanted, field_row, row_written, classes_taking, fields_of, words_with}

unfoldable pub separator_mend : ℕ → List ℕ
separator_mend b = codes "take " ++ byte_words b ++ codes " away"

-- a line break within it, where a string can have one
unfoldable pub break_mend : ℕ → List ℕ
break_mend mark = if mark == 39 then told.BREAK_WITHIN.now else []

unfoldable pub string_mend : ℕ → List ℕ
string_mend mark = codes "write " ++ marked (mark ∷ []) ++ told.WHERE_STRING_ENDS.now ++ break_mend mark

unfoldable pub escape_mend : List ℕ → List ℕ
escape_mend bs = codes "write " ++ escaped bs ++ told.IN_ITS_PLACE.now

unfoldable pub quote_mend : List ℕ → List ℕ
quote_mend bs = told.BETWEEN_APOSTROPHES.now ++ escaped bs ++ told.IN_PLACE_OF_BYTE.now

abbrev pub character_mend : ℕ → List ℕ → List ℕ
character_mend mark bs = if mark == 39 then escape_mend bs else quote_mend bs

-- a string that begins at the offset, and holds so many bytes in front of the character
unfoldable pub string_byte_mend : List ℕ → ℕ → ℕ → ℕ → List ℕ
string_byte_mend file offset mark held = character_mend mark (character_of (drop held (drop 1 (drop offset file))))

unfoldable pub slip_mend : List ℕ → ℕ → Slip → List ℕ
slip_mend file offset (slip.Comment b) = told.COMMENT_MEND.now
slip_mend file offset (slip.Separator b) = separator_mend b
slip_mend file offset (slip.OpenString mark) = string_mend mark
slip_mend file offset (slip.ByteInString mark b held) = string_byte_mend file offset mark held
slip_mend file offset slip.Escape = told.ESCAPE_MEND.now
slip_mend file offset slip.Colon = told.COLON_MEND.now
slip_mend file offset slip.Minus = told.MINUS_MEND.now
slip_mend file offset slip.Point = told.POINT_MEND.now
slip_mend file offset (slip.Operator b) = told.OPERATOR_MEND.now
slip_mend file offset (slip.Byte b) = told.BYTE_MEND.now

unfoldable pub holds_mend : Name → List ℕ
holds_mend n = told.END_STRING_BEFORE.now ++ written n

unfoldable pub name_mend : Name → List ℕ
name_mend n = codes "write " ++ written n

-- the number of the key
unfoldable pub key_mend : Key → List ℕ
key_mend k = codes "write `" ++ decimal (unsigned_abs (key_number k)) ++ codes "`"

unfoldable pub fields_mend : Class → List ℕ
fields_mend c = told.ONE_OF_FIELDS.now ++ fields_of c

unfoldable pub events_mend : List ℕ
events_mend = told.ONE_OF_EVENTS.now ++ words_with [] events

unfoldable pub plain_mend : Goal → List ℕ
plain_mend g = codes "write " ++ wanted g

abbrev pub is_event_shape : Shape → Bool
is_event_shape shape.Event = true
is_event_shape s = false

abbrev pub is_event_part : Option Part → Bool
is_event_part (Some (part.Need need.Event)) = true
is_event_part p = false

abbrev pub event_mend : Bool → Goal → List ℕ
event_mend true g = events_mend
event_mend false g = plain_mend g

-- what may be written where this is wanted; of some tables all their words
abbrev pub wanted_mend : Goal → List ℕ
wanted_mend (goal.Fields c) = fields_mend c
wanted_mend (goal.Value c a) = event_mend (is_event_shape (shape_of c a)) (goal.Value c a)
wanted_mend (goal.Part r n) = event_mend (is_event_part (part_at r n)) (goal.Part r n)
wanted_mend g = plain_mend g

-- the name of the keyword that is found
abbrev pub name_found : List ℕ → ℕ → List ℕ
name_found file offset = option_map_or (λ (t : TokenKind × List ℕ). drop 1 t.1) (first_token (drop offset file)) []

-- the three letters in front are the same
abbrev pub begin_alike : List ℕ → List ℕ → Bool
begin_alike word other = nat_le 3 (length word) && bytes_eq (take 3 word) (take 3 other)

-- those of the actions with names that begin as the word does, with words in front of the first
abbrev pub actions_alike : List ℕ → List ℕ → List ActionName → List ℕ
actions_alike front word [] = []
actions_alike front word (a ∷ more) =
    if begin_alike word (action_word a) then front ++ action_word a ++ actions_alike (codes ", ") word more
    else actions_alike front word more

unfoldable pub alike_told : List ℕ → List ℕ
alike_told word = actions_alike told.BEGIN_ALIKE.now word actions

abbrev pub alike_for : Goal → List ℕ → List ℕ
alike_for (goal.Members listed.Actions) word = alike_told word
alike_for g word = []

unfoldable pub open_mend : List ℕ → ℕ → Goal → List ℕ
open_mend file offset g = wanted_mend g ++ alike_for g (name_found file offset)

abbrev pub unknown_mend : List ℕ → ℕ → Goal → Option Name → List ℕ
unknown_mend file offset g (Some n) = name_mend n
unknown_mend file offset g None = open_mend file offset g

-- the byte that closes what this one opens
abbrev pub closing : List ℕ → List ℕ
closing [] = codes ")"
closing (b ∷ bs) = if b == 123 then codes "}" else codes ")"

unfoldable pub closing_mend : List ℕ → ℕ → List ℕ
closing_mend file start = told.WRITE_ITS.now ++ marked (closing (drop start file)) ++ told.WHERE_IT_ENDS.now

unfoldable pub not_taken_mend : Attribute → List ℕ
not_taken_mend a = told.TAKE_AWAY_OR.now ++ classes_taking a

unfoldable pub lacks_mend : Class → Attribute → List ℕ
lacks_mend c a = codes "write " ++ field_row c a

-- within a reference its own part is wanted, whatever is being read
abbrev pub is_in_reference : Goal → Bool
is_in_reference (goal.Part row.Reference n) = true
is_in_reference g = false

abbrev pub row_for : Goal → Option Goal → Option Goal
row_for g r = if is_in_reference g then None else r

unfoldable pub unwanted_mend : Goal → Option Goal → List ℕ
unwanted_mend g r = codes "write " ++ row_written g (row_for g r)

unfoldable pub range_mend : Goal → List ℕ
range_mend g = codes "write " ++ limits_words (limits_of g)

-- what is to be written
unfoldable pub mend : List ℕ → ℕ → Misread → List ℕ
mend file offset (misread.Slip s) = slip_mend file offset s
mend file offset (misread.NoColon n) = name_mend n
mend file offset (misread.Unknown g n) = unknown_mend file offset g n
mend file offset misread.BehindString = told.BEHIND_STRING_MEND.now
mend file offset (misread.HoldsKeyword n) = holds_mend n
mend file offset (misread.KeyName k) = key_mend k
mend file offset misread.Tight = told.TIGHT_MEND.now
mend file offset misread.Behind = told.BEHIND_MEND.now
mend file offset (misread.TextEnds start) = closing_mend file start
mend file offset (misread.Unclosed start) = closing_mend file start
mend file offset (misread.NotTaken c a) = not_taken_mend a
mend file offset (misread.Twice c a) = told.TWICE_MEND.now
mend file offset (misread.Lacks c a) = lacks_mend c a
mend file offset misread.BareName = told.BARE_NAME_MEND.now
mend file offset (misread.Unwanted g r) = unwanted_mend g r
mend file offset (misread.OutOfRange g) = range_mend g
