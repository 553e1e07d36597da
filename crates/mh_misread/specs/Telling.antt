-- What an author is told of a misread text: what was found and what is wanted. It has no full stop.
use Rattle.std.specs.Prelude.{ℕ, ◌+◌, ◌/◌, ◌%◌, ◌==◌, Bool, true, false, nat_le, nat_lt, if◌then◌else◌, ◌&&◌, List, [], ◌∷◌, ◌++◌, length, take, drop, codes, Option, Some, None}
use Rattle.std.specs.Fmt.{decimal}
use Rattle.std.specs.List.{filter, prefix_len}
use Rattle.mh_group.specs.declared.class.Class.{Class}
use Rattle.mh_group.specs.declared.attribute.Attribute.{Attribute}
use Rattle.mh_group.specs.declared.action_name.ActionName.{ActionName}
use Rattle.mh_base.specs.declared.event.EventType.{EventType}
use Rattle.mh_group.specs.declared.shape.Need.{Need}
use Rattle.mh_group.specs.Table.{shape_of, takes, needs_of, optional_of}
use Rattle.mh_group.specs.Words.{classes, class_word, attributes, attribute_word, action_word, event_word, justification_word}
use Rattle.mh_text.specs.declared.token.kind.TokenKind.{TokenKind}
use Rattle.mh_text.specs.declared.token.kind.TokenKind.TheVariants as token_kind
use Rattle.mh_misread.specs.declared.name.Name.{Name}
use Rattle.mh_misread.specs.declared.name.Name.TheVariants as name
use Rattle.mh_misread.specs.declared.part.Row.TheVariants as row
use Rattle.mh_misread.specs.declared.part.Part.{Part}
use Rattle.mh_misread.specs.declared.goal.Goal.{Goal}
use Rattle.mh_misread.specs.declared.goal.Goal.TheVariants as goal
use Rattle.mh_misread.specs.declared.slip.Slip.{Slip}
use Rattle.mh_misread.specs.declared.slip.Slip.TheVariants as slip
use Rattle.mh_misread.specs.declared.misread.Misread.{Misread}
use Rattle.mh_misread.specs.declared.misread.Misread.TheVariants as misread
use Rattle.mh_misread.specs.declared.phrases.TheConstants as told
use Rattle.mh_misread.specs.Names.{word_of}
use Rattle.mh_misread.specs.Held.{first_keyword, line_of}
use Rattle.mh_misread.specs.Goals.{part_at}
use Rattle.mh_misread.specs.LimitsOf.{limits_of}
use Rattle.mh_misread.specs.Misreads.{first_token}
use Rattle.mh_misread.specs.Words.{shape_words, second_words, need_name, part_words, member_words, kind_words, open_words, limits_words}

-- WORDS FOR WHAT IS FOUND

-- a word between marks, as it stands in a text
unfoldable pub marked : List ℕ → List ℕ
marked word = codes "`" ++ word ++ codes "`"

unfoldable pub keyword_written : List ℕ → List ℕ
keyword_written word = codes "`:" ++ word ++ codes "`"

-- a keyword or a word as it is written
abbrev pub written : Name → List ℕ
written (name.Event e) = marked (event_word e)
written (name.Justification j) = marked (justification_word j)
written (name.Truth b) = marked (word_of (name.Truth b))
written n = keyword_written (word_of n)

-- a word, if it is not too long to be shown
abbrev pub word_shown : List ℕ → List ℕ
word_shown word = if nat_lt 64 (length word) then told.THIS_WORD.now else marked word

abbrev pub token_words : TokenKind → List ℕ → List ℕ
token_words token_kind.Text word = told.THIS_STRING.now
token_words token_kind.Quoted word = told.THIS_STRING.now
token_words k word = word_shown word

abbrev pub found_words : Option (TokenKind × List ℕ) → List ℕ
found_words (Some t) = token_words t.0 t.1
found_words None = codes "the end"

-- the token that stands at the place
unfoldable pub found : List ℕ → ℕ → List ℕ
found file offset = found_words (first_token (drop offset file))

-- the upper-case hexadecimal digit of a number below 16
abbrev pub hex_digit : ℕ → ℕ
hex_digit d = if nat_lt d 10 then 48 + d else 55 + d

-- a byte in two hexadecimal digits
unfoldable pub hex_byte : ℕ → List ℕ
hex_byte b = hex_digit (b / 16) ∷ hex_digit (b % 16) ∷ []

abbrev pub escapes : List ℕ → List ℕ
escapes [] = []
escapes (b ∷ bs) = codes "=" ++ hex_byte b ++ escapes bs

-- bytes as they are written in a string between `'`
unfoldable pub escaped : List ℕ → List ℕ
escaped bs = codes "`" ++ escapes bs ++ codes "`"

-- a byte that goes on with a character of several bytes
abbrev pub is_continuation : ℕ → Bool
is_continuation b = nat_le 128 b && nat_lt b 192

-- the bytes of the first character
unfoldable pub character_of : List ℕ → List ℕ
character_of bs = take (1 + prefix_len is_continuation (drop 1 bs)) bs

-- the byte itself, if it can be seen
unfoldable pub byte_words : ℕ → List ℕ
byte_words b = if nat_lt 32 b && nat_lt b 127 then marked (b ∷ []) else codes "the byte " ++ hex_byte b

-- how many lines end in front of the offset
abbrev pub lines_before : List ℕ → ℕ → ℕ
lines_before file offset = length (filter (λ b. b == 10) (take offset file))

-- the number of the line in which the byte at the offset stands
unfoldable pub line_words : List ℕ → ℕ → List ℕ
line_words file offset = codes "line " ++ decimal (lines_before file offset + 1)

unfoldable pub bracket_words : List ℕ → ℕ → List ℕ
bracket_words file offset = marked (take 1 (drop offset file)) ++ codes " of " ++ line_words file offset

-- WORDS FOR WHAT IS WANTED

abbrev pub part_wanted : Option Part → List ℕ
part_wanted (Some p) = part_words p
part_wanted None = codes "`)`"

unfoldable pub field_wanted : Class → List ℕ
field_wanted c = told.A_FIELD_OF.now ++ class_word c ++ told.OR_ITS_BRACE.now

unfoldable pub wanted : Goal → List ℕ
wanted goal.Group = told.A_GROUP.now
wanted goal.GroupClass = told.A_GROUP_CLASS.now
wanted goal.ItemClass = told.AN_ITEM_CLASS.now
wanted (goal.ItemNumber c) = told.ITEM_NUMBER.now
wanted (goal.Fields c) = field_wanted c
wanted (goal.Value c a) = shape_words (shape_of c a)
wanted (goal.Second c a) = second_words (shape_of c a)
wanted (goal.Open r) = open_words r
wanted (goal.Part r n) = part_wanted (part_at r n)
wanted (goal.Members l) = member_words l
wanted (goal.OfKind k) = kind_words k
wanted goal.Variable = told.A_VARIABLE.now

-- a mark behind what may be missing
abbrev pub optional_mark : Bool → List ℕ
optional_mark true = codes "?"
optional_mark false = []

unfoldable pub need_written : Need → Bool → List ℕ
need_written n may_lack = codes " " ++ need_name n ++ optional_mark may_lack

-- the parameters of a row, of which so many may be missing at the end
abbrev pub needs_written : ℕ → List Need → List ℕ
needs_written optional [] = []
needs_written optional (n ∷ ns) = need_written n (nat_le (length (n ∷ ns)) optional) ++ needs_written optional ns

-- how an action is written
unfoldable pub action_row : ActionName → List ℕ
action_row a = codes "`:" ++ action_word a ++ codes " ( target" ++ needs_written (optional_of a) (needs_of a) ++ codes " )`"

-- how a field is written
unfoldable pub field_row : Class → Attribute → List ℕ
field_row c a = keyword_written (attribute_word a) ++ told.AND_THEN.now ++ shape_words (shape_of c a)

-- all of the action or the field that is being read, or else what is wanted
abbrev pub row_written : Goal → Option Goal → List ℕ
row_written g (Some (goal.Value c a)) = field_row c a
row_written g (Some (goal.Second c a)) = field_row c a
row_written g (Some (goal.Open (row.Action a))) = action_row a
row_written g (Some (goal.Part (row.Action a) n)) = action_row a
row_written g r = wanted g

-- those of the classes that take the attribute, with words in front of the first
abbrev pub classes_with : List ℕ → Attribute → List Class → List ℕ
classes_with front a [] = []
classes_with front a (c ∷ cs) =
    if takes c a then front ++ class_word c ++ classes_with (codes ", ") a cs else classes_with front a cs

-- all classes that take the attribute
unfoldable pub classes_taking : Attribute → List ℕ
classes_taking a = classes_with [] a classes

-- those of the attributes that objects of the class take, with words in front of the first
abbrev pub fields_with : List ℕ → Class → List Attribute → List ℕ
fields_with front c [] = []
fields_with front c (a ∷ bs) =
    if takes c a then front ++ attribute_word a ++ fields_with (codes ", ") c bs else fields_with front c bs

-- all attributes that objects of the class take
unfoldable pub fields_of : Class → List ℕ
fields_of c = fields_with [] c attributes

-- the words of types of events, with words in front of the first
abbrev pub words_with : List ℕ → List EventType → List ℕ
words_with front [] = []
words_with front (e ∷ es) = front ++ event_word e ++ words_with (codes ", ") es

-- THE CAUSE

unfoldable pub comment_cause : ℕ → List ℕ
comment_cause b = told.COMMENTS_BEGIN.now ++ byte_words b

unfoldable pub separator_cause : ℕ → List ℕ
separator_cause b = told.BETWEEN_ITEMS.now ++ byte_words b

-- the keyword that a string holds
unfoldable pub and_holds : Option Name → List ℕ
and_holds None = []
and_holds (Some n) = told.AND_HOLDS.now ++ written n

unfoldable pub string_cause : List ℕ → ℕ → List ℕ
string_cause file offset =
    told.STRING_BEGINS.now ++ line_words file offset ++ told.DOES_NOT_END.now ++ and_holds (first_keyword (line_of (drop offset file)))

unfoldable pub string_byte_cause : ℕ → List ℕ
string_byte_cause b = told.STRING_HAS.now ++ byte_words b ++ told.IN_NO_STRING.now

unfoldable pub byte_cause : ℕ → List ℕ
byte_cause b = told.NOTHING_BEGINS.now ++ byte_words b

unfoldable pub slip_cause : List ℕ → ℕ → Slip → List ℕ
slip_cause file offset (slip.Comment b) = comment_cause b
slip_cause file offset (slip.Separator b) = separator_cause b
slip_cause file offset (slip.OpenString mark) = string_cause file offset
slip_cause file offset (slip.ByteInString mark b held) = string_byte_cause b
slip_cause file offset slip.Escape = told.ESCAPE_CAUSE.now
slip_cause file offset slip.Colon = told.COLON_CAUSE.now
slip_cause file offset slip.Minus = told.MINUS_CAUSE.now
slip_cause file offset slip.Point = told.POINT_CAUSE.now
slip_cause file offset (slip.Operator b) = byte_cause b
slip_cause file offset (slip.Byte b) = byte_cause b

unfoldable pub no_colon_cause : Name → List ℕ
no_colon_cause n = marked (word_of n) ++ told.WANTS_COLON.now

unfoldable pub unknown_cause : List ℕ → ℕ → List ℕ
unknown_cause file offset = told.NO_TABLE_HAS.now ++ found file offset

unfoldable pub behind_string_cause : List ℕ → ℕ → List ℕ
behind_string_cause file offset = found file offset ++ told.RIGHT_BEHIND_STRING.now

unfoldable pub holds_cause : Name → List ℕ
holds_cause n = told.STRING_HOLDS.now ++ written n

unfoldable pub key_cause : List ℕ → ℕ → List ℕ
key_cause file offset = found file offset ++ told.IS_A_KEY.now

unfoldable pub tight_cause : List ℕ → ℕ → List ℕ
tight_cause file offset = told.SPACE_LACKS.now ++ found file offset

unfoldable pub behind_cause : List ℕ → ℕ → List ℕ
behind_cause file offset = found file offset ++ told.STANDS_BEHIND.now

unfoldable pub end_cause : List ℕ → ℕ → List ℕ
end_cause file start = told.TEXT_ENDS.now ++ bracket_words file start ++ codes " is open"

unfoldable pub unclosed_cause : List ℕ → ℕ → ℕ → List ℕ
unclosed_cause file offset start = found file offset ++ told.STANDS_HERE.now ++ bracket_words file start ++ codes " is open"

unfoldable pub not_taken_cause : Class → Attribute → List ℕ
not_taken_cause c a = keyword_written (attribute_word a) ++ told.IS_NO_FIELD.now ++ keyword_written (class_word c)

unfoldable pub twice_cause : Class → Attribute → List ℕ
twice_cause c a = keyword_written (attribute_word a) ++ told.STANDS_IN_THIS.now ++ class_word c ++ codes " already"

unfoldable pub lacks_cause : Class → Attribute → List ℕ
lacks_cause c a = codes "this " ++ class_word c ++ told.ENDS_WITHOUT.now ++ keyword_written (attribute_word a)

unfoldable pub unwanted_cause : List ℕ → ℕ → Goal → List ℕ
unwanted_cause file offset g = found file offset ++ told.IN_PLACE_OF.now ++ wanted g

unfoldable pub range_cause : List ℕ → ℕ → Goal → List ℕ
range_cause file offset g = found file offset ++ codes " is not " ++ limits_words (limits_of g)

-- what was found, and what is wanted
unfoldable pub cause : List ℕ → ℕ → Misread → List ℕ
cause file offset (misread.Slip s) = slip_cause file offset s
cause file offset (misread.NoColon n) = no_colon_cause n
cause file offset (misread.Unknown g n) = unknown_cause file offset
cause file offset misread.BehindString = behind_string_cause file offset
cause file offset (misread.HoldsKeyword n) = holds_cause n
cause file offset (misread.KeyName k) = key_cause file offset
cause file offset misread.Tight = tight_cause file offset
cause file offset misread.Behind = behind_cause file offset
cause file offset (misread.TextEnds start) = end_cause file start
cause file offset (misread.Unclosed start) = unclosed_cause file offset start
cause file offset (misread.NotTaken c a) = not_taken_cause c a
cause file offset (misread.Twice c a) = twice_cause c a
cause file offset (misread.Lacks c a) = lacks_cause c a
cause file offset misread.BareName = told.BARE_NAME_CAUSE.now
cause file offset (misread.Unwanted g r) = unwanted_cause file offset g
cause file offset (misread.OutOfRange g) = range_cause file offset g
