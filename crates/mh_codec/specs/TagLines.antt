-- Lines that name tags, one a line: `class NAME N`, `attr NAME N`, `action NAME N`, `value NAME N`. What no
-- line names keeps the tag of the profile.
use Rattle.std.specs.Prelude.{◌≡◌, ℕ, ◌+◌, ◌*◌, ◌-◌, ◌==◌, nat_le, Bool, true, false, ◌&&◌, if◌then◌else◌, List, [], ◌∷◌, ◌++◌, length, map, take, drop, Option, Some, None, Result, Ok, Err, codes}
use Rattle.std.specs.List.{find, flat_map, list_any, position, range_with_len, slice_split}
use Rattle.std.specs.Option.{option_and_then, option_map, option_map_or}
use Rattle.std.specs.Str.{bytes_eq}
use Rattle.std.specs.Char.{is_ascii_digit}
use Rattle.mh_base.specs.Reading as base
use Rattle.mh_group.specs.Words.{class_word, classes, attribute_word, attributes, action_word, actions}
use Rattle.mh_group.specs.Table.{class_number, attribute_number, action_number}
use Rattle.mh_codec.specs.declared.tag_line.TagContext.{TagContext}
use Rattle.mh_codec.specs.declared.tag_line.TagContext.TheVariants as context
use Rattle.mh_codec.specs.declared.tag_line.NamedTag.{NamedTag}
use Rattle.mh_codec.specs.declared.tag_line.TagLine.{TagLine}
use Rattle.mh_codec.specs.declared.tag_line.TagLine.TheVariants as line
use Rattle.mh_codec.specs.declared.tag_error.TagError.{TagError}
use Rattle.mh_codec.specs.declared.tag_error.TagError.TheVariants as error
use Rattle.mh_codec.specs.Tags.{Tags, first_double}

-- Contexts

abbrev pub context_number : TagContext → ℕ
context_number context.Class = 1
context_number context.Attribute = 2
context_number context.Action = 3
context_number context.Value = 4

-- the words of the tags around values, by their numbers from 60 on
unfoldable pub value_word : ℕ → List ℕ
value_word n =
    if n == 60 then codes "ContentRef"
    else (if n == 61 then codes "IndirectRef"
    else (if n == 62 then codes "GBoolean"
    else (if n == 63 then codes "GInteger"
    else (if n == 64 then codes "GOctetString" else (if n == 65 then codes "GObjectRef" else codes "GContentRef")))))

abbrev pub value_numbers : List ℕ
value_numbers = 60 ∷ 61 ∷ 62 ∷ 63 ∷ 64 ∷ 65 ∷ 66 ∷ []

-- the number that has this name in the context, if one has
abbrev pub number_named : TagContext → List ℕ → Option ℕ
number_named context.Class name = option_map class_number (find (λ x. bytes_eq (class_word x) name) classes)
number_named context.Attribute name = option_map attribute_number (find (λ x. bytes_eq (attribute_word x) name) attributes)
number_named context.Action name = option_map (λ a. 100 + action_number a) (find (λ x. bytes_eq (action_word x) name) actions)
number_named context.Value name = find (λ n. bytes_eq (value_word n) name) value_numbers

-- One line

-- the number with one digit more, if it is a digit and a tag can have the number
abbrev pub with_digit : ℕ → ℕ → Option ℕ
with_digit n d = if is_ascii_digit d && nat_le (n * 10 + (d - 48)) 65535 then Some (n * 10 + (d - 48)) else None

abbrev pub read_digits : Option ℕ → List ℕ → Option ℕ
read_digits before [] = before
read_digits before (d ∷ ds) = read_digits (option_and_then (λ n. with_digit n d) before) ds

-- the tag that decimal digits write: at least one of them, with leading zeros or without
abbrev pub decimal : List ℕ → Option ℕ
decimal [] = None
decimal (d ∷ ds) = read_digits (Some 0) (d ∷ ds)

-- a number of the context gets this tag, if both are there
abbrev pub naming : TagContext → Option ℕ → Option ℕ → TagLine
naming c (Some number) (Some tag) = line.Names (record { context = c; number = number; tag = tag })
naming c _ _ = line.Wrong

-- the first space parts the name from the digits
abbrev pub parted_at : TagContext → Option ℕ → List ℕ → TagLine
parted_at c (Some at) words = naming c (number_named c (take at words)) (decimal (drop (at + 1) words))
parted_at c None words = line.Wrong

-- what stands behind the word of the context and a space
abbrev pub in_context : TagContext → List ℕ → TagLine
in_context c words = parted_at c (position (λ b. b == 32) words) words

-- the bytes begin with these
abbrev pub begins : List ℕ → List ℕ → Bool
begins front bytes = bytes_eq (take (length front) bytes) front

abbrev pub naming_line : List ℕ → TagLine
naming_line l =
    if begins (codes "class ") l then in_context context.Class (drop 6 l)
    else (if begins (codes "attr ") l then in_context context.Attribute (drop 5 l)
    else (if begins (codes "action ") l then in_context context.Action (drop 7 l)
    else (if begins (codes "value ") l then in_context context.Value (drop 6 l) else line.Wrong)))

-- an empty line and one that begins with `#` are skipped
abbrev pub is_comment : List ℕ → Bool
is_comment [] = true
is_comment (b ∷ bs) = b == 35

-- what a line says
unfoldable pub line_of : List ℕ → TagLine
line_of l = if is_comment l then line.Skipped else naming_line l

-- All lines

-- the lines: what stands before, between and behind the line feeds
abbrev pub lines : List ℕ → List (List ℕ)
lines bytes = slice_split (λ b. b == 10) bytes

-- the lines of what stands behind a line feed, if there is one
abbrev pub lines_behind : Option (List ℕ) → List (List ℕ)
lines_behind None = []
lines_behind (Some bytes) = lines bytes

abbrev pub named_by : TagLine → List NamedTag
named_by (line.Names named) = named ∷ []
named_by _ = []

-- what the lines name, in order
abbrev pub all_named : List (List ℕ) → List NamedTag
all_named ls = flat_map (λ l. named_by (line_of l)) ls

-- this is the tag of that number in that context
abbrev pub is_for : TagContext → ℕ → NamedTag → Bool
is_for c n named = context_number named.context == context_number c && named.number == n

-- the line is wrong, or it names a tag for what has one of these
abbrev pub is_wrong : List NamedTag → TagLine → Bool
is_wrong before (line.Names named) = list_any (is_for named.context named.number) before
is_wrong before line.Skipped = false
is_wrong before line.Wrong = true

-- the number of the first line that is so, where the first has number n and these are named before it
abbrev pub first_wrong : ℕ → List NamedTag → List (List ℕ) → Option ℕ
first_wrong n before [] = None
first_wrong n before (l ∷ ls) =
    if is_wrong before (line_of l) then Some n else first_wrong (n + 1) (before ++ named_by (line_of l)) ls

-- The table

-- the tag of a number in a context: the one that is named, and else the number itself
abbrev pub tag_by : List NamedTag → TagContext → ℕ → ℕ
tag_by named c n = option_map_or (λ (x : NamedTag). x.tag) (find (is_for c n) named) n

-- the tags of so many numbers
unfoldable pub column_by : List NamedTag → TagContext → ℕ → ℕ → List ℕ
column_by named c first count = map (tag_by named c) (range_with_len first count)

unfoldable pub table_by : List NamedTag → Tags
table_by named = record {
  classes = column_by named context.Class 0 17;
  attributes = column_by named context.Attribute 1 38;
  actions = column_by named context.Action 100 70;
  values = column_by named context.Value 60 7;
}

-- why lines make no table: the number of a wrong line, or of a context in which a tag stands twice
pub data TagRefusal : Type 0 where
  WrongLine : ℕ → TagRefusal
  DoubleTag : ℕ → TagRefusal

abbrev pub unless_double : Tags → Option ℕ → Result Tags TagRefusal
unless_double t None = Ok t
unless_double t (Some number) = Err (DoubleTag number)

abbrev pub unless_wrong : List NamedTag → Option ℕ → Result Tags TagRefusal
unless_wrong named None = unless_double (table_by named) (first_double (table_by named))
unless_wrong named (Some number) = Err (WrongLine number)

-- the table that the lines name, or the first wrong line, or else the first context with a double
unfoldable pub read_table : List ℕ → Result Tags TagRefusal
read_table bytes = unless_wrong (all_named (lines bytes)) (first_wrong 1 [] (lines bytes))

-- Answers of functions

-- what an error tells of the lines: nothing, where memory ran out
abbrev pub told : TagError → Option TagRefusal
told (error.Line number) = Some (WrongLine number)
told (error.Double number) = Some (DoubleTag number)
told error.NoMemory = None

-- what a function returned is the table, or the refusal, unless memory ran out
abbrev pub GivesTable : Result Tags TagError → Result Tags TagRefusal → Type 0
GivesTable result read = base.Gives told (λ t. t) result read

-- the first wrong line of these bytes is the one that the error names
abbrev pub IsWrongAt : List ℕ → TagError → Type 0
IsWrongAt bytes (error.Line number) = first_wrong 1 [] (lines bytes) ≡ Some number
IsWrongAt bytes (error.Double number) = ⊥
IsWrongAt bytes error.NoMemory = Unit {0}
