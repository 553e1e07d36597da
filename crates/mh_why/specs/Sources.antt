-- The files of a service, as places in them are shown.
use Rattle.std.specs.Prelude.{◌&&◌, ℕ, zero, suc, ◌+◌, ◌-◌, ◌==◌, Bool, false, ◌||◌, not, nat_le, if◌then◌else◌, List, [], ◌∷◌, ◌++◌, drop, length, codes, Option, Some, None, Result, Ok, Err}
use Rattle.std.specs.Fmt.{decimal}
use Rattle.std.specs.List.{filter, find, flat_map, prefix_len}
use Rattle.std.specs.Option.{option_map, option_map_or}
use Rattle.std.specs.Str.{bytes_eq}
use Rattle.bstr.specs.Text.{lines_of, without_terminator}
use Rattle.mh_base.specs.Path.{is_path, led_to}
use Rattle.mh_group.specs.declared.action_name.ActionName.{ActionName}
use Rattle.mh_group.specs.declared.written.Written.{Written}
use Rattle.mh_group.specs.Words.{action_word}
use Rattle.mh_codec.specs.Gives.{Refusal}
use Rattle.mh_codec.specs.Reading as octets
use Rattle.mh_codec.specs.Tags.{Tags, profile}
use Rattle.mh_text.specs.Landmarks.{Landmark, Sight, Class, Number, Name, Through, landmarks}
use Rattle.mh_text.specs.Lexing as words
use Rattle.mh_text.specs.Printed.{printed, passes_limit}
use Rattle.mh_text.specs.declared.mark.Mark.{Mark}
use Rattle.mh_text.specs.Marks.{marks, mark_of}
use Rattle.mh_told.specs.Reading.{Source as File, is_group_file, table_of}
use Rattle.mh_told.specs.declared.unplayable.Unplayable.{Unplayable}
use Rattle.mh_cause.specs.declared.detail.Detail.{Detail}
use Rattle.mh_why.specs.Meant.{Sought, mentions}
use Rattle.mh_why.specs.declared.explanation.place.marked.TheConstants.{HAVE_CHANGED}
use Rattle.mh_why.specs.declared.explanation.place.named.TheConstants.{STANDS_HERE, STAND_IN}
use Rattle.mh_why.specs.declared.explanation.place.TheConstants.{AS_PRINTED}
use Rattle.mh_why.specs.LineWords.{number_in}
use Rattle.mh_why.specs.Octets.{shown_octet}
use Rattle.mh_why.specs.Places.{shown_place}
use Rattle.mh_why.specs.Values.{detail_in, value_size}
use Rattle.mh_why.specs.Wrapping.{paragraph}

-- a file's path, the text that is shown of it, the marks of that, whether the file begins as a group in the textual notation, whether it
-- begins as one at all, and whether the text is the printed form of a group in the binary notation
pub record Source : Type 0 where
  pub name : List ℕ
  pub text : List ℕ
  pub marks : List Mark
  pub is_written : Bool
  pub is_group : Bool
  pub is_printed : Bool

-- what is shown of a group that was read
abbrev pub printed_as : List ℕ → Written → List ℕ
printed_as bs g = if passes_limit g then bs else printed g

-- what is shown of octets that were read so: the group as it is printed; what is none, or is too long then, stands for itself
abbrev pub shown_as : List ℕ → Result Written Refusal → List ℕ
shown_as bs (Ok g) = printed_as bs g
shown_as bs (Err _) = bs

-- what is shown of a file, where the binary notation has these tags
unfoldable pub text_of : Tags → List ℕ → List ℕ
text_of tags bs = if octets.begins_group tags bs then shown_as bs (octets.read tags bs) else bs

-- another text is shown of the file than its bytes
abbrev pub is_printed : List ℕ → List ℕ → Bool
is_printed text bs = not (bytes_eq text bs)

abbrev pub source_of : Tags → File → Source
source_of tags f = record {
  name = f.0;
  text = text_of tags f.1.items;
  marks = marks (text_of tags f.1.items);
  is_written = words.begins_group f.1.items;
  is_group = is_group_file tags f.1.items;
  is_printed = is_printed (text_of tags f.1.items) f.1.items;
}

abbrev pub source_named : List Source → List ℕ → Option Source
source_named ss name = find (λ (s : Source). bytes_eq s.name name) ss

-- what is shown of the file with this name, if it is there
abbrev pub in_source : (Source → List ℕ) → List Source → List ℕ → List ℕ
in_source shown ss name = option_map_or shown (source_named ss name) []

-- so many bytes of the text behind so many others; of the printed form it is told that it is one
unfoldable pub shown_in : Source → ℕ → ℕ → List ℕ
shown_in s start size =
    if s.is_printed then shown_place (s.name ++ AS_PRINTED.now) s.text start size else shown_place s.name s.text start size

-- ACTIONS

abbrev pub shown_mark : Source → Mark → List ℕ
shown_mark s m = shown_in s m.start m.length

-- the mark of the action with this number of an object, or with the number 0 of its list of members
abbrev pub shown_numbered : ℕ → ℕ → Source → List ℕ
shown_numbered object index s = option_map_or (shown_mark s) (mark_of s.marks object index) []

-- the same of the group with this name, if its file is there
unfoldable pub shown_action : List Source → List ℕ → ℕ → ℕ → List ℕ
shown_action ss group object index = in_source (shown_numbered object index) ss group

-- a name that leads to no path stands for itself
abbrev pub path_from : List ℕ → List ℕ → List ℕ
path_from from name = if is_path (led_to from name) then led_to from name else name

abbrev pub through_path : List ℕ → Option (List ℕ) → List ℕ
through_path from None = from
through_path from (Some name) = path_from from name

abbrev pub variable_words : List ℕ → Through → List ℕ
variable_words from t = codes "variable " ++ decimal t.number ++ codes " of " ++ through_path from t.name

-- one behind the other
abbrev pub more_variables : List ℕ → List Through → List ℕ
more_variables from ts = flat_map (λ t. codes ", " ++ variable_words from t) ts

-- an action of this name stands there, or a list of members for `-`
abbrev pub is_marked : List ℕ → Mark → Bool
is_marked word m = option_map_or (λ name. bytes_eq (action_word name) word) m.action (bytes_eq word (codes "-"))

-- how long the token is that begins so: a string up to its end, and else all up to white space, a bracket or a string; of what begins
-- no token one byte

abbrev pub is_quote : ℕ → Bool
is_quote b = b == 34 || b == 39

abbrev pub is_bracket : ℕ → Bool
is_bracket b = ((b == 40 || b == 41) || b == 123) || b == 125

abbrev pub is_blank : ℕ → Bool
is_blank b = ((b == 32 || b == 9) || b == 13) || b == 10

abbrev pub is_in_token : ℕ → Bool
is_in_token b = not ((is_blank b || is_bracket b) || is_quote b)

abbrev pub is_no : ℕ → ℕ → Bool
is_no b c = not (c == b)

abbrev pub token_size : List ℕ → ℕ
token_size [] = 1
token_size (b ∷ bs) = if is_quote b then prefix_len (is_no b) bs + 2 else (if is_bracket b then 1 else prefix_len is_in_token bs + 1)

-- a part of an action, or of a list of members, or else its keyword

abbrev pub shown_rest : Source → Mark → List ℕ → List ℕ
shown_rest s m [] = shown_mark s m
shown_rest s m (b ∷ bs) = shown_in s (length s.text - length (b ∷ bs)) (value_size (b ∷ bs))

unfoldable pub shown_detail : Detail → Source → Mark → List ℕ
shown_detail d s m = shown_rest s m (detail_in d (drop m.start s.text))

-- where something else stands there, the output is of other files
abbrev pub shown_if_marked : List ℕ → Detail → Source → Mark → List ℕ
shown_if_marked word d s m = if is_marked word m then shown_detail d s m else paragraph HAVE_CHANGED.now

abbrev pub shown_named_at : List ℕ → Detail → ℕ → ℕ → Source → List ℕ
shown_named_at word d object index s =
    option_map_or (shown_if_marked word d s) (mark_of s.marks object index) (paragraph HAVE_CHANGED.now)

-- an action of this name, and the part of it that is wrong
unfoldable pub shown_refused : List Source → List ℕ → Detail → List ℕ → ℕ → ℕ → List ℕ
shown_refused ss word d group object index = in_source (shown_named_at word d object index) ss group

-- where all actions stand that can be meant

abbrev pub is_named : List ℕ → Option ActionName → Bool
is_named word None = false
is_named word (Some name) = bytes_eq (action_word name) word

-- an action of the name that can be meant
abbrev pub is_meant : Sought → List ℕ → Mark → Bool
is_meant w text m = is_named w.action m.action && mentions w.number (drop m.start text)

abbrev pub marks_named : Sought → Source → List Mark
marks_named w s = filter (is_meant w s.text) s.marks

abbrev pub count_named : Sought → List Source → ℕ
count_named w [] = 0
count_named w (s ∷ ss) = length (marks_named w s) + count_named w ss

abbrev pub shown_named : Sought → List Source → List ℕ
shown_named w ss = flat_map (λ s. flat_map (shown_mark s) (marks_named w s)) ss

-- so many places are shown; of more their number is told
abbrev pub named_words : Sought → List Source → ℕ → List ℕ
named_words w ss zero = []
named_words w ss (suc n) =
    if nat_le (suc n) 3 then paragraph STANDS_HERE.now ++ shown_named w ss
    else paragraph (STAND_IN.now ++ decimal (suc n) ++ codes " places.")

unfoldable pub shown_actions : List Source → Sought → List ℕ
shown_actions ss w = named_words w ss (count_named w ss)

-- OBJECTS AND NAMES

abbrev pub shown_landmark : Source → Landmark → List ℕ
shown_landmark s m = shown_in s m.start m.length

-- the number of an ingredient, or the class of the group itself, whose number is 0
abbrev pub is_object : ℕ → Sight → Bool
is_object n Class = n == 0
is_object n (Number k) = n == k
is_object n (Name x) = false

abbrev pub object_in : ℕ → List Landmark → Option Landmark
object_in n ms = find (λ (m : Landmark). is_object n m.sight) ms

abbrev pub shown_object_in : ℕ → Source → List ℕ
shown_object_in n s = option_map_or (shown_landmark s) (object_in n (landmarks s.text)) []

-- where an object stands, if it is found
unfoldable pub shown_object : List Source → List ℕ → ℕ → List ℕ
shown_object ss group number = in_source (shown_object_in number) ss group

-- BYTES AND LINES

-- what is shown of the token at a byte of a file, if it is one of a text; or of the octet, if it is a group in octets

abbrev pub is_octets : Source → Bool
is_octets s = s.is_group && not s.is_printed

abbrev pub octet_of : ℕ → Source → List ℕ
octet_of n s = if is_octets s then shown_octet s.name s.text n else []

abbrev pub shown_byte : ℕ → Source → List ℕ
shown_byte n s = if s.is_written then shown_place s.name s.text n (token_size (drop n s.text)) else octet_of n s

unfoldable pub shown_offset : List Source → List ℕ → ℕ → List ℕ
shown_offset ss name n = in_source (shown_byte n) ss name

-- a file that the command line names, a script, one of late scenes or one of tags, by its name and its bytes
pub record NamedFile : Type 0 where
  pub name : List ℕ
  pub bytes : List ℕ

-- the line of these before which so many stand, where the first of them begins behind so many bytes
abbrev pub shown_line_from : NamedFile → ℕ → List (List ℕ) → ℕ → List ℕ
shown_line_from f start [] n = []
shown_line_from f start (l ∷ ls) zero = shown_place f.name f.bytes start (length (without_terminator l))
shown_line_from f start (l ∷ ls) (suc n) = shown_line_from f (start + length l) ls n

-- a table that was read; the profile's where there is none
abbrev pub or_profile : Result Tags Unplayable → Tags
or_profile (Ok tags) = tags
or_profile (Err why) = profile

-- the table by which files are shown: that of a file, if it gives one
abbrev pub table_by : Option NamedFile → Tags
table_by file = or_profile (table_of (option_map (λ (f : NamedFile). f.bytes) file))

-- the line with this number, from 1 on
abbrev pub shown_line : NamedFile → ℕ → List ℕ
shown_line f zero = []
shown_line f (suc n) = shown_line_from f 0 (lines_of f.bytes) n

-- the first of these lines in which just that is written, where the first of them begins behind so many bytes
abbrev pub shown_written_from : NamedFile → ℕ → List (List ℕ) → List ℕ → List ℕ
shown_written_from f start [] written = []
shown_written_from f start (l ∷ ls) written =
    if bytes_eq (without_terminator l) written then shown_place f.name f.bytes start (length (without_terminator l))
    else shown_written_from f (start + length l) ls written

-- the first line in which just that is written
abbrev pub shown_written : NamedFile → List ℕ → List ℕ
shown_written f written = shown_written_from f 0 (lines_of f.bytes) written

-- WORDS FOR NUMBERS. What a word leads to that writes no number of 32 bits is not shown.

abbrev pub by_number : (ℕ → List ℕ) → List ℕ → List ℕ
by_number shown word = option_map_or shown (number_in word) []

abbrev pub by_numbers : (ℕ → ℕ → List ℕ) → List ℕ → List ℕ → List ℕ
by_numbers shown first second = by_number (λ m. by_number (λ n. shown m n) second) first
