-- What the bytes of a script mean: lines, each of which says one thing to do, or is skipped, or is wrong. What a line on a scene
-- means is said beside the files of the service.
use Rattle.std.specs.Prelude.{◌≡◌, ℕ, ◌+◌, ◌*◌, ◌-◌, ◌==◌, nat_le, Bool, true, false, ◌&&◌, if◌then◌else◌, List, [], ◌∷◌, length, take, drop, Option, Some, None, Result, Ok, Err, ℤ, pos, codes}
use Rattle.std.specs.List.{find, filter_map, position, slice_split}
use Rattle.std.specs.Option.{option_and_then}
use Rattle.std.specs.Str.{bytes_eq}
use Rattle.std.specs.Char.{is_ascii_digit}
use Rattle.hex.specs.Hex.{decode_of}
use Rattle.hex.specs.declared.error.FromHexError.{FromHexError}
use Rattle.mh_base.specs.Path.{is_path}
use Rattle.mh_codec.specs.Tags.{Tags}
use Rattle.mh_group.specs.declared.written.Written.{Written}
use Rattle.mh_model.specs.Late.{written_at}
use Rattle.mh_model.specs.declared.input.Input.TheVariants as input
use Rattle.mh_model.specs.Key.{keys}
use Rattle.mh_model.specs.declared.key.Key.{Key}
use Rattle.mh_model.specs.declared.key.Key.TheVariants.{Up, Down, Left, Right, Digit0, Digit1, Digit2, Digit3, Digit4, Digit5, Digit6, Digit7, Digit8, Digit9, Select, Cancel, Red, Green, Yellow, Blue, Text}
use Rattle.mh_service.specs.Refusals.{File}
use Rattle.mh_told.specs.declared.unplayable.Unplayable.{Unplayable}
use Rattle.mh_told.specs.Reading.{group_in}
use Rattle.mh_script.specs.declared.script.Command.{Command}
use Rattle.mh_script.specs.declared.script.Command.TheVariants as command
use Rattle.mh_script.specs.declared.script.Line.{Line}
use Rattle.mh_script.specs.declared.script.Line.TheVariants as line
use Rattle.mh_script.specs.declared.script.ScriptError.{ScriptError}
use Rattle.mh_script.specs.declared.script.ScriptError.TheVariants as script_error

-- the lines: what stands before, between and after the line feeds
abbrev pub lines : List ℕ → List (List ℕ)
lines bytes = slice_split (λ b. b == 10) bytes

-- the lines of what stands behind a line feed, if there is one
abbrev pub lines_behind : Option (List ℕ) → List (List ℕ)
lines_behind None = []
lines_behind (Some bytes) = lines bytes

-- the most steps that `run` makes
abbrev pub run_limit : ℕ
run_limit = 1000000

-- the name of a key
unfoldable pub key_name : Key → List ℕ
key_name Up = codes "up"
key_name Down = codes "down"
key_name Left = codes "left"
key_name Right = codes "right"
key_name Digit0 = codes "0"
key_name Digit1 = codes "1"
key_name Digit2 = codes "2"
key_name Digit3 = codes "3"
key_name Digit4 = codes "4"
key_name Digit5 = codes "5"
key_name Digit6 = codes "6"
key_name Digit7 = codes "7"
key_name Digit8 = codes "8"
key_name Digit9 = codes "9"
key_name Select = codes "select"
key_name Cancel = codes "cancel"
key_name Red = codes "red"
key_name Green = codes "green"
key_name Yellow = codes "yellow"
key_name Blue = codes "blue"
key_name Text = codes "text"

-- the key with this name, if there is one
abbrev pub key_named : List ℕ → Option Key
key_named name = find (λ k. bytes_eq (key_name k) name) keys

-- the largest number that a script may give
abbrev pub largest : ℕ
largest = 4294967295

-- the number with one digit more, if it is a digit and the number fits
abbrev pub with_digit : ℕ → ℕ → Option ℕ
with_digit n d = if is_ascii_digit d && nat_le (n * 10 + (d - 48)) largest then Some (n * 10 + (d - 48)) else None

-- the number that these digits write behind those that wrote the first number, if there is one
abbrev pub read_digits : Option ℕ → List ℕ → Option ℕ
read_digits before [] = before
read_digits before (d ∷ ds) = read_digits (option_and_then (λ n. with_digit n d) before) ds

-- the number that decimal digits write: at least one of them, with leading zeros or without
abbrev pub number_of : List ℕ → Option ℕ
number_of [] = None
number_of (d ∷ ds) = read_digits (Some 0) (d ∷ ds)

abbrev pub key_line : Option Key → Line
key_line (Some k) = line.Says (command.Post (input.Key k))
key_line None = line.Wrong

abbrev pub step_line : Option ℕ → Line
step_line (Some n) = line.Says (command.Step n)
step_line None = line.Wrong

abbrev pub tick_line : Option ℕ → Line
tick_line (Some n) = line.Says (command.Post (input.Tick n))
tick_line None = line.Wrong

-- an integer that digits write, if there is one

abbrev pub as_integer : Option ℕ → Option ℤ
as_integer (Some n) = if nat_le n 2147483647 then Some (pos n) else None
as_integer None = None

abbrev pub integer_of : List ℕ → Option ℤ
integer_of digits = as_integer (number_of digits)

abbrev pub stream_line : Option ℤ → Line
stream_line (Some n) = line.Says (command.Post (input.Stream n))
stream_line None = line.Wrong

abbrev pub engine_line : Option ℤ → Line
engine_line (Some n) = line.Says (command.Post (input.Engine n))
engine_line None = line.Wrong

-- A file by its name and its octets, each octet as two hexadecimal digits, in upper or lower case.

abbrev pub decoded : Result (List ℕ) FromHexError → Option (List ℕ)
decoded (Ok octets) = Some octets
decoded (Err e) = None

-- the octets that pairs of digits write: at least one pair
abbrev pub octets_of : List ℕ → Option (List ℕ)
octets_of digits = if length digits == 0 then None else decoded (decode_of digits)

abbrev pub content_line : List ℕ → Option (List ℕ) → Line
content_line name (Some octets) = line.Says (command.Post (input.Arrive (record { name = name; content = octets })))
content_line name None = line.Wrong

-- the name is a path
abbrev pub named_line : List ℕ → List ℕ → Line
named_line name digits = if is_path name then content_line name (octets_of digits) else line.Wrong

-- a space parts the name from the digits
abbrev pub parted_line : Option ℕ → List ℕ → Line
parted_line (Some at) words = named_line (take at words) (drop (at + 1) words)
parted_line None words = line.Wrong

abbrev pub file_line : List ℕ → Line
file_line words = parted_line (position (λ b. b == 32) words) words

-- The file of a scene by its name: that of the service, or another, by its octets.

abbrev pub sent_line : List ℕ → Option Written → Line
sent_line name (Some group) = line.Says (command.Post (input.Scene name group))
sent_line name None = line.Wrong

-- the name is a path, and a file of the service has it
abbrev pub own_line : List File → List ℕ → Line
own_line files name = if is_path name then sent_line name (written_at name files) else line.Wrong

-- a group that was read
abbrev pub as_group : Result Written Unplayable → Option Written
as_group (Ok group) = Some group
as_group (Err e) = None

-- the group that octets write, in either notation
abbrev pub written_by : Tags → List ℕ → Option (List ℕ) → Option Written
written_by tags name (Some octets) = as_group (group_in tags name octets)
written_by tags name None = None

-- the name is a path, and the digits write a group
abbrev pub brought_line : Tags → List ℕ → List ℕ → Line
brought_line tags name digits = if is_path name then sent_line name (written_by tags name (octets_of digits)) else line.Wrong

-- a space parts the name from the digits; without one there are none
abbrev pub parted_scene : Tags → List File → Option ℕ → List ℕ → Line
parted_scene tags files (Some at) words = brought_line tags (take at words) (drop (at + 1) words)
parted_scene tags files None words = own_line files words

abbrev pub scene_line : Tags → List File → List ℕ → Line
scene_line tags files words = parted_scene tags files (position (λ b. b == 32) words) words

-- the bytes begin with these
abbrev pub begins : List ℕ → List ℕ → Bool
begins front bytes = bytes_eq (take (length front) bytes) front

-- a line that is one of `tick N`, `stream N` and `engine N`
abbrev pub input_line : List ℕ → Line
input_line l =
    if begins (codes "tick ") l then tick_line (number_of (drop 5 l))
    else (if begins (codes "stream ") l then stream_line (integer_of (drop 7 l))
    else (if begins (codes "engine ") l then engine_line (integer_of (drop 7 l)) else line.Wrong))

-- one of these, or of `run`, `show`, `key NAME` and `step N`
abbrev pub command_line : List ℕ → Line
command_line l =
    if bytes_eq l (codes "run") then line.Says (command.Step run_limit)
    else (if bytes_eq l (codes "show") then line.Says command.Show
    else (if begins (codes "key ") l then key_line (key_named (drop 4 l))
    else (if begins (codes "step ") l then step_line (number_of (drop 5 l)) else input_line l)))

-- an empty line and one that begins with `#` are skipped
abbrev pub is_comment : List ℕ → Bool
is_comment [] = true
is_comment (b ∷ bs) = b == 35

unfoldable pub plain_line : List ℕ → Line
plain_line l = if is_comment l then line.Skipped else command_line l

-- one of these, or one of `file NAME HEX`, `scene NAME` and `scene NAME HEX`
abbrev pub line_of : Tags → List File → List ℕ → Line
line_of tags files l =
    if begins (codes "file ") l then file_line (drop 5 l)
    else (if begins (codes "scene ") l then scene_line tags files (drop 6 l) else plain_line l)

abbrev pub said : Line → Option Command
said (line.Says c) = Some c
said line.Skipped = None
said line.Wrong = None

abbrev pub is_wrong : Line → Bool
is_wrong line.Wrong = true
is_wrong line.Skipped = false
is_wrong (line.Says c) = false

-- what the lines say, in order
abbrev pub commands : Tags → List File → List (List ℕ) → List Command
commands tags files ls = filter_map (λ l. said (line_of tags files l)) ls

-- the number of the first wrong line, if there is one, where the first line has number `n`
abbrev pub first_wrong : Tags → List File → ℕ → List (List ℕ) → Option ℕ
first_wrong tags files n [] = None
first_wrong tags files n (l ∷ ls) = if is_wrong (line_of tags files l) then Some n else first_wrong tags files (n + 1) ls

-- the first wrong line of these bytes is the one that the error names
abbrev pub IsWrongAt : Tags → List File → List ℕ → ScriptError → Type 0
IsWrongAt tags files bytes (script_error.Wrong n) = first_wrong tags files 1 (lines bytes) ≡ Some n
IsWrongAt tags files bytes script_error.NoMemory = Unit {0}
