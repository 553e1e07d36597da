-- Which lines of a script were refused when they were posted: those behind the last step or picture of which the output tells, as far as
-- they can be refused by that number.
use Rattle.std.specs.Prelude.{ℕ, ◌+◌, ◌-◌, ◌==◌, Bool, true, false, ◌&&◌, ◌||◌, not, nat_le, if◌then◌else◌, List, [], ◌∷◌, ◌++◌, length, take, drop, codes, Option, Some, None}
use Rattle.std.specs.List.{flat_map}
use Rattle.std.specs.Option.{option_map_or}
use Rattle.std.specs.Str.{bytes_eq}
use Rattle.bstr.specs.Text.{lines_of, without_terminator}
use Rattle.mh_model.specs.Limits.{longest_tick}
use Rattle.mh_why.specs.declared.script.fault.Command.{Command}
use Rattle.mh_why.specs.declared.script.fault.Command.TheVariants as command
use Rattle.mh_why.specs.declared.script.posts.TheConstants.{FIRST_OF, IS_THIS, IS_ZERO, ONE_OF}
use Rattle.mh_why.specs.LineWords.{first_word, behind_first, number_in}
use Rattle.mh_why.specs.Places.{shown_place}
use Rattle.mh_why.specs.ScriptFaults.{command_of}
use Rattle.mh_why.specs.Sources.{NamedFile}
use Rattle.mh_why.specs.Wrapping.{paragraph}

-- What a line of a script does

-- a command after which the output has a line
abbrev pub is_told : Command → Bool
is_told command.Step = true
is_told command.Run = true
is_told command.Show = true
is_told command.Key = false
is_told command.Tick = false
is_told command.Stream = false
is_told command.Engine = false
is_told command.File = false
is_told command.Scene = false

abbrev pub is_stop : List ℕ → Bool
is_stop line = option_map_or is_told (command_of (first_word line)) false

-- a tick of a length that is refused

abbrev pub is_refused_length : ℕ → Bool
is_refused_length n = n == 0 || not (nat_le n longest_tick)

abbrev pub is_bad_tick : List ℕ → Bool
is_bad_tick ws = option_map_or is_refused_length (number_in ws) false

-- numbers by which any input can be refused, and those of some commands

abbrev pub is_of_any : List ℕ → Bool
is_of_any number = bytes_eq number (codes "51") || bytes_eq number (codes "52")

abbrev pub is_of_tick : List ℕ → List ℕ → Bool
is_of_tick number ws = bytes_eq number (codes "53") || bytes_eq number (codes "54") && is_bad_tick ws

abbrev pub is_of_file : List ℕ → Bool
is_of_file number = bytes_eq number (codes "40") || bytes_eq number (codes "41")

abbrev pub is_of_scene : List ℕ → Bool
is_of_scene number = bytes_eq number (codes "57") || bytes_eq number (codes "58")

-- with these words behind it a command can be refused by the number
abbrev pub refuses : List ℕ → List ℕ → Command → Bool
refuses number ws command.Key = is_of_any number
refuses number ws command.Stream = is_of_any number
refuses number ws command.Engine = is_of_any number
refuses number ws command.Tick = is_of_any number || is_of_tick number ws
refuses number ws command.File = is_of_any number || is_of_file number
refuses number ws command.Scene = is_of_any number || is_of_scene number
refuses number ws command.Step = false
refuses number ws command.Run = false
refuses number ws command.Show = false

abbrev pub can_be_refused : List ℕ → List ℕ → Bool
can_be_refused number line = option_map_or (refuses number (behind_first line)) (command_of (first_word line)) false

-- The lines up to the next of which the output tells

-- where a line begins, and how long it is
abbrev pub post_of : List ℕ → ℕ → List ℕ → List (ℕ × ℕ)
post_of number start line = if can_be_refused number line then (start, length line) ∷ [] else []

abbrev pub posts_from : List ℕ → ℕ → List (List ℕ) → List (ℕ × ℕ)
posts_from number start [] = []
posts_from number start (l ∷ ls) =
    if is_stop (without_terminator l) then [] else post_of number start (without_terminator l) ++ posts_from number (start + length l) ls

-- how many bytes the lines have up to that line, and with it
abbrev pub passed_length : List (List ℕ) → ℕ
passed_length [] = 0
passed_length (l ∷ ls) = if is_stop (without_terminator l) then length l else length l + passed_length ls

unfoldable pub behind_stop : List ℕ → List ℕ
behind_stop bytes = drop (passed_length (lines_of bytes)) bytes

unfoldable pub up_to_stop : List ℕ → List ℕ
up_to_stop bytes = take (passed_length (lines_of bytes)) bytes

-- what is left of the script behind a line of the output
abbrev pub script_behind : List ℕ → List ℕ → List ℕ
script_behind left line =
    if bytes_eq (first_word line) (codes "did") then behind_stop left
    else (if bytes_eq (first_word line) (codes "frame") then behind_stop left else left)

-- before the first
abbrev pub script_bytes : Option NamedFile → List ℕ
script_bytes None = []
script_bytes (Some f) = f.bytes

-- What is told of them

abbrev pub zero_text : List ℕ → List ℕ
zero_text line = if bytes_eq line (codes "tick 0") then paragraph IS_ZERO.now else []

unfoldable pub post_text : NamedFile → ℕ × ℕ → List ℕ
post_text f p = shown_place f.name f.bytes p.0 p.1 ++ zero_text (take p.1 (drop p.0 f.bytes))

abbrev pub posts_words : ℕ → List ℕ
posts_words n = if n == 1 then IS_THIS.now else (if nat_le n 3 then ONE_OF.now else FIRST_OF.now)

unfoldable pub some_posts : NamedFile → List (ℕ × ℕ) → List ℕ
some_posts f ps = paragraph (posts_words (length ps)) ++ flat_map (post_text f) (take 3 ps)

abbrev pub posts_text : NamedFile → List (ℕ × ℕ) → List ℕ
posts_text f [] = []
posts_text f (p ∷ ps) = some_posts f (p ∷ ps)

-- of a post that was refused by this number, where so much is left of the script
abbrev pub posts_told : Option NamedFile → List ℕ → List ℕ → List ℕ
posts_told None left number = []
posts_told (Some f) left number = posts_text f (posts_from number (length f.bytes - length left) (lines_of left))
