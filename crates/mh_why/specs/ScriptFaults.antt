-- What is wrong with a line of a script that says nothing, by the command at its head.
use Rattle.std.specs.Prelude.{ℕ, ◌%◌, ◌==◌, Bool, true, false, nat_le, if◌then◌else◌, List, [], ◌∷◌, length, codes, Option, Some, None}
use Rattle.std.specs.Char.{is_ascii_digit, is_ascii_hexdigit}
use Rattle.std.specs.List.{find, list_all, list_any}
use Rattle.std.specs.Option.{option_map_or}
use Rattle.std.specs.Str.{bytes_eq}
use Rattle.mh_base.specs.Path.{is_path}
use Rattle.mh_why.specs.declared.script.fault.Command.{Command}
use Rattle.mh_why.specs.declared.script.fault.Command.TheVariants as command
use Rattle.mh_why.specs.declared.script.fault.LineFault.{LineFault}
use Rattle.mh_why.specs.declared.script.fault.LineFault.TheVariants as fault
use Rattle.mh_why.specs.LineWords.{first_word, behind_first, number_in}
use Rattle.mh_why.specs.ScriptForms.{is_key}

-- Commands

abbrev pub command_word : Command → List ℕ
command_word command.Key = codes "key"
command_word command.Tick = codes "tick"
command_word command.Stream = codes "stream"
command_word command.Engine = codes "engine"
command_word command.File = codes "file"
command_word command.Scene = codes "scene"
command_word command.Step = codes "step"
command_word command.Run = codes "run"
command_word command.Show = codes "show"

abbrev pub commands : List Command
commands =
    command.Key ∷ command.Tick ∷ command.Stream ∷ command.Engine ∷ command.File ∷ command.Scene ∷ command.Step ∷ command.Run ∷ command.Show ∷ []

abbrev pub command_of : List ℕ → Option Command
command_of word = find (λ k. bytes_eq (command_word k) word) commands

-- What stands behind them

abbrev pub has_space : List ℕ → Bool
has_space bs = list_any (λ b. b == 32) bs

-- what cannot be a number, if the largest is this one
abbrev pub unless_within : ℕ → Option ℕ → LineFault
unless_within largest None = fault.TooLarge
unless_within largest (Some n) = if nat_le n largest then fault.Other else fault.TooLarge

abbrev pub digits_fault : ℕ → List ℕ → LineFault
digits_fault largest ds = if list_all is_ascii_digit ds then unless_within largest (number_in ds) else fault.NoNumber

abbrev pub number_fault : ℕ → List ℕ → LineFault
number_fault largest ws = if has_space ws then fault.SpaceTooMuch else digits_fault largest ws

abbrev pub name_fault : List ℕ → LineFault
name_fault ws = if is_key ws then fault.Other else fault.NoKey

abbrev pub key_fault : List ℕ → LineFault
key_fault ws = if has_space ws then fault.SpaceTooMuch else name_fault ws

-- octets that are written as they should be: so the name is none, or they are no octets of a group
abbrev pub written_fault : LineFault → List ℕ → LineFault
written_fault last name = if is_path name then last else fault.NoPath

abbrev pub pairs_fault : LineFault → List ℕ → List ℕ → LineFault
pairs_fault last name ds = if length ds % 2 == 0 then written_fault last name else fault.OddDigits

abbrev pub hex_fault : LineFault → List ℕ → List ℕ → LineFault
hex_fault last name ds = if list_all is_ascii_hexdigit ds then pairs_fault last name ds else fault.NoHex

abbrev pub octets_fault : LineFault → List ℕ → List ℕ → LineFault
octets_fault last name [] = fault.NoOctets
octets_fault last name (d ∷ ds) = if has_space (d ∷ ds) then fault.SpaceTooMuch else hex_fault last name (d ∷ ds)

abbrev pub file_fault : List ℕ → LineFault
file_fault ws = octets_fault fault.Other (first_word ws) (behind_first ws)

abbrev pub scene_fault : List ℕ → LineFault
scene_fault ws = if has_space ws then octets_fault fault.NoScene (first_word ws) (behind_first ws) else fault.NoGroup

-- Lines

abbrev pub taken_fault : List ℕ → Command → LineFault
taken_fault ws command.Key = key_fault ws
taken_fault ws command.Tick = number_fault 4294967295 ws
taken_fault ws command.Stream = number_fault 2147483647 ws
taken_fault ws command.Engine = number_fault 2147483647 ws
taken_fault ws command.File = file_fault ws
taken_fault ws command.Scene = scene_fault ws
taken_fault ws command.Step = number_fault 4294967295 ws
taken_fault ws command.Run = fault.NotAlone
taken_fault ws command.Show = fault.NotAlone

-- what stands behind a command
abbrev pub behind_fault : List ℕ → Command → LineFault
behind_fault [] k = fault.NothingBehind
behind_fault (b ∷ bs) k = if b == 32 then fault.SpaceTooMuch else taken_fault (b ∷ bs) k

-- a command that takes nothing stands alone
abbrev pub is_alone : Command → Bool
is_alone command.Run = true
is_alone command.Show = true
is_alone command.Key = false
is_alone command.Tick = false
is_alone command.Stream = false
is_alone command.Engine = false
is_alone command.File = false
is_alone command.Scene = false
is_alone command.Step = false

abbrev pub alone_fault : List ℕ → LineFault
alone_fault line = if has_space line then fault.NotAlone else fault.Other

abbrev pub command_fault : List ℕ → Command → LineFault
command_fault line k = if is_alone k then alone_fault line else behind_fault (behind_first line) k

-- a line without its end
abbrev pub line_fault : List ℕ → LineFault
line_fault [] = fault.Other
line_fault (b ∷ bs) = if b == 32 then fault.SpaceInFront else option_map_or (command_fault (b ∷ bs)) (command_of (first_word (b ∷ bs))) fault.NoCommand
