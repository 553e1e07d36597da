-- Content files that are handed in, and programs that are called, played by the definitions alone.
use Rattle.std.specs.Prelude.{◌≡◌, ℕ, Bool, true, false, List, [], ◌∷◌, map, codes, replicate, Option, Some, None, pos, negsuc}
use Rattle.mh_base.specs.declared.value.Value.{Value}
use Rattle.mh_base.specs.declared.value.Value.TheVariants as value
use Rattle.mh_group.specs.declared.class.Class.TheVariants as class
use Rattle.mh_group.specs.declared.action_name.ActionName.TheVariants as action
use Rattle.mh_group.specs.declared.attribute.Attribute.TheVariants as attribute
use Rattle.mh_model.specs.declared.act.Act.{Act}
use Rattle.mh_model.specs.declared.act.Argument.TheVariants as argument
use Rattle.mh_model.specs.declared.file.File.{File}
use Rattle.mh_model.specs.declared.held.Held.TheVariants as of
use Rattle.mh_model.specs.declared.input.Input.TheVariants as input
use Rattle.mh_model.specs.declared.input.Move.TheVariants as move
use Rattle.mh_model.specs.declared.input.Obstacle.TheVariants as refused
use Rattle.mh_model.specs.declared.key.Key.TheVariants as key
use Rattle.mh_model.specs.declared.object.Fixed.{Fixed}
use Rattle.mh_model.specs.declared.program.Builtin.{Builtin}
use Rattle.mh_model.specs.declared.program.Builtin.TheVariants as builtin
use Rattle.mh_model.specs.declared.program.Outcome.TheVariants as outcome
use Rattle.mh_model.specs.declared.program.Param.TheVariants as param
use Rattle.mh_model.specs.declared.program.Plain.TheVariants as plain
use Rattle.mh_model.specs.declared.program.Signature.{Signature}
use Rattle.mh_model.specs.Arguments.{held_by}
use Rattle.mh_laws.specs.ExampleComputing.{here, to_number, through, act, variable, on_red, service_of}
use Rattle.mh_laws.specs.ExampleFirst.{a, application, rectangle, steps, shows_red}
use Rattle.mh_model.specs.Picture.{cell_at}
use Rattle.mh_model.specs.Programs.{answer}
use Rattle.mh_model.specs.Receiver.{call_next, told}
use Rattle.mh_model.specs.Service.{Service, object_at}
use Rattle.mh_model.specs.State.{State, all, begun}
use Rattle.mh_model.specs.Step.{run, is_idle, obstacle, preset, preset_obstacle}

-- Files. A text whose content is a file becomes available and waits for it.

abbrev pub reader : Fixed
reader = record {
  key = record { group = a; number = 1 };
  class = class.Text;
  properties =
      record { attribute = attribute.OrigBoxSize; held = of.Pair (pos 24) (pos 16) }
      ∷ record { attribute = attribute.OrigContent; held = of.Value (value.Content (codes "x")) }
      ∷ [];
}

abbrev pub reading : Service
reading = record {
  groups = (a, record application { properties = [] } ∷ reader ∷ []) ∷ [];
  start = a;
  programs = [];
  files = [];
  late = [];
}

abbrev pub file_named : List ℕ → List ℕ → File
file_named name content = record { name = name; content = content }

abbrev pub hi : List ℕ → File
hi name = file_named name (codes "Hi")

unfoldable pub waited : State
waited = run (steps 5) (begun reading 60000)

-- then its file comes, or another
unfoldable pub handed : List ℕ → State
handed name = run (move.Post (input.Arrive (hi name)) ∷ steps 2) waited

-- the file was there beforehand
unfoldable pub handed_before : State
handed_before = run (steps 7) (preset (hi (codes "x")) (begun reading 60000))

-- the characters of the first three cells
abbrev pub row_of : State → List ℕ
row_of x = map (λ c. (cell_at (all x.objects) x.stack c).scalar) (0 ∷ 1 ∷ 2 ∷ [])

-- a file of so many octets
unfoldable pub sized : ℕ → File
sized n = file_named (codes "x") (replicate n 0)

-- Calls. The red key calls a program with 6, and a variable that holds a truth value is told whether that went well.
-- What the program answers is multiplied by the width of a cell, and the rectangle moves there.

abbrev pub truth : Bool → Fixed
truth b = record {
  key = here 6;
  class = class.BooleanVar;
  properties = record { attribute = attribute.OrigValue; held = of.Value (value.Bool b) } ∷ [];
}

abbrev pub program : List ℕ → Fixed
program name = record {
  key = here 7;
  class = class.ResidentPrg;
  properties = record { attribute = attribute.Name; held = of.Value (value.Octets name) } ∷ [];
}

abbrev pub call_it : Act
call_it = act action.Call 7 (argument.Receiver (here 6) ∷ to_number (pos 6) ∷ through 5 ∷ [])

-- the program has this name, and the truth value is this before
abbrev pub calling : List ℕ → Bool → Service
calling name b =
    service_of
    (variable 5 (pos 0)
    ∷ truth b
    ∷ program name
    ∷ rectangle
    ∷ on_red (call_it ∷ act action.Multiply 5 (to_number (pos 12) ∷ []) ∷ act action.SetPosition 10 (through 5 ∷ to_number (pos 16) ∷ []) ∷ [])
    ∷ [])

unfoldable pub ready : State
ready = run (steps 11) (begun (calling (codes "GDW") false) 60000)

unfoldable pub called : State
called = run (move.Post (input.Key key.Red) ∷ steps 4) ready

-- a program beside the built-in ones, with the same parameters
abbrev pub others : List Signature
others = record { name = codes "ABC"; params = param.In plain.Int ∷ param.Out plain.Int ∷ [] } ∷ []

abbrev pub calling_other : Service
calling_other = record (calling (codes "ABC") true) { programs = others }

-- where nobody calls it
unfoldable pub failed : State
failed = run (move.Post (input.Key key.Red) ∷ steps 4) (run (steps 11) (begun calling_other 60000))

-- the key is taken, and the next step calls the program
unfoldable pub asked : State
asked = run (move.Post (input.Key key.Red) ∷ steps 1) (run (steps 11) (begun calling_other 60000))

-- it answers the double
unfoldable pub doubled : State
doubled = run (steps 3) (told (outcome.Answered (value.Int (pos 12) ∷ [])) asked)

-- what the variable of the scene holds
abbrev pub value_in : ℕ → State → Option Value
value_in n x = held_by (object_at (here n) (all x.objects))

-- what a built-in program answers a day and a second after the engine began
abbrev pub answered : Builtin → List Value → List Value
answered b vs = answer b (record { mjd = 60000; moment = 86401000 }) vs

abbrev pub octets : List ℕ → Value
octets os = value.Octets os

abbrev pub number : ℕ → Value
number n = value.Int (pos n)

pub record Hands : Type 0 where
  -- 5 steps without the file, and 2 when it comes; 7 where it is there
  pub waited_taken : waited.taken ≡ 5
  pub waited_idle : is_idle waited ≡ true
  pub waited_shows : row_of waited ≡ 32 ∷ 32 ∷ 32 ∷ []
  pub handed_taken : (handed (codes "x")).taken ≡ 7
  pub handed_idle : is_idle (handed (codes "x")) ≡ true
  pub handed_shows : row_of (handed (codes "x")) ≡ 72 ∷ 105 ∷ 32 ∷ []
  pub handed_faultless : (handed (codes "x")).faults ≡ []
  pub before_taken : handed_before.taken ≡ 7
  pub before_idle : is_idle handed_before ≡ true
  pub before_shows : row_of handed_before ≡ 72 ∷ 105 ∷ 32 ∷ []
  pub before_faultless : handed_before.faults ≡ []
  -- 1 step where another file comes, and nothing changes
  pub other_taken : (handed (codes "y")).taken ≡ 6
  pub other_idle : is_idle (handed (codes "y")) ≡ true
  pub other_shows : row_of (handed (codes "y")) ≡ 32 ∷ 32 ∷ 32 ∷ []
  -- what is refused
  pub large_posted : obstacle (input.Arrive (sized 65536)) waited ≡ Some refused.TooLarge
  pub large_preset : preset_obstacle (sized 65536) (begun reading 60000) ≡ Some refused.TooLarge
  pub largest_preset : preset_obstacle (sized 65535) (begun reading 60000) ≡ None
  pub preset_late : preset_obstacle (hi (codes "x")) waited ≡ Some refused.Begun
  -- 11 steps, then 4, and the rectangle goes by the weekday of day 6
  pub ready_taken : ready.taken ≡ 11
  pub ready_idle : is_idle ready ≡ true
  pub called_taken : called.taken ≡ 15
  pub called_idle : is_idle called ≡ true
  pub called_moves : shows_red (62 ∷ 63 ∷ 122 ∷ 123 ∷ []) called ≡ true
  pub called_well : value_in 6 called ≡ Some (value.Bool true)
  pub called_faultless : called.faults ≡ []
  -- a program that nobody calls fails, and answers nothing
  pub failed_taken : failed.taken ≡ 15
  pub failed_moves : shows_red (60 ∷ 61 ∷ 120 ∷ 121 ∷ []) failed ≡ true
  pub failed_well : value_in 6 failed ≡ Some (value.Bool false)
  pub failed_faultless : failed.faults ≡ []
  -- one that is called is told the number, and what it answers is used
  pub asked_next : call_next others asked ≡ Some (record { name = codes "ABC"; time = record { mjd = 60000; moment = 0 }; values = number 6 ∷ [] })
  pub doubled_taken : doubled.taken ≡ 15
  pub doubled_moves : shows_red (72 ∷ 73 ∷ 132 ∷ 133 ∷ []) doubled ≡ true
  pub doubled_well : value_in 6 doubled ≡ Some (value.Bool true)
  -- the built-in programs
  pub substring : answered builtin.Substring (octets (codes "abcdef") ∷ number 1 ∷ number 2 ∷ []) ≡ octets (codes "ab") ∷ []
  pub substring_before : answered builtin.Substring (octets (codes "abcdef") ∷ number 0 ∷ number 2 ∷ []) ≡ octets (codes "ab") ∷ []
  pub searched : answered builtin.SearchSubstring (octets (codes "abcabc") ∷ number 2 ∷ octets (codes "a") ∷ []) ≡ number 4 ∷ []
  pub searched_none : answered builtin.SearchSubstring (octets (codes "abc") ∷ number 2 ∷ octets [] ∷ []) ≡ number 2 ∷ []
  pub extracted : answered builtin.ExtractSubstring (octets (codes "k=v;x") ∷ number 3 ∷ octets (codes ";") ∷ []) ≡ octets (codes "v") ∷ number 5 ∷ []
  pub length : answered builtin.StringLength (octets (codes "abc") ∷ []) ≡ number 3 ∷ []
  pub wednesday : answered builtin.DayOfWeek (number 0 ∷ []) ≡ number 3 ∷ []
  pub sunday : answered builtin.DayOfWeek (value.Int (negsuc 2) ∷ []) ≡ number 0 ∷ []
  pub date : answered builtin.CurrentDate [] ≡ number 60001 ∷ number 1 ∷ []
