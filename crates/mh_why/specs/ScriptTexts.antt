-- What is told of a line of a script that says nothing: the cause, by the command at its head, and the mend.
use Rattle.std.specs.Prelude.{ℕ, ◌-◌, ◌==◌, Bool, if◌then◌else◌, List, [], ◌∷◌, ◌++◌, length, codes, Option, Some, None, slice_get}
use Rattle.std.specs.Option.{option_and_then, option_map_or}
use Rattle.bstr.specs.Text.{lines_of, without_terminator}
use Rattle.mh_script.specs.Script.{key_name}
use Rattle.mh_why.specs.Advice.{Row, advice, cell, readings, row_with}
use Rattle.mh_why.specs.declared.script.fault.LineFault.{LineFault}
use Rattle.mh_why.specs.declared.script.fault.LineFault.TheVariants as fault
use Rattle.mh_why.specs.declared.script.line.TheConstants.{ANY_COMMAND, BEGINS_WITH_COMMAND, ENDS_IN_FEED, ENDS_IN_RETURN, HAS_NOTHING, HAS_SPACE, IN_FRONT, IS_NO_COMMAND, IS_NO_GROUP, IS_NO_KEY, IS_NO_NUMBER, IS_NO_PATH, IS_TOO_LARGE, MEND_WRITE, NO_HEX, NO_OCTETS, NO_SCENE, NOT_ALONE, ODD_DIGITS, SAYS_SOMETHING}
use Rattle.mh_why.specs.LineWords.{first_word, behind_first, number_in}
use Rattle.mh_why.specs.Missing.{missing}
use Rattle.mh_why.specs.ScriptFaults.{line_fault}
use Rattle.mh_why.specs.ScriptForms.{forms, near_form, near_key}
use Rattle.mh_why.specs.Sources.{NamedFile, Source}
use Rattle.mh_why.specs.Wrapping.{paragraph}

-- Causes

unfoldable pub fault_words : LineFault → List ℕ
fault_words fault.SpaceInFront = IN_FRONT.now
fault_words fault.NoCommand = IS_NO_COMMAND.now
fault_words fault.NotAlone = NOT_ALONE.now
fault_words fault.NothingBehind = HAS_NOTHING.now
fault_words fault.SpaceTooMuch = HAS_SPACE.now
fault_words fault.NoKey = IS_NO_KEY.now
fault_words fault.NoNumber = IS_NO_NUMBER.now
fault_words fault.TooLarge = IS_TOO_LARGE.now
fault_words fault.NoPath = IS_NO_PATH.now
fault_words fault.NoOctets = NO_OCTETS.now
fault_words fault.OddDigits = ODD_DIGITS.now
fault_words fault.NoHex = NO_HEX.now
fault_words fault.NoGroup = IS_NO_GROUP.now
fault_words fault.NoScene = NO_SCENE.now
fault_words fault.Other = SAYS_SOMETHING.now

-- the words of which that is told: the command, what stands behind it, or the name in that
abbrev pub word_of : LineFault → List ℕ → List ℕ
word_of fault.SpaceInFront line = behind_first line
word_of fault.NoKey line = behind_first line
word_of fault.NoNumber line = behind_first line
word_of fault.TooLarge line = behind_first line
word_of fault.NoGroup line = behind_first line
word_of fault.NoPath line = first_word (behind_first line)
word_of fault.NoOctets line = first_word (behind_first line)
word_of fault.OddDigits line = first_word (behind_first line)
word_of fault.NoHex line = first_word (behind_first line)
word_of fault.NoScene line = first_word (behind_first line)
word_of fault.NoCommand line = first_word line
word_of fault.NotAlone line = first_word line
word_of fault.NothingBehind line = first_word line
word_of fault.SpaceTooMuch line = first_word line
word_of fault.Other line = first_word line

unfoldable pub cause_text : LineFault → List ℕ → List ℕ
cause_text f line = paragraph (codes "  Cause: `" ++ word_of f line ++ codes "` " ++ fault_words f ++ codes ".")

-- Mends

unfoldable pub form_text : Row → List ℕ
form_text row = paragraph (MEND_WRITE.now ++ cell row 1 ++ codes ", where " ++ cell row 2 ++ codes ".")

unfoldable pub nearest_text : List ℕ → List ℕ
nearest_text word = paragraph (codes "  The nearest is `" ++ word ++ codes "`.")

unfoldable pub near_form_text : Row → List ℕ
near_form_text row = nearest_text (cell row 0) ++ form_text row

-- the form of the command that is nearest, or all commands
abbrev pub command_mend : List ℕ → List ℕ
command_mend word = option_map_or near_form_text (near_form word) (paragraph ANY_COMMAND.now)

-- the form of the command that stands there
abbrev pub own_mend : List ℕ → List ℕ
own_mend line = option_map_or form_text (row_with forms (first_word line)) []

abbrev pub near_key_text : List ℕ → List ℕ
near_key_text word = option_map_or (λ k. nearest_text (key_name k)) (near_key word) []

unfoldable pub key_mend : List ℕ → List ℕ
key_mend line = near_key_text (behind_first line) ++ own_mend line

abbrev pub mend_text : LineFault → List ℕ → List ℕ
mend_text fault.SpaceInFront line = paragraph BEGINS_WITH_COMMAND.now
mend_text fault.NoCommand line = command_mend (first_word line)
mend_text fault.NoKey line = key_mend line
mend_text fault.Other line = []
mend_text fault.NotAlone line = own_mend line
mend_text fault.NothingBehind line = own_mend line
mend_text fault.SpaceTooMuch line = own_mend line
mend_text fault.NoNumber line = own_mend line
mend_text fault.TooLarge line = own_mend line
mend_text fault.NoPath line = own_mend line
mend_text fault.NoOctets line = own_mend line
mend_text fault.OddDigits line = own_mend line
mend_text fault.NoHex line = own_mend line
mend_text fault.NoGroup line = own_mend line
mend_text fault.NoScene line = own_mend line

-- why there is no group of the name
abbrev pub missing_scene : List Source → LineFault → List ℕ → List ℕ
missing_scene ss fault.NoGroup line = missing ss (behind_first line)
missing_scene ss fault.SpaceInFront line = []
missing_scene ss fault.NoCommand line = []
missing_scene ss fault.NotAlone line = []
missing_scene ss fault.NothingBehind line = []
missing_scene ss fault.SpaceTooMuch line = []
missing_scene ss fault.NoKey line = []
missing_scene ss fault.NoNumber line = []
missing_scene ss fault.TooLarge line = []
missing_scene ss fault.NoPath line = []
missing_scene ss fault.NoOctets line = []
missing_scene ss fault.OddDigits line = []
missing_scene ss fault.NoHex line = []
missing_scene ss fault.NoScene line = []
missing_scene ss fault.Other line = []

-- Lines

unfoldable pub fault_text : List Source → List ℕ → LineFault → List ℕ
fault_text ss line f = cause_text f line ++ missing_scene ss f line ++ mend_text f line

-- a line without its end
abbrev pub line_text : List Source → List ℕ → List ℕ
line_text ss line = fault_text ss line (line_fault line)

unfoldable pub return_text : List ℕ
return_text = paragraph ENDS_IN_RETURN.now ++ paragraph ENDS_IN_FEED.now

-- a line with its end
abbrev pub whole_text : List Source → List ℕ → List ℕ
whole_text ss l = if length l - length (without_terminator l) == 2 then return_text else line_text ss (without_terminator l)

-- the line with this number, from 1 on
abbrev pub numbered_line : List ℕ → ℕ → Option (List ℕ)
numbered_line bytes n = if n == 0 then None else slice_get (lines_of bytes) (n - 1)

-- the line of the script that a word numbers, if both are known
abbrev pub script_line : Option NamedFile → List ℕ → Option (List ℕ)
script_line None word = None
script_line (Some f) word = option_and_then (numbered_line f.bytes) (number_in word)

-- what is told of it; where it is not known, of all that can be wrong
abbrev pub script_told : List Source → Option NamedFile → List ℕ → List ℕ
script_told ss s word = option_map_or (whole_text ss) (script_line s word) (advice readings (codes "script"))
