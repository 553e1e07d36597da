-- The command line: the subcommands and options that there are, and what the words ask for. How words are read
-- against them, what is refused and under which kind, are the definitions of `clap`.
use Rattle.std.specs.Prelude.{◌≡◌, ℕ, ◌≤◌, Bool, if◌then◌else◌, List, [], Option, Some, None, codes}
use Rattle.std.specs.Str.{bytes_eq}
use Rattle.clap.specs.Words.{App, Row, Rule, Text, first_of, new_app, with_rule, with_subcommand}
use Rattle.mh_command.specs.Arguments.{bare, flag, folder, last_day, mjd, named, path, script_to_play, tags, with_choices}
use Rattle.mh_command.specs.Values.{day_of, is_set, named_in, text_of}
use Rattle.mh_report.specs.declared.convert.Notation.{Notation}
use Rattle.mh_report.specs.declared.convert.Notation.TheVariants as notation
use Rattle.redplay.specs.declared.command_line.Task.{Task}
use Rattle.redplay.specs.declared.command_line.Task.TheVariants as task

-- The arguments of redplay alone.

abbrev pub file : Rule
file = path (codes "FILE")

abbrev pub lenient : Rule
lenient = flag (codes "lenient")

abbrev pub seal_file : Rule
seal_file = named (codes "sealed")

-- The subcommands.

abbrev pub check : App
check = with_choices (with_rule (new_app (codes "check")) folder)

abbrev pub seal : App
seal = with_choices (with_rule (new_app (codes "seal")) folder)

-- what has to be given, what may be said of the service, and then of the play

abbrev pub play_required : App
play_required = with_rule (with_rule (new_app (codes "play")) folder) script_to_play

abbrev pub play_service : App
play_service = with_choices play_required

abbrev pub play : App
play = with_rule (with_rule (with_rule play_service mjd) lenient) seal_file

abbrev pub to_der : App
to_der = with_rule (with_rule (new_app (codes "to-der")) file) tags

abbrev pub to_text : App
to_text = with_rule (with_rule (new_app (codes "to-text")) file) tags

abbrev pub with_services : App
with_services = with_subcommand (with_subcommand (with_subcommand (bare (codes "redplay")) check.top) seal.top) play.top

abbrev pub program : App
program = with_subcommand (with_subcommand with_services to_der.top) to_text.top

-- What is asked for.

pub data Asked : Type 0 where
  checked : (folder start : Text) (late tags : Option Text) → Asked
  played : (folder start : Text) (late tags : Option Text) (script : Text) (lenient : Bool) (mjd : ℕ) (seal : Option Text) → Asked
  sealed : (folder start : Text) (late tags : Option Text) → Asked
  converted : (file : Text) (to : Notation) (tags : Option Text) → Asked

-- what was found for the arguments of a subcommand

abbrev pub checking : List Row → Asked
checking rows = checked (text_of (codes "DIR") rows) (text_of (codes "start") rows) (first_of (codes "late") rows) (first_of (codes "tags") rows)

abbrev pub sealing : List Row → Asked
sealing rows = sealed (text_of (codes "DIR") rows) (text_of (codes "start") rows) (first_of (codes "late") rows) (first_of (codes "tags") rows)

abbrev pub playing : List Row → Asked
playing rows =
    played (text_of (codes "DIR") rows) (text_of (codes "start") rows) (first_of (codes "late") rows) (first_of (codes "tags") rows)
    (text_of (codes "script") rows) (is_set (codes "lenient") rows) (day_of rows) (first_of (codes "sealed") rows)

abbrev pub converting : List Row → Notation → Asked
converting rows to = converted (text_of (codes "FILE") rows) to (first_of (codes "tags") rows)

-- the subcommand of this name
abbrev pub asked_under : Text → List Row → Asked
asked_under name rows =
    if bytes_eq name (codes "play") then playing rows
    else (if bytes_eq name (codes "seal") then sealing rows
    else (if bytes_eq name (codes "to-der") then converting rows notation.Binary
    else (if bytes_eq name (codes "to-text") then converting rows notation.Textual else checking rows)))

-- one subcommand is required
abbrev pub asked_by : Option (Text × List Row) → Asked
asked_by (Some given) = asked_under given.0 given.1
asked_by None = checked [] [] None None

-- what a task says
abbrev pub said : Task → Asked
said (task.Check source) = checked source.folder.now source.start.now (named_in source.late) (named_in source.tags)
said (task.Seal source) = sealed source.folder.now source.start.now (named_in source.late) (named_in source.tags)
said (task.Play source script lenient mjd seal) =
    played source.folder.now source.start.now (named_in source.late) (named_in source.tags) script.now lenient mjd (named_in seal)
said (task.Convert file to tags) = converted file.now to (named_in tags)

-- a play begins on a day on which one can
abbrev pub HasDay : Task → Type 0
HasDay (task.Play source script lenient mjd seal) = mjd ≤ last_day
HasDay t = Unit {0}
