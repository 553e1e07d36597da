-- The arguments that several programs have, and a program before it has subcommands.
use Rattle.std.specs.Prelude.{ℕ, true, [], ◌∷◌, Some, codes}
use Rattle.clap.specs.Words.{App, Rule, Text, new_app, new_rule, with_rule}
use Rattle.clap.specs.Simple.{on_top}
use Rattle.clap.specs.declared.builder.action.ArgAction.TheVariants.{Set, SetTrue}
use Rattle.clap.specs.declared.builder.value_parser.ValueParser.TheVariants as parser

-- a file or a folder that has to be named
abbrev pub path : Text → Rule
path id = record (new_rule id) { required = true; action = Some Set }

-- an option with a value
abbrev pub named : Text → Rule
named id = record (new_rule id) { long = Some id; action = Some Set; value_names = 1 }

-- an option without a value
abbrev pub flag : Text → Rule
flag id = record (new_rule id) { long = Some id; action = Some SetTrue }

-- an option with a number up to this one, which has a value where it is not given
abbrev pub number : Text → Text → ℕ → Rule
number id usual most = record (named id) { defaults = usual ∷ []; parser = Some (parser.Unsigned 0 most) }

-- the folder of a service
abbrev pub folder : Rule
folder = path (codes "DIR")

-- the application to start with
abbrev pub start : Rule
start = record (named (codes "start")) { defaults = codes "a" ∷ [] }

-- the file that names the scenes whose files come late
abbrev pub late : Rule
late = named (codes "late")

-- the file that gives the tags of the binary notation
abbrev pub tags : Rule
tags = named (codes "tags")

-- the file with a script, which may be left out, and one to be played
abbrev pub script : Rule
script = named (codes "script")

abbrev pub script_to_play : Rule
script_to_play = record script { required = true }

-- the last day on which a play can begin, and the one on which it does unless another is asked for
abbrev pub last_day : ℕ
last_day = 1000000

abbrev pub usual_day : ℕ
usual_day = 60000

-- the modified Julian day on which the play begins
abbrev pub mjd : Rule
mjd = number (codes "mjd") (codes "60000") last_day

-- what may be said of a service, beside its folder
abbrev pub with_choices : App → App
with_choices a = with_rule (with_rule (with_rule a start) late) tags

-- a program without its subcommands: it has a version, and one of them has to be given
abbrev pub bare : Text → App
bare name = on_top (λ s. record s { has_version = true; subcommand_required = true }) (new_app name)
