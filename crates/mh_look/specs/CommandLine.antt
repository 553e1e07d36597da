-- The command line: the subcommands and options that there are, and what the words ask for. How words are read
-- against them, what is refused and under which kind, are the definitions of `clap`.
use Rattle.std.specs.Prelude.{ℕ, Bool, false, if◌then◌else◌, List, [], ◌∷◌, Option, Some, None, codes, is_none, unwrap_or, option_map}
use Rattle.std.specs.List.{find, list_any}
use Rattle.std.specs.Option.{option_map_or, option_or}
use Rattle.std.specs.Str.{bytes_eq}
use Rattle.clap.specs.Words.{App, Row, Rule, Text, all_of, first_of, new_app, new_rule, with_rule, with_subcommand}
use Rattle.clap.specs.declared.builder.action.ArgAction.TheVariants.{Append, Set}
use Rattle.clap.specs.declared.builder.value_parser.ValueParser.TheVariants as parser
use Rattle.mh_command.specs.Arguments.{bare, flag, folder, named, number, path, script, with_choices}
use Rattle.mh_command.specs.Values.{is_set, named_in, number_in, text_of}
use Rattle.mh_lint.specs.declared.rule.Allowed.{Allowed}
use Rattle.mh_lint.specs.declared.rule.Rule.{Rule as NoteRule}
use Rattle.mh_lint.specs.declared.rule.Rule.TheVariants as rule
use Rattle.mh_lint.specs.Rules.{rule_named, rule_word, rules}
use Rattle.mh_misread.specs.Likeness.{is_like}
use Rattle.mh_look.specs.declared.command_line.Explain.{Explain}
use Rattle.mh_look.specs.declared.command_line.Lint.{Lint}
use Rattle.mh_look.specs.declared.command_line.Task.{Task}
use Rattle.mh_look.specs.declared.command_line.Task.TheVariants as task

-- The arguments of redlook alone.

abbrev pub report : Rule
report = path (codes "REPORT")

abbrev pub other : Rule
other = path (codes "OTHER")

-- what is explained, and behind it, where it is given, the folder
abbrev pub subject : Rule
subject = path (codes "PATH")

abbrev pub subject_folder : Rule
subject_folder = record (new_rule (codes "DIR")) { action = Some Set }

-- the most refusals that can be asked for
abbrev pub most_refusals : ℕ
most_refusals = 1000

-- the largest number that a frame can be asked for under
abbrev pub last_frame : ℕ
last_frame = 1000000000

-- the number of a frame
abbrev pub frame : Rule
frame = record (named (codes "frame")) { parser = Some (parser.Unsigned 0 last_frame) }

-- the folder that images are written into
abbrev pub output : Rule
output = named (codes "output")

abbrev pub plain : Rule
plain = flag (codes "plain")

-- whether lines are compared, too
abbrev pub lines : Rule
lines = flag (codes "lines")

abbrev pub costs : Rule
costs = flag (codes "costs")

-- when an explanation is written in colours: the words that there are for that are not told by `clap`
abbrev pub color : Rule
color = record (named (codes "color")) { defaults = codes "auto" ∷ [] }

abbrev pub all : Rule
all = flag (codes "all")

abbrev pub allow : Rule
allow = record (new_rule (codes "allow")) { long = Some (codes "allow"); action = Some Append; value_names = 1 }

-- the form of findings: the words that there are for that are not told by `clap`
abbrev pub format : Rule
format = record (named (codes "format")) { defaults = codes "text" ∷ [] }

-- the most refusals that are told
abbrev pub most : Rule
most = number (codes "most") (codes "20") most_refusals

-- The subcommands.

abbrev pub show : App
show = with_rule (with_rule (with_rule (new_app (codes "show")) report) frame) plain

abbrev pub page : App
page = with_rule (with_rule (new_app (codes "page")) report) script

abbrev pub image : App
image = with_rule (with_rule (with_rule (new_app (codes "image")) report) frame) output

abbrev pub diff : App
diff = with_rule (with_rule (with_rule (new_app (codes "diff")) report) other) lines

-- what is explained, what may be said of the service, and then of the rest

abbrev pub why_paths : App
why_paths = with_rule (with_rule (new_app (codes "why")) subject) subject_folder

abbrev pub why_service : App
why_service = with_choices why_paths

abbrev pub why : App
why = with_rule (with_rule (with_rule why_service script) costs) color

abbrev pub lint_service : App
lint_service = with_choices (with_rule (new_app (codes "lint")) folder)

abbrev pub lint : App
lint = with_rule (with_rule (with_rule lint_service all) allow) color

abbrev pub check_service : App
check_service = with_choices (with_rule (new_app (codes "check")) folder)

abbrev pub check_rules : App
check_rules = with_rule (with_rule check_service all) allow

abbrev pub check : App
check = with_rule (with_rule (with_rule check_rules format) most) color

abbrev pub with_views : App
with_views = with_subcommand (with_subcommand (bare (codes "redlook")) show.top) page.top

abbrev pub with_reports : App
with_reports = with_subcommand (with_subcommand with_views image.top) diff.top

abbrev pub with_services : App
with_services = with_subcommand (with_subcommand with_reports why.top) lint.top

abbrev pub program : App
program = with_subcommand with_services check.top

-- What is asked for.

-- what is explained, and what may be said of the service
pub record Explained : Type 0 where
  pub output : Option Text
  pub folder : Text
  pub start : Text
  pub late : Option Text
  pub tags : Option Text
  pub script : Option Text
  pub costs : Bool
  pub color : Text

-- what is looked for in a service
pub record Looked : Type 0 where
  pub service : Explained
  pub all : Bool
  pub allowed : Allowed
  pub unknown : Option Text

pub data Asked : Type 0 where
  shown : (report : Text) (frame : Option ℕ) (plain : Bool) → Asked
  paged : (report : Text) (script : Option Text) → Asked
  drawn : (report : Text) (frame : Option ℕ) (folder : Option Text) → Asked
  compared : (first second : Text) (lines : Bool) → Asked
  explained : Explained → Asked
  linted : Looked → Asked
  judged : (looked : Looked) (format : Text) (most : ℕ) → Asked

abbrev pub frame_of : List Row → Option ℕ
frame_of rows = option_map (number_in last_frame 0) (first_of (codes "frame") rows)

-- what was found for the arguments of a subcommand

abbrev pub showing : List Row → Asked
showing rows = shown (text_of (codes "REPORT") rows) (frame_of rows) (is_set (codes "plain") rows)

abbrev pub paging : List Row → Asked
paging rows = paged (text_of (codes "REPORT") rows) (first_of (codes "script") rows)

abbrev pub drawing : List Row → Asked
drawing rows = drawn (text_of (codes "REPORT") rows) (frame_of rows) (first_of (codes "output") rows)

abbrev pub comparing : List Row → Asked
comparing rows = compared (text_of (codes "REPORT") rows) (text_of (codes "OTHER") rows) (is_set (codes "lines") rows)

-- of two paths the first is of an output, and the other the folder; one is the folder

abbrev pub output_of : List Row → Option Text
output_of rows = option_map_or (λ _. first_of (codes "PATH") rows) (first_of (codes "DIR") rows) None

abbrev pub folder_of : List Row → Text
folder_of rows = option_map_or (λ dir. dir) (first_of (codes "DIR") rows) (text_of (codes "PATH") rows)

abbrev pub explaining : List Row → Asked
explaining rows = explained (record {
  output = output_of rows;
  folder = folder_of rows;
  start = text_of (codes "start") rows;
  late = first_of (codes "late") rows;
  tags = first_of (codes "tags") rows;
  script = first_of (codes "script") rows;
  costs = is_set (codes "costs") rows;
  color = text_of (codes "color") rows;
})

-- the service that is looked at: nothing was printed of it, and no script is known
abbrev pub service_of : List Row → Explained
service_of rows = record {
  output = None;
  folder = text_of (codes "DIR") rows;
  start = text_of (codes "start") rows;
  late = first_of (codes "late") rows;
  tags = first_of (codes "tags") rows;
  script = None;
  costs = false;
  color = text_of (codes "color") rows;
}

abbrev pub allows : List Row → NoteRule → Bool
allows rows x = list_any (λ name. bytes_eq name (rule_word x)) (unwrap_or (all_of (codes "allow") rows) [])

abbrev pub allowed : List Row → Allowed
allowed rows = record {
  editor_backup = allows rows rule.EditorBackup;
  identifier_differs = allows rows rule.IdentifierDiffers;
  unknown_rule = allows rows rule.UnknownRule;
  start_leads_away = allows rows rule.StartLeadsAway;
  not_shared = allows rows rule.NotShared;
  no_actions = allows rows rule.NoActions;
  behind_transition = allows rows rule.BehindTransition;
  division_by_zero = allows rows rule.DivisionByZero;
  negative_size = allows rows rule.NegativeSize;
  colour_octets = allows rows rule.ColourOctets;
  unheard_timer = allows rows rule.UnheardTimer;
  locked_for_ever = allows rows rule.LockedForEver;
  unread_variable = allows rows rule.UnreadVariable;
  no_interaction = allows rows rule.NoInteraction;
  off_screen = allows rows rule.OffScreen;
  covers_no_cell = allows rows rule.CoversNoCell;
  cut_text = allows rows rule.CutText;
  text_in_its_colour = allows rows rule.TextInItsColour;
  bare_line_feeds = allows rows rule.BareLineFeeds;
  named_alike = allows rows rule.NamedAlike;
  content_to_come = allows rows rule.ContentToCome;
}

-- no rule has this name
abbrev pub is_no_rule : Text → Bool
is_no_rule name = is_none (rule_named name)

-- the first of those that are named that is none
abbrev pub unknown : List Row → Option Text
unknown rows = find is_no_rule (unwrap_or (all_of (codes "allow") rows) [])

abbrev pub looking : List Row → Looked
looking rows = record { service = service_of rows; all = is_set (codes "all") rows; allowed = allowed rows; unknown = unknown rows }

abbrev pub linting : List Row → Asked
linting rows = linted (looking rows)

abbrev pub checking : List Row → Asked
checking rows = judged (looking rows) (text_of (codes "format") rows) (number_in most_refusals 0 (text_of (codes "most") rows))

-- the rule that is meant by a name, if one is like it

abbrev pub like_rule : ℕ → Text → Option NoteRule
like_rule changes name = find (λ x. is_like changes name (rule_word x)) rules

abbrev pub near_rule : Text → Option NoteRule
near_rule name = option_or (like_rule 1 name) (option_or (like_rule 2 name) (like_rule 3 name))

-- the subcommand of this name
abbrev pub asked_under : Text → List Row → Asked
asked_under name rows =
    if bytes_eq name (codes "show") then showing rows
    else (if bytes_eq name (codes "image") then drawing rows
    else (if bytes_eq name (codes "diff") then comparing rows
    else (if bytes_eq name (codes "why") then explaining rows
    else (if bytes_eq name (codes "lint") then linting rows
    else (if bytes_eq name (codes "check") then checking rows else paging rows)))))

-- one subcommand is required
abbrev pub asked_by : Option (Text × List Row) → Asked
asked_by (Some given) = asked_under given.0 given.1
asked_by None = paged [] None

abbrev pub explained_as : Explain → Explained
explained_as e = record {
  output = named_in e.output;
  folder = e.source.folder.now;
  start = e.source.start.now;
  late = named_in e.source.late;
  tags = named_in e.source.tags;
  script = named_in e.script;
  costs = e.costs;
  color = e.color.now;
}

abbrev pub looked_as : Lint → Looked
looked_as l = record { service = explained_as l.service; all = l.asked.all; allowed = l.asked.allowed; unknown = named_in l.unknown }

-- what a task says
abbrev pub said : Task → Asked
said (task.Show report frame plain) = shown report.now frame plain
said (task.Page report script) = paged report.now (named_in script)
said (task.Image report frame folder) = drawn report.now frame (named_in folder)
said (task.Diff first second lines) = compared first.now second.now lines
said (task.Why e) = explained (explained_as e)
said (task.Lint l) = linted (looked_as l)
said (task.Check k) = judged (looked_as k.lint) k.format.now k.most
