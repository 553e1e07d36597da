-- What is found of a service, as objects that other programs read.
use Rattle.std.specs.Prelude.{◌≡◌, ℕ, Bool, false, List, [], Some, None}
use Rattle.std.specs.List.{flat_map}
use Rattle.mh_crossing.specs.Files.{File}
use Rattle.mh_findings.specs.Formats.{entry}
use Rattle.mh_findings.specs.declared.finding.Finding.{Finding}
use Rattle.mh_findings.specs.declared.format.Format.TheVariants as format
use Rattle.mh_judged.specs.Judged.{IsListOf}
use Rattle.mh_lint.specs.declared.lint.Asked.{Asked}
use Rattle.mh_lint.specs.declared.rule.Allowed.{Allowed}
use Rattle.mh_told.specs.Reading.{service_tagged}

-- no rule is turned off
abbrev pub none_allowed : Allowed
none_allowed = record {
  editor_backup = false;
  identifier_differs = false;
  unknown_rule = false;
  start_leads_away = false;
  not_shared = false;
  no_actions = false;
  behind_transition = false;
  division_by_zero = false;
  negative_size = false;
  colour_octets = false;
  unheard_timer = false;
  locked_for_ever = false;
  unread_variable = false;
  no_interaction = false;
  off_screen = false;
  covers_no_cell = false;
  cut_text = false;
  text_in_its_colour = false;
  bare_line_feeds = false;
  named_alike = false;
  content_to_come = false;
}

abbrev pub asked_for : Bool → Asked
asked_for every = record { all = every; allowed = none_allowed }

-- how many refusals are told at most
abbrev pub most_refusals : ℕ
most_refusals = 20

-- an object for each, a line each
abbrev pub lines_of : List Finding → List ℕ
lines_of found = flat_map (entry format.Json) found

-- THE FINDINGS ON FILES that lie in a folder of this name
pub record AreFindings (folder start late : List ℕ) (every : Bool) (files : List File) (text : List ℕ) (n : ℕ) : Type 0 where
  pub found : List Finding
  pub listed : IsListOf (asked_for every) most_refusals [] folder files start (service_tagged None start (Some late) files) found
  pub told : text ≡ lines_of found
  pub number : n ≡ 0
