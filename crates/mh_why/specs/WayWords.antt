-- What is told of a bound: the configuration in which it costs most, and the effects that make it dear, each with its dearest action.
use Rattle.std.specs.Prelude.{ℕ, ◌==◌, if◌then◌else◌, List, [], ◌∷◌, ◌++◌, codes, Option, Some, None}
use Rattle.std.specs.Fmt.{decimal}
use Rattle.std.specs.List.{find, flat_map}
use Rattle.std.specs.Option.{option_map_or}
use Rattle.std.specs.Str.{bytes_eq}
use Rattle.mh_group.specs.Words.{action_word}
use Rattle.mh_model.specs.declared.config.Config.{Config}
use Rattle.mh_layers.specs.declared.bounds.InputKind.{InputKind}
use Rattle.mh_layers.specs.declared.bounds.InputKind.TheVariants as kind
use Rattle.mh_layers.specs.declared.ways.way.Stage.{Stage}
use Rattle.mh_layers.specs.declared.ways.way.Way.{Way}
use Rattle.mh_layers.specs.Bounding.{kind_word}
use Rattle.mh_why.specs.declared.explanation.line.TheConstants.{SHOWS_NONE, SHOWS_SCENE}
use Rattle.mh_why.specs.declared.explanation.way.TheConstants.{FILES_COME_TO, COSTS_MOST, STARTS, PUTS_FIRST, PUTS_NEXT, DEAREST_ACTION, PUTS_NONE}
use Rattle.mh_why.specs.Advice.{Row, bounds, cell, row_with}
use Rattle.mh_why.specs.Sources.{Source, shown_action}
use Rattle.mh_why.specs.Wrapping.{paragraph}

abbrev pub steps_words : ℕ → List ℕ
steps_words n = decimal n ++ (if n == 1 then codes " step" else codes " steps")

-- the scene that an application shows, if it shows one
abbrev pub scene_words : Option (List ℕ) → List ℕ
scene_words None = SHOWS_NONE.now
scene_words (Some scene) = SHOWS_SCENE.now ++ scene

abbrev pub config_words : Config → List ℕ
config_words c = c.app ++ scene_words c.scene

-- the files make another service than the one whose bound was printed
abbrev pub other_words : List ℕ → ℕ → List ℕ
other_words printed cost =
    if bytes_eq (decimal cost) printed then [] else paragraph (FILES_COME_TO.now ++ steps_words cost ++ codes ".")

-- where it costs most; a start enters the application
abbrev pub place_words : InputKind → Config → List ℕ
place_words kind.Start c = paragraph (STARTS.now ++ c.app ++ codes ".")
place_words _ c = paragraph (COSTS_MOST.now ++ config_words c ++ codes ".")

unfoldable pub stage_words : List ℕ → Stage → List ℕ
stage_words front s =
    paragraph (front ++ steps_words s.cost ++ DEAREST_ACTION.now ++ action_word s.action ++ codes ", action " ++ decimal s.index ++ codes " of object "
    ++ decimal s.cause.at.number ++ codes " of " ++ s.cause.at.group ++ codes ", with " ++ steps_words s.part ++ codes ", while application "
    ++ config_words s.cause.config ++ codes ".")

unfoldable pub stage_text : List Source → List ℕ → Stage → List ℕ
stage_text ss front s = stage_words front s ++ shown_action ss s.cause.at.group s.cause.at.number s.index

abbrev pub stages_text : List Source → List Stage → List ℕ
stages_text ss [] = paragraph PUTS_NONE.now
stages_text ss (s ∷ more) = stage_text ss PUTS_FIRST.now s ++ flat_map (stage_text ss PUTS_NEXT.now) more

-- what is told of a bound that was printed so
unfoldable pub way_text : List Source → List ℕ → Way → List ℕ
way_text ss printed w = other_words printed w.cost ++ place_words w.kind w.config ++ stages_text ss w.stages.items

-- the way of the kind with this word, if it is known
abbrev pub way_of : List Way → List ℕ → Option Way
way_of ways word = find (λ (w : Way). bytes_eq (kind_word w.kind) word) ways

-- the steps to which an input of a kind leads, as they were printed

unfoldable pub printed_steps : List ℕ → List ℕ
printed_steps n = if bytes_eq n (codes "1") then n ++ codes " step" else n ++ codes " steps"

abbrev pub bound_row : List ℕ → Row → List ℕ
bound_row printed row = paragraph (cell row 1 ++ printed_steps printed ++ cell row 2)

unfoldable pub bound_said : List ℕ → List ℕ → List ℕ
bound_said word printed = option_map_or (bound_row printed) (row_with bounds word) []

-- the way of the kind with this word, if it is known
unfoldable pub bound_text : List Source → List Way → List ℕ → List ℕ → List ℕ
bound_text ss ways word printed = option_map_or (way_text ss printed) (way_of ways word) []

-- all that is told of a bound
abbrev pub bound_told : List Source → List Way → List ℕ → List ℕ → List ℕ
bound_told ss ways word printed = bound_said word printed ++ bound_text ss ways word printed
