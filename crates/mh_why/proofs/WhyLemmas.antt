-- What is explained gives a terminal no order: all that is put are paragraphs, places, and lines of the output, which are put plainly.
use Rattle.std.specs.Prelude.{ℕ, ◌-◌, List, [], ◌∷◌, map, codes, Option, Some, None, refl}
use Rattle.std.specs.Fmt.{decimal}
use Rattle.std.specs.List.{list_any}
use Rattle.std.specs.Option.{option_map_or}
use Rattle.std.specs.Str.{bytes_eq}
use Rattle.bstr.specs.Text.{lines_of, without_terminator}
use Rattle.mh_model.specs.declared.config.Config.{Config}
use Rattle.mh_cause.specs.declared.detail.Detail.TheVariants as detail
use Rattle.mh_flow.specs.declared.chain.link.Link.{Link}
use Rattle.mh_layers.specs.declared.arrows.arrow.Arrow.{Arrow}
use Rattle.mh_layers.specs.declared.bounds.InputKind.{InputKind}
use Rattle.mh_layers.specs.declared.bounds.InputKind.TheVariants as kind
use Rattle.mh_layers.specs.declared.ways.way.Stage.{Stage}
use Rattle.mh_layers.specs.declared.ways.way.Way.{Way}
use Rattle.mh_text.specs.Landmarks.{Through}
use Rattle.mh_why.specs.Advice.{row_with, bounds, refusals, services, tags, faults, readings}
use Rattle.mh_why.specs.Cases.{case_advice, case_words, is_verdict}
use Rattle.mh_why.specs.Keywords.{keyword_of}
use Rattle.mh_why.specs.LineWords.{first_word, behind_first, last_word, before_last}
use Rattle.mh_why.specs.Meant.{sought_in}
use Rattle.mh_why.specs.Places.{IsHarmless}
use Rattle.mh_why.specs.Sources.{NamedFile, Source, in_source, shown_object, shown_refused}
use Rattle.mh_why.specs.Circles.{arrow_text}
use Rattle.mh_why.specs.Spots.{Spot, spot}
use Rattle.mh_why.specs.Through.{holder_text, is_held, is_variable, last_link, own_text, reached_by, through_at, through_by, through_numbered, through_told}
use Rattle.mh_why.specs.declared.explanation.keyword.Keyword.{Keyword}
use Rattle.mh_why.specs.declared.explanation.keyword.Keyword.TheVariants as keyword
use Rattle.mh_why.specs.declared.explanation.way.TheConstants.{PUTS_FIRST, PUTS_NEXT}
use Rattle.mh_why.specs.WayWords.{other_words, place_words, stage_words, stage_text, stages_text, way_text, way_of, bound_row, bound_said, bound_text, bound_told}
use Rattle.mh_why.specs.Why as spec
use Rattle.mh_why.specs.Why.{Ground, Past, shown_spot, shown_from, or_else, cause_told, circle_place, circle_spot, refused_by, refused_spot, refused_at, unless_known, stuck, told, with_line, explained, explained_all, past_behind, why, ExplanationsAreHarmless}
use Rattle.mh_why.proofs.HarmlessLemmas.{◌⌢◌, harmless_codes, harmless_plain, harmless_paragraph}
use Rattle.mh_why.proofs.FileLemmas.{file_put}
use Rattle.mh_why.proofs.PlacedLemmas.{none, optional, either, joined, advice_put, by_number_put, by_numbers_put, in_source_put, action_put, refused_put, actions_put, object_put, service_put, missing_put, late_put, tag_line_put, script_put, spot_put}
use Rattle.mh_why.proofs.ScriptLemmas.{posts_told_put, script_told_put}

-- Bounds

stage_words_put : (front : List ℕ) (s : Stage) → IsHarmless (stage_words front s)
unfolding stage_words
stage_words_put front s = harmless_paragraph _

stage_put : (ss : List Source) (front : List ℕ) (s : Stage) → IsHarmless (stage_text ss front s)
unfolding stage_text
stage_put ss front s = stage_words_put front s ⌢ action_put ss s.cause.at.group s.cause.at.number s.index

stages_put : (ss : List Source) (stages : List Stage) → IsHarmless (stages_text ss stages)
stages_put ss [] = harmless_paragraph _
stages_put ss (s ∷ more) = stage_put ss PUTS_FIRST.now s ⌢ joined (stage_text ss PUTS_NEXT.now) (stage_put ss PUTS_NEXT.now) more

other_put : (printed : List ℕ) (cost : ℕ) → IsHarmless (other_words printed cost)
other_put printed cost = either (bytes_eq (decimal cost) printed) _ _ none (harmless_paragraph _)

where_put : (k : InputKind) (c : Config) → IsHarmless (place_words k c)
where_put kind.Start c = harmless_paragraph _
where_put kind.Key c = harmless_paragraph _
where_put kind.Tick c = harmless_paragraph _
where_put kind.Stream c = harmless_paragraph _
where_put kind.Engine c = harmless_paragraph _
where_put kind.Arrive c = harmless_paragraph _

way_put : (ss : List Source) (printed : List ℕ) (w : Way) → IsHarmless (way_text ss printed w)
unfolding way_text
way_put ss printed w = other_put printed w.cost ⌢ where_put w.kind w.config ⌢ stages_put ss w.stages.items

bound_put : (ss : List Source) (ways : List Way) (word printed : List ℕ) → IsHarmless (bound_text ss ways word printed)
unfolding bound_text
bound_put ss ways word printed = optional (way_text ss printed) (way_put ss printed) (way_of ways word)

said_put : (word printed : List ℕ) → IsHarmless (bound_said word printed)
unfolding bound_said
said_put word printed = optional (bound_row printed) (λ row. harmless_paragraph _) (row_with bounds word)

bound_told_put : (ss : List Source) (ways : List Way) (word printed : List ℕ) → IsHarmless (bound_told ss ways word printed)
bound_told_put ss ways word printed = said_put word printed ⌢ bound_put ss ways word printed

-- Lines

refused_spot_put : (g : Ground) (action : List ℕ) (s : Spot) → IsHarmless (refused_spot g action s)
unfolding refused_spot
refused_spot_put g action s =
    harmless_paragraph _ ⌢ by_numbers_put (shown_refused g.sources action g.detail s.group) (refused_put g.sources action g.detail s.group) s.object s.index

unless_known_put : (cycle : List Arrow) (shown : List ℕ) → IsHarmless shown → IsHarmless (unless_known cycle shown)
unless_known_put [] shown is = is
unless_known_put (a ∷ more) shown is = none

circle_place_put : (g : Ground) (action : List ℕ) (s : Spot) → IsHarmless (circle_place g action s)
unfolding circle_place
circle_place_put g action s =
    unless_known_put g.cycle _ (by_numbers_put (shown_refused g.sources action detail.Unknown s.group) (refused_put g.sources action detail.Unknown s.group) s.object s.index)

circle_spot_put : (g : Ground) (action : List ℕ) (s : Spot) → IsHarmless (circle_spot g action s)
unfolding circle_spot
circle_spot_put g action s = harmless_paragraph _ ⌢ circle_place_put g action s

refused_by_put : (g : Ground) (number action : List ℕ) (s : Spot) → IsHarmless (refused_by g number action s)
refused_by_put g number action s = either (bytes_eq number (codes "V6")) _ _ (circle_spot_put g action s) (refused_spot_put g action s)

refused_at_put : (g : Ground) (number action group object index : List ℕ)
    → IsHarmless (refused_at g number action (record { group = group; object = object; index = index }))
refused_at_put g number action [] object index = none
refused_at_put g number action (b ∷ bs) object index = refused_by_put g number action (record { group = b ∷ bs; object = object; index = index })

case_words_put : (cause mend : List ℕ) → IsHarmless (case_words cause mend)
unfolding case_words
case_words_put cause mend = harmless_paragraph _ ⌢ harmless_paragraph _

case_advice_put : (cause mend number : List ℕ) → IsHarmless (case_advice cause mend number)
unfolding case_advice
case_advice_put [] mend number = advice_put refusals number
case_advice_put (b ∷ bs) mend number = either (is_verdict number) _ _ (case_words_put (b ∷ bs) mend) (advice_put refusals number)

refusal_put : (g : Ground) (p : Past) (ws : List ℕ) → IsHarmless (spec.refused g p ws)
unfolding spec.refused
refusal_put g p ws =
    let s = spot (before_last (behind_first ws)) in
    refused_at_put g (first_word ws) (last_word (behind_first ws)) s.group s.object s.index ⌢ posts_told_put g.script p.script (first_word ws) ⌢ case_advice_put g.cause g.mend (first_word ws) ⌢ bound_put g.sources g.ways (behind_first ws) []

config_put : (ws : List ℕ) → IsHarmless (spec.config ws)
unfolding spec.config
config_put ws = harmless_paragraph _

reached_put : (from : List ℕ) (ts : List Through) → IsHarmless (reached_by from ts)
reached_put from [] = none
reached_put from (t ∷ ts) = harmless_paragraph _

own_put : (from : List ℕ) (ts : List Through) (group : List ℕ) (number : ℕ) → IsHarmless (own_text from ts group number)
own_put from ts group number = either (list_any (is_variable from group number) ts) _ _ (harmless_paragraph _) none

through_by_put : (number words from : List ℕ) (ts : List Through) → IsHarmless (through_by number words from ts)
through_by_put number words from ts =
    either (is_held number) _ _ (reached_put from ts)
    (by_number_put (own_text from ts (before_last words)) (own_put from ts (before_last words)) (last_word words))

through_at_put : (ss : List Source) (refusal words : List ℕ) (s : Spot) → IsHarmless (through_at ss refusal words s)
through_at_put ss refusal words s =
    by_numbers_put (λ object index. in_source (through_numbered refusal words object index) ss s.group)
    (λ object index. in_source_put (through_numbered refusal words object index) (λ x. through_by_put (first_word refusal) words x.name _) ss s.group)
    s.object s.index

holder_put : (refusal : List ℕ) (o : Option Link) (other : List ℕ) → IsHarmless other → IsHarmless (option_map_or (holder_text refusal) o other)
holder_put refusal None other is = is
holder_put refusal (Some l) other is = either (bytes_eq (last_word refusal) (codes "-")) _ _ none (harmless_paragraph _)

through_told_put : (ss : List Source) (chain : List Link) (refusal words : List ℕ) → IsHarmless (through_told ss chain refusal words)
unfolding through_told
through_told_put ss chain refusal words = holder_put refusal (last_link chain) _ (through_at_put ss refusal words (spot (before_last (behind_first refusal))))

named_object_put : (g : Ground) (refusal ws : List ℕ) → IsHarmless (spec.object g refusal ws)
unfolding spec.object
named_object_put g refusal ws =
    harmless_paragraph _ ⌢ by_number_put (shown_object g.sources (before_last ws)) (object_put g.sources (before_last ws)) (last_word ws)
    ⌢ through_told_put g.sources g.chain refusal ws ⌢ missing_put g.sources (before_last ws)

or_else_put : (xs ys : List ℕ) → IsHarmless xs → IsHarmless ys → IsHarmless (or_else xs ys)
or_else_put [] ys front behind = behind
or_else_put (x ∷ xs) ys front behind = front

from_put : (ss : List Source) (s : Spot) → IsHarmless (shown_from ss s)
from_put ss s =
    either (bytes_eq s.index (codes "0")) _ _
    (or_else_put (shown_spot ss s) _ (spot_put ss s) (by_number_put (shown_object ss s.group) (object_put ss s.group) s.object)) (spot_put ss s)

by_put : (ss : List Source) (p : Past) (s : Spot) → IsHarmless (spec.by ss p s)
unfolding spec.by
by_put ss p s = harmless_paragraph _ ⌢ from_put ss s

arrow_put : (ss : List Source) (a next : Arrow) → IsHarmless (arrow_text ss a next)
unfolding arrow_text
arrow_put ss a next = harmless_paragraph _ ⌢ action_put ss a.cause.at.group a.cause.at.number a.index

cause_put : (g : Ground) (cycle : List Arrow) (s : Spot) → IsHarmless (cause_told g cycle s)
unfolding spec.cause
cause_put g [] s = harmless_paragraph _ ⌢ spot_put g.sources s
cause_put g (a ∷ more) s = arrow_put g.sources a _

group_put : (g : Ground) (ws : List ℕ) → IsHarmless (spec.service g ws)
unfolding spec.service
group_put g ws =
    harmless_paragraph _ ⌢ service_put g.sources (first_word ws) (behind_first ws) ⌢ late_put g.late (first_word ws) (behind_first ws)
    ⌢ missing_put g.sources (behind_first ws) ⌢ advice_put services (first_word ws)

tags_put : (file : Option NamedFile) (ws : List ℕ) → IsHarmless (spec.tagged file ws)
unfolding spec.tagged
tags_put file ws =
    either (bytes_eq (first_word ws) (codes "60")) _ _ (harmless_paragraph _) (harmless_paragraph _)
    ⌢ tag_line_put file (first_word ws) (behind_first ws) ⌢ advice_put tags (first_word ws)

line_of_script_put : (ss : List Source) (script : Option NamedFile) (ws : List ℕ) → IsHarmless (spec.script ss script ws)
unfolding spec.script
line_of_script_put ss script ws = harmless_paragraph _ ⌢ script_put script ws ⌢ script_told_put ss script ws

unread_put : (ws : List ℕ) → IsHarmless (spec.unread ws)
unfolding spec.unread
unread_put ws = harmless_paragraph _ ⌢ advice_put readings (codes "read")

stuck_put : (action at : List ℕ) → IsHarmless (stuck action at)
unfolding stuck
stuck_put action at = harmless_paragraph _

fault_put : (ss : List Source) (ws : List ℕ) → IsHarmless (spec.fault ss ws)
unfolding spec.fault
fault_put ss ws =
    stuck_put (first_word (behind_first ws)) (behind_first (behind_first ws)) ⌢ actions_put ss (sought_in (behind_first ws))
    ⌢ missing_put ss (before_last (behind_first (behind_first ws))) ⌢ advice_put faults (first_word ws)

accepted_put : IsHarmless spec.accepted
unfolding spec.accepted
accepted_put = harmless_paragraph _

-- All lines

told_put : (g : Ground) (p : Past) (k : Keyword) (ws : List ℕ) → IsHarmless (told g p k ws)
told_put g p keyword.Accepted ws = accepted_put
told_put g p keyword.Start ws = bound_told_put g.sources g.ways (codes "start") ws
told_put g p keyword.Key ws = bound_told_put g.sources g.ways (codes "key") ws
told_put g p keyword.Tick ws = bound_told_put g.sources g.ways (codes "tick") ws
told_put g p keyword.Stream ws = bound_told_put g.sources g.ways (codes "stream") ws
told_put g p keyword.Engine ws = bound_told_put g.sources g.ways (codes "engine") ws
told_put g p keyword.Arrive ws = bound_told_put g.sources g.ways (codes "arrive") ws
told_put g p keyword.Refused ws = refusal_put g p ws
told_put g p keyword.Config ws = config_put ws
told_put g p keyword.Object ws = named_object_put g p.refusal ws
told_put g p keyword.By ws = by_put g.sources p (spot ws)
told_put g p keyword.Cause ws = cause_put g p.cycle (spot ws)
told_put g p keyword.File ws = file_put g.sources (spot ws)
told_put g p keyword.Service ws = group_put g ws
told_put g p keyword.Tags ws = tags_put g.tags ws
told_put g p keyword.Script ws = line_of_script_put g.sources g.script ws
told_put g p keyword.Read ws = unread_put ws
told_put g p keyword.Fault ws = fault_put g.sources ws

line_put : (g : Ground) (p : Past) (line : List ℕ) (k : Keyword) → IsHarmless (with_line g p line k)
unfolding with_line
line_put g p line k = harmless_plain line ⌢ harmless_codes (10 ∷ []) refl ⌢ told_put g p k (behind_first line)

explained_put : (g : Ground) (p : Past) (line : List ℕ) → IsHarmless (explained g p line)
unfolding explained
explained_put g p line = optional (with_line g p line) (line_put g p line) (keyword_of (first_word line))

all_put : (g : Ground) (p : Past) (lines : List (List ℕ)) → IsHarmless (explained_all g p lines)
all_put g p [] = none
all_put g p (line ∷ lines) = explained_put g p line ⌢ all_put g (past_behind p line) lines

pub harmless_why : ExplanationsAreHarmless
unfolding why
harmless_why k output = all_put (spec.ground k) _ (map without_terminator (lines_of output))
