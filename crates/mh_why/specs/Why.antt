-- What is explained of the lines that `check` and `play` print: the line itself, what it tells, where what it names stands in the files,
-- the cause, and the mend. A line that tells of nothing wrong, and of no bound, is passed over.
use Rattle.std.specs.Prelude.{ℕ, if◌then◌else◌, List, [], ◌∷◌, ◌++◌, drop, map, codes, Option, Some, None}
use Rattle.std.specs.Option.{option_map_or}
use Rattle.std.specs.Str.{bytes_eq}
use Rattle.bstr.specs.Text.{lines_of, without_terminator}
use Rattle.mh_cause.specs.declared.detail.Detail.{Detail}
use Rattle.mh_cause.specs.declared.detail.Detail.TheVariants as detail
use Rattle.mh_flow.specs.declared.chain.link.Link.{Link}
use Rattle.mh_layers.specs.declared.arrows.arrow.Arrow.{Arrow}
use Rattle.mh_layers.specs.declared.ways.way.Way.{Way}
use Rattle.mh_told.specs.Reading.{Source as File}
use Rattle.mh_why.specs.declared.explanation.line.TheConstants.{STANDS_IN, MEMBERS_OF, SO_IT_IS, SHOWS_NONE, SHOWS_SCENE, THE_ACTION, WAS_STUCK, LEADS_TO, CIRCLE_THROUGH, COMES_BY, EFFECT_WITH, PUTS_ITSELF, HANDS_ON, WRITES_IT, IS_BYTE, OF_FILE, TOLD_OF, IS_LINE, IS_CONTEXT, CONTEXTS}
use Rattle.mh_why.specs.Advice.{advice, cell, row_with, services, tags, faults, objects, readings}
use Rattle.mh_why.specs.declared.explanation.keyword.Keyword.{Keyword}
use Rattle.mh_why.specs.declared.explanation.keyword.Keyword.TheVariants as keyword
use Rattle.mh_why.specs.Cases.{case_advice}
use Rattle.mh_why.specs.Circles.{arrow_text, at_words, next_in}
use Rattle.mh_why.specs.Further.{further}
use Rattle.mh_why.specs.Keywords.{keyword_of}
use Rattle.mh_why.specs.LineWords.{first_word, behind_first, last_word, before_last}
use Rattle.mh_why.specs.Misreading.{file_advice}
use Rattle.mh_why.specs.Meant.{sought_in}
use Rattle.mh_why.specs.Missing.{missing}
use Rattle.mh_terminal.specs.Frames.{plain}
use Rattle.mh_why.specs.Places.{IsHarmless}
use Rattle.mh_why.specs.Posts.{posts_told, script_behind, script_bytes}
use Rattle.mh_why.specs.ScriptTexts.{script_told}
use Rattle.mh_why.specs.Services.{shown_service}
use Rattle.mh_why.specs.Sources.{NamedFile, Source, by_number, by_numbers, shown_action, shown_actions, shown_line, shown_object, shown_offset, shown_refused, shown_written, source_of, table_by}
use Rattle.mh_why.specs.Spots.{Spot, spot, object_words, action_words}
use Rattle.mh_why.specs.Through.{through_told}
use Rattle.mh_why.specs.WayWords.{bound_text, bound_told}
use Rattle.mh_why.specs.Wrapping.{paragraph}

-- What is known beside an output: the files of the service, the dearest ways of its inputs, the chain and the circle of its refusal, its cause and its mend by its case, and the
-- part of the action that is wrong, the
-- file that names late scenes, the one that gives tags, and the script. Where these are not known, there are no ways, links and arrows,
-- and none of these files.

pub record Known : Type 0 where
  pub files : List File
  pub ways : List Way
  pub chain : List Link
  pub cycle : List Arrow
  pub cause : List ℕ
  pub mend : List ℕ
  pub detail : Detail
  pub late : Option NamedFile
  pub tags : Option NamedFile
  pub script : Option NamedFile

-- the same, with what is shown of the files
pub record Ground : Type 0 where
  pub sources : List Source
  pub ways : List Way
  pub chain : List Link
  pub cycle : List Arrow
  pub cause : List ℕ
  pub mend : List ℕ
  pub detail : Detail
  pub late : Option NamedFile
  pub tags : Option NamedFile
  pub script : Option NamedFile

-- what was told before a line, and what is still to come: the words behind the last `refused`, the line before, the links and the
-- arrows of which no line told yet, and the lines of the script
pub record Past : Type 0 where
  pub refusal : List ℕ
  pub before : List ℕ
  pub chain : List Link
  pub cycle : List Arrow
  pub script : List ℕ

-- where the action or the members stand
abbrev pub shown_spot : List Source → Spot → List ℕ
shown_spot ss s = by_numbers (shown_action ss s.group) s.object s.index

-- Lines that begin with `refused`

-- the action that is refused, or the members where it has no name
abbrev pub refused_words : List ℕ → Spot → List ℕ
refused_words action s =
    if bytes_eq action (codes "-") then MEMBERS_OF.now ++ object_words s.group s.object else action ++ codes ", " ++ action_words s

unfoldable pub refused_spot : Ground → List ℕ → Spot → List ℕ
refused_spot g action s =
    paragraph (STANDS_IN.now ++ refused_words action s ++ codes ".")
    ++ by_numbers (shown_refused g.sources action g.detail s.group) s.object s.index

-- the effect of which a circle is told; where its arrows are known, they show the actions
unfoldable pub circle_words : List ℕ → Spot → List ℕ
circle_words action s = EFFECT_WITH.now ++ action ++ codes ", " ++ action_words s ++ PUTS_ITSELF.now

abbrev pub unless_known : List Arrow → List ℕ → List ℕ
unless_known [] shown = shown
unless_known (a ∷ more) shown = []

unfoldable pub circle_place : Ground → List ℕ → Spot → List ℕ
circle_place g action s = unless_known g.cycle (by_numbers (shown_refused g.sources action detail.Unknown s.group) s.object s.index)

unfoldable pub circle_spot : Ground → List ℕ → Spot → List ℕ
circle_spot g action s = paragraph (circle_words action s) ++ circle_place g action s

abbrev pub refused_by : Ground → List ℕ → List ℕ → Spot → List ℕ
refused_by g number action s = if bytes_eq number (codes "V6") then circle_spot g action s else refused_spot g action s

-- only what the verifier refuses for what stands somewhere has a place
abbrev pub refused_at : Ground → List ℕ → List ℕ → Spot → List ℕ
refused_at g number action s = told s.group
  where
    told : List ℕ → List ℕ
    told [] = []
    told (b ∷ bs) = refused_by g number action s

-- for a bound that is too large the kind of input is told, and for a post the line of the script
unfoldable pub refused : Ground → Past → List ℕ → List ℕ
refused g p ws =
    refused_at g (first_word ws) (last_word (behind_first ws)) (spot (before_last (behind_first ws)))
    ++ posts_told g.script p.script (first_word ws) ++ case_advice g.cause g.mend (first_word ws)
    ++ bound_text g.sources g.ways (behind_first ws) []

-- Lines that tell more of what is refused

abbrev pub scene_words : List ℕ → List ℕ
scene_words scene = if bytes_eq scene (codes "-") then SHOWS_NONE.now else SHOWS_SCENE.now ++ scene

unfoldable pub config : List ℕ → List ℕ
config ws = paragraph (SO_IT_IS.now ++ before_last ws ++ scene_words (last_word ws) ++ codes ".")

-- what is told of the object that is named, by the number of the refusal

abbrev pub object_told : List ℕ → List ℕ → List ℕ
object_told number words =
    option_map_or (λ row. cell row 1 ++ words ++ cell row 2) (row_with objects number) (LEADS_TO.now ++ words ++ codes ".")

unfoldable pub object : Ground → List ℕ → List ℕ → List ℕ
object g refusal ws =
    paragraph (object_told (first_word refusal) (object_words (before_last ws) (last_word ws)))
    ++ by_number (shown_object g.sources (before_last ws)) (last_word ws)
    ++ through_told g.sources g.chain refusal ws ++ missing g.sources (before_last ws)

-- the first of a chain writes the reference, and the others hand it on
abbrev pub brings : List ℕ → List ℕ
brings before = if bytes_eq (first_word before) (codes "by") then HANDS_ON.now else WRITES_IT.now

-- the variable or the list that has it then, if the link is known
abbrev pub into : List Link → List ℕ
into [] = []
into (l ∷ ls) = codes " to " ++ at_words l.written

unfoldable pub brought_words : Past → Spot → List ℕ
brought_words p s = action_words s ++ brings p.before ++ into p.chain

abbrev pub by_words : Past → Spot → List ℕ
by_words p s =
    if bytes_eq s.index (codes "0") then object_words s.group s.object ++ codes ", which has it from the start" else brought_words p s

-- the text, or if that is empty the other
abbrev pub or_else : List ℕ → List ℕ → List ℕ
or_else [] other = other
or_else (b ∷ bs) other = b ∷ bs

-- of an object that has a reference from the start its members are shown, or else the object itself
abbrev pub shown_from : List Source → Spot → List ℕ
shown_from ss s =
    if bytes_eq s.index (codes "0") then or_else (shown_spot ss s) (by_number (shown_object ss s.group) s.object) else shown_spot ss s

unfoldable pub by : List Source → Past → Spot → List ℕ
by ss p s = paragraph (COMES_BY.now ++ by_words p s ++ codes ".") ++ shown_from ss s

-- an effect of a circle that is known by its first action alone
unfoldable pub cause : List Source → Spot → List ℕ
cause ss s = paragraph (CIRCLE_THROUGH.now ++ action_words s ++ codes ".") ++ shown_spot ss s

-- the next effect of a circle, by its arrow where that is known
abbrev pub cause_told : Ground → List Arrow → Spot → List ℕ
cause_told g [] s = cause g.sources s
cause_told g (a ∷ more) s = arrow_text g.sources a (next_in a more g.cycle)

-- Lines on what cannot be read, and on faults

-- a file, its number and the offset
unfoldable pub file : List Source → Spot → List ℕ
file ss s =
    paragraph (IS_BYTE.now ++ s.index ++ OF_FILE.now ++ s.group ++ codes ".") ++ by_number (shown_offset ss s.group) s.index
    ++ file_advice ss s ++ further ss s

-- a line of the file that names late scenes, which 37 tells
abbrev pub shown_late : Option NamedFile → List ℕ → List ℕ → List ℕ
shown_late None number line = []
shown_late (Some f) number line = if bytes_eq number (codes "37") then shown_written f line else []

-- a number and a group, or such a line
unfoldable pub service : Ground → List ℕ → List ℕ
service g ws =
    paragraph (TOLD_OF.now ++ behind_first ws ++ codes ".") ++ shown_service g.sources (first_word ws) (behind_first ws)
    ++ shown_late g.late (first_word ws) (behind_first ws) ++ missing g.sources (behind_first ws) ++ advice services (first_word ws)

-- which line of the file of tags is wrong, or in which context a tag stands twice
abbrev pub tag_words : List ℕ → List ℕ → List ℕ
tag_words number place =
    if bytes_eq number (codes "60") then paragraph (IS_LINE.now ++ place ++ codes " of the file of tags.")
    else paragraph (IS_CONTEXT.now ++ place ++ CONTEXTS.now)

abbrev pub shown_tags : Option NamedFile → List ℕ → List ℕ → List ℕ
shown_tags None number place = []
shown_tags (Some f) number place = if bytes_eq number (codes "60") then by_number (shown_line f) place else []

-- a number, and a line or a context
unfoldable pub tagged : Option NamedFile → List ℕ → List ℕ
tagged f ws =
    tag_words (first_word ws) (behind_first ws) ++ shown_tags f (first_word ws) (behind_first ws) ++ advice tags (first_word ws)

abbrev pub shown_script : Option NamedFile → List ℕ → List ℕ
shown_script script word = option_map_or (λ s. by_number (shown_line s) word) script []

unfoldable pub script : List Source → Option NamedFile → List ℕ → List ℕ
script ss s ws = paragraph (IS_LINE.now ++ ws ++ codes " of the script.") ++ shown_script s ws ++ script_told ss s ws

unfoldable pub unread : List ℕ → List ℕ
unread ws = paragraph (TOLD_OF.now ++ ws ++ codes ".") ++ advice readings (codes "read")

-- a kind, the action, and the reference
unfoldable pub stuck : List ℕ → List ℕ → List ℕ
stuck action at = paragraph (THE_ACTION.now ++ action ++ WAS_STUCK.now ++ object_words (before_last at) (last_word at) ++ codes ".")

unfoldable pub fault : List Source → List ℕ → List ℕ
fault ss ws =
    stuck (first_word (behind_first ws)) (behind_first (behind_first ws)) ++ shown_actions ss (sought_in (behind_first ws))
    ++ missing ss (before_last (behind_first (behind_first ws))) ++ advice faults (first_word ws)

unfoldable pub accepted : List ℕ
accepted = paragraph (codes "  Nothing can go wrong, and no input leads to more steps than the line of its kind tells.")

-- All lines

-- what is told of a line with this first word and these behind it, behind what was told
abbrev pub told : Ground → Past → Keyword → List ℕ → List ℕ
told g p keyword.Accepted ws = accepted
told g p keyword.Start ws = bound_told g.sources g.ways (codes "start") ws
told g p keyword.Key ws = bound_told g.sources g.ways (codes "key") ws
told g p keyword.Tick ws = bound_told g.sources g.ways (codes "tick") ws
told g p keyword.Stream ws = bound_told g.sources g.ways (codes "stream") ws
told g p keyword.Engine ws = bound_told g.sources g.ways (codes "engine") ws
told g p keyword.Arrive ws = bound_told g.sources g.ways (codes "arrive") ws
told g p keyword.Refused ws = refused g p ws
told g p keyword.Config ws = config ws
told g p keyword.Object ws = object g p.refusal ws
told g p keyword.By ws = by g.sources p (spot ws)
told g p keyword.Cause ws = cause_told g p.cycle (spot ws)
told g p keyword.File ws = file g.sources (spot ws)
told g p keyword.Service ws = service g ws
told g p keyword.Tags ws = tagged g.tags ws
told g p keyword.Script ws = script g.sources g.script ws
told g p keyword.Read ws = unread ws
told g p keyword.Fault ws = fault g.sources ws

unfoldable pub with_line : Ground → Past → List ℕ → Keyword → List ℕ
with_line g p line k = plain line ++ 10 ∷ [] ++ told g p k (behind_first line)

unfoldable pub explained : Ground → Past → List ℕ → List ℕ
explained g p line = option_map_or (with_line g p line) (keyword_of (first_word line)) []

-- what was told, behind one more line

abbrev pub refusal_behind : List ℕ → List ℕ → List ℕ
refusal_behind refusal line = if bytes_eq (first_word line) (codes "refused") then behind_first line else refusal

abbrev pub chain_behind : List Link → List ℕ → List Link
chain_behind chain line = if bytes_eq (first_word line) (codes "by") then drop 1 chain else chain

abbrev pub cycle_behind : List Arrow → List ℕ → List Arrow
cycle_behind cycle line = if bytes_eq (first_word line) (codes "cause") then drop 1 cycle else cycle

abbrev pub past_behind : Past → List ℕ → Past
past_behind p line = record {
  refusal = refusal_behind p.refusal line;
  before = line;
  chain = chain_behind p.chain line;
  cycle = cycle_behind p.cycle line;
  script = script_behind p.script line;
}

abbrev pub explained_all : Ground → Past → List (List ℕ) → List ℕ
explained_all g p [] = []
explained_all g p (line ∷ lines) = explained g p line ++ explained_all g (past_behind p line) lines

abbrev pub first_past : Ground → Past
first_past g = record { refusal = []; before = []; chain = g.chain; cycle = g.cycle; script = script_bytes g.script }

abbrev pub ground : Known → Ground
ground k = record { sources = map (source_of (table_by k.tags)) k.files; ways = k.ways; chain = k.chain; cycle = k.cycle; cause = k.cause; mend = k.mend; detail = k.detail; late = k.late; tags = k.tags; script = k.script }

unfoldable pub why : Known → List ℕ → List ℕ
why k output = explained_all (ground k) (first_past (ground k)) (map without_terminator (lines_of output))

-- the law: whatever is known and whatever the output is, a terminal is given no order
abbrev pub ExplanationsAreHarmless : Type 0
ExplanationsAreHarmless = (k : Known) (output : List ℕ) → IsHarmless (why k output)
