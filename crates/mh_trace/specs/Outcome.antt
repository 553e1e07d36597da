-- What is told behind a step of what came of it, in a line, or as members of an object.
use Rattle.std.specs.Prelude.{ℕ, ◌-◌, ◌==◌, ◌&&◌, Bool, true, false, not, if◌then◌else◌, List, [], ◌∷◌, ◌++◌, codes, length, take}
use Rattle.std.specs.Fmt.{decimal}
use Rattle.mh_model.specs.declared.fault.Fault.{Fault}
use Rattle.mh_model.specs.Step.{is_empty}
use Rattle.mh_machine.specs.declared.stepped.Stepped.{Stepped}
use Rattle.mh_machine.specs.declared.stepped.Stepped.TheVariants as answer
use Rattle.mh_told.specs.Told.{fault_line}
use Rattle.mh_trace.specs.declared.form.Form.{Form}
use Rattle.mh_trace.specs.declared.form.Form.TheVariants as form
use Rattle.mh_trace.specs.Json.{behind, list_if, member_number, more_text, plain_text}
use Rattle.mh_trace.specs.Why.{why_text}
use Rattle.mh_trace.specs.declared.why.Why.{Why}

abbrev pub is_fault : Stepped → Bool
is_fault (answer.Faulted f) = true
is_fault _ = false

-- how many actions are dropped where a transition begins
unfoldable pub dropped_word : List ℕ
dropped_word = codes "; begins, and drops "

unfoldable pub dropped_text : ℕ → List ℕ
dropped_text n = dropped_word ++ decimal n ++ codes " behind it"

unfoldable pub dropped_note : ℕ → List ℕ
dropped_note n = if n == 0 then codes "; begins" else dropped_text n

abbrev pub started_note : Bool → ℕ → List ℕ
started_note false n = []
started_note true n = dropped_note n

-- how many that wait are forgotten
unfoldable pub forgotten_note : ℕ → List ℕ
forgotten_note n = if n == 0 then [] else codes "; forgets " ++ decimal n ++ codes " that waited"

unfoldable pub nothing_text : Why → List ℕ
nothing_text why = codes "; nothing" ++ why_text why

abbrev pub nothing_note : Bool → Why → List ℕ
nothing_note b why = if b then nothing_text why else []

-- what has become of the objects that the step may change, and that nothing has come of it where nothing has, and why
unfoldable pub changes_text : List ℕ → Bool → Why → List ℕ
changes_text changes rests why = changes ++ nothing_note (is_empty changes && rests) why

-- nothing comes of an entry that is no fault
abbrev pub may_be_nothing : Stepped → Bool → Bool
may_be_nothing a quiet = not (is_fault a) && quiet

abbrev pub fault_text : Stepped → List ℕ
fault_text (answer.Faulted f) = fault_line f
fault_text _ = []

-- whether a transition begins and what it drops, how many wait behind it of those that did, what has become of objects,
-- whether nothing else has come of it, and what the step answered
unfoldable pub outcome_text : Bool → ℕ → ℕ → List ℕ → Bool → Why → Stepped → List ℕ
outcome_text started dropped forgotten changes rests why a =
    started_note started dropped ++ forgotten_note forgotten ++ changes_text changes rests why ++ 10 ∷ [] ++ fault_text a

-- the same as members of an object

unfoldable pub begun_json : ℕ → List ℕ
begun_json n = plain_text (codes "begins") (codes "true") ++ member_number (codes "drops") n

abbrev pub started_json : Bool → ℕ → List ℕ
started_json false n = []
started_json true n = begun_json n

unfoldable pub forgotten_json : ℕ → List ℕ
forgotten_json n = if n == 0 then [] else member_number (codes "forgets") n

-- why nothing has come of it, without the colon in front
unfoldable pub why_json : List ℕ → List ℕ
why_json why = if is_empty why then [] else more_text (codes "why") (behind why 2)

unfoldable pub rested_json : List ℕ → List ℕ
rested_json why = plain_text (codes "nothing") (codes "true") ++ why_json why

abbrev pub nothing_json : Bool → Why → List ℕ
nothing_json b why = if b then rested_json (why_text why) else []

-- the report's line, without its end
abbrev pub without_end : List ℕ → List ℕ
without_end line = take (length line - 1) line

unfoldable pub faulted_json : Fault → List ℕ
faulted_json f = more_text (codes "fault") (without_end (fault_line f))

abbrev pub fault_json : Stepped → List ℕ
fault_json (answer.Faulted f) = faulted_json f
fault_json _ = []

unfoldable pub changes_json : List ℕ → Bool → Why → List ℕ
changes_json changes rests why = list_if (codes "changes") changes ++ nothing_json (is_empty changes && rests) why

unfoldable pub outcome_json : Bool → ℕ → ℕ → List ℕ → Bool → Why → Stepped → List ℕ
outcome_json started dropped forgotten changes rests why a =
    started_json started dropped ++ forgotten_json forgotten ++ changes_json changes rests why ++ fault_json a ++ codes "}" ++ 10 ∷ []

abbrev pub outcome_by : Form → Bool → ℕ → ℕ → List ℕ → Bool → Why → Stepped → List ℕ
outcome_by form.Text started dropped forgotten changes rests why a = outcome_text started dropped forgotten changes rests why a
outcome_by form.Json started dropped forgotten changes rests why a = outcome_json started dropped forgotten changes rests why a
