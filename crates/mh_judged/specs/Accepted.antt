-- What is found of an accepted service: what happens in no run of it, and then what is noted of it.
use Rattle.std.specs.Prelude.{◌≡◌, ℕ, Bool, if◌then◌else◌, List, [], ◌∷◌, ◌++◌, codes, map}
use Rattle.std.specs.List.{flat_map}
use Rattle.mh_alive.specs.Alive.{Alive, IsAliveOf}
use Rattle.mh_findings.specs.declared.finding.Finding.{Finding}
use Rattle.mh_findings.specs.declared.finding.Grade.TheVariants as grade
use Rattle.mh_laws.specs.Budget.{IsAccepted}
use Rattle.mh_laws.specs.Each.{Each}
use Rattle.mh_laws.specs.Flow.{Flow}
use Rattle.mh_lint.specs.declared.finding.Finding.{Finding as Unhappening}
use Rattle.mh_lint.specs.declared.finding.Finding.TheVariants as never
use Rattle.mh_lint.specs.declared.lint.Asked.{Asked}
use Rattle.mh_lint.specs.declared.note.Note.{Note}
use Rattle.mh_lint.specs.declared.rule.Allowed.{Allowed}
use Rattle.mh_lint.specs.Findings.{findings}
use Rattle.mh_lint.specs.Laws.{NeverHappens}
use Rattle.mh_lint.specs.NoteLines.{is_allowed}
use Rattle.mh_lint.specs.Notes.{notes}
use Rattle.mh_lint.specs.Rules.{rule_text, rule_word}
use Rattle.mh_lint.specs.Telling.{object_of, object_words, said_words}
use Rattle.mh_model.specs.declared.config.Config.{Config}
use Rattle.mh_model.specs.Service.{Service}
use Rattle.mh_verify.specs.Free.{most_cost}
use Rattle.mh_told.specs.Reading.{Source as File}
use Rattle.mh_judged.specs.Advised.{found_as, stated}
use Rattle.mh_judged.specs.Places.{numbered_site, object_site}

-- the name of what never happens
unfoldable pub never_rule : Unhappening → List ℕ
never_rule (never.Unreached r) = codes "unreached"
never_rule (never.Idle r) = codes "idle"
never_rule (never.Unsaid r kind x) = codes "unsaid"
never_rule (never.Unput r) = codes "unput"
never_rule (never.Deaf r) = codes "deaf"

unfoldable pub never_words : Service → List Config → Unhappening → List ℕ
never_words v cs f = object_words v (object_of f) ++ said_words v cs f

unfoldable pub never_finding : Service → List Config → List ℕ → List File → Unhappening → Finding
never_finding v cs folder fs f =
    found_as grade.Never (never_rule f) (object_site folder fs (object_of f)) (stated (never_words v cs f)) []

unfoldable pub note_words : Service → Note → List ℕ
note_words v n = object_words v n.at ++ codes " " ++ rule_text n.rule

unfoldable pub note_finding : Service → List ℕ → List File → Note → Finding
note_finding v folder fs n =
    found_as grade.Note (rule_word n.rule) (numbered_site folder fs n.at n.index) (stated (note_words v n)) []

-- none where the rule is turned off
abbrev pub told_note : Allowed → Service → List ℕ → List File → Note → List Finding
told_note a v folder fs n = if is_allowed a fs n then [] else note_finding v folder fs n ∷ []

abbrev pub note_findings : Asked → Service → List ℕ → List File → List Finding
note_findings q v folder fs = flat_map (told_note q.allowed v folder fs) (notes q.all fs v)

-- what never happens in the service by its flow
pub record IsNeverList (all : Bool) (v : Service) (w : Flow) (folder : List ℕ) (fs : List File) (found : List Finding) : Type 0 where
  pub alive : Alive
  pub is : IsAliveOf v w alive
  pub list : found ≡ map (never_finding v w.configs folder fs) (findings all v w.configs alive)

-- and then the notes
pub record IsList (q : Asked) (v : Service) (w : Flow) (folder : List ℕ) (fs : List File) (found : List Finding) : Type 0 where
  pub alive : Alive
  pub is : IsAliveOf v w alive
  pub list : found ≡ map (never_finding v w.configs folder fs) (findings q.all v w.configs alive) ++ note_findings q v folder fs

-- the service is accepted, the list is that by its flow, and what is told as `never` happens in no run
pub record IsAcceptedList (q : Asked) (v : Service) (folder : List ℕ) (fs : List File) (found : List Finding) : Type 0 where
  pub accepted : IsAccepted most_cost v
  pub alive : Alive
  pub is : IsAliveOf v accepted.flow alive
  pub list : found ≡ map (never_finding v (accepted.flow).configs folder fs) (findings q.all v (accepted.flow).configs alive) ++ note_findings q v folder fs
  pub never : Each (NeverHappens most_cost v accepted) (findings q.all v (accepted.flow).configs alive)
