-- The lines on the accepted service of some files: what happens in no run of it, and notes.
use Rattle.std.specs.Prelude.{◌≡◌, ℕ, List, [], ◌++◌, Option, Some, None, Result, Ok}
use Rattle.mh_model.specs.Service.{Service}
use Rattle.mh_laws.specs.Budget.{IsAccepted}
use Rattle.mh_laws.specs.Each.{Each}
use Rattle.mh_flow.specs.Equipment.{equipped}
use Rattle.mh_alive.specs.Alive.{Alive, IsAliveOf}
use Rattle.mh_lint.specs.declared.lint.Asked.{Asked}
use Rattle.mh_lint.specs.Findings.{findings}
use Rattle.mh_lint.specs.Laws.{NeverHappens}
use Rattle.mh_lint.specs.NoteLines.{notes_words}
use Rattle.mh_lint.specs.Notes.{notes}
use Rattle.mh_lint.specs.Telling.{never_words}
use Rattle.mh_told.specs.declared.unplayable.Unplayable.{Unplayable}
use Rattle.mh_told.specs.Reading.{Source as File}
use Rattle.mh_verify.specs.declared.refusal.Refusal.{Refusal}
use Rattle.mh_verify.specs.Free.{most_cost}
use Rattle.mh_verify.specs.Order.{Names}

-- the service is accepted, the text has a line for each finding by the sets of what may come to be and for each note, and what is
-- found happens in no run
pub record IsLintOf (q : Asked) (v : Service) (fs : List File) (text : List ℕ) : Type 0 where
  pub accepted : IsAccepted most_cost v
  pub alive : Alive
  pub is : IsAliveOf v accepted.flow alive
  pub lines : text ≡ never_words v (accepted.flow).configs fs (findings q.all v (accepted.flow).configs alive) ++ notes_words q.allowed v fs (notes q.all fs v)
  pub never : Each (NeverHappens most_cost v accepted) (findings q.all v (accepted.flow).configs alive)

-- They are those of the service as which the files were read, with the built-in programs; and there are none only where they make
-- no service, or the verifier refuses it.
abbrev pub AreLinesOn : Asked → List File → Result Service Unplayable → Option (List ℕ) → Type 0
AreLinesOn q fs read (Some text) = (s : Service) × (read ≡ Ok s) × IsLintOf q (equipped s []) fs text
AreLinesOn q fs read None = (s : Service) → read ≡ Ok s → (r : Refusal) × Names s [] r
