-- All lines on a service.
use Rattle.std.specs.Prelude.{◌≡◌, ℕ, Bool, List, ◌++◌}
use Rattle.mh_laws.specs.Flow.{Flow}
use Rattle.mh_model.specs.Service.{Service}
use Rattle.mh_told.specs.Reading.{Source}
use Rattle.mh_alive.specs.Alive.{Alive, IsAliveOf}
use Rattle.mh_lint.specs.declared.lint.Asked.{Asked}
use Rattle.mh_lint.specs.Findings.{findings}
use Rattle.mh_lint.specs.NoteLines.{notes_words}
use Rattle.mh_lint.specs.Notes.{notes}
use Rattle.mh_lint.specs.Telling.{never_words}

-- the text has the lines of what never happens in the service by its flow: of the roots, or of all
pub record IsNeverText (all : Bool) (v : Service) (w : Flow) (fs : List Source) (text : List ℕ) : Type 0 where
  pub alive : Alive
  pub is : IsAliveOf v w alive
  pub lines : text ≡ never_words v w.configs fs (findings all v w.configs alive)

-- and then those of notes
pub record IsLintText (q : Asked) (v : Service) (w : Flow) (fs : List Source) (text : List ℕ) : Type 0 where
  pub alive : Alive
  pub is : IsAliveOf v w alive
  pub lines : text ≡ never_words v w.configs fs (findings q.all v w.configs alive) ++ notes_words q.allowed v fs (notes q.all fs v)
