-- What is found of the files of a folder.
use Rattle.std.specs.Prelude.{◌≡◌, ℕ, List, [], ◌∷◌, Result, Ok, Err}
use Rattle.mh_findings.specs.declared.finding.Finding.{Finding}
use Rattle.mh_flow.specs.Equipment.{equipped}
use Rattle.mh_lint.specs.declared.lint.Asked.{Asked}
use Rattle.mh_model.specs.Service.{Service}
use Rattle.mh_refusals.specs.declared.told.Told.{Told}
use Rattle.mh_refusals.specs.Listed.{AreRefusals}
use Rattle.mh_told.specs.Reading.{Source as File}
use Rattle.mh_told.specs.declared.unplayable.Unplayable.{Unplayable}
use Rattle.mh_verify.specs.declared.refusal.Refusal.{Refusal}
use Rattle.mh_verify.specs.Order.{Names}
use Rattle.mh_judged.specs.Accepted.{IsAcceptedList}
use Rattle.mh_judged.specs.Others.{told_findings}
use Rattle.mh_judged.specs.Refusals.{refusal_finding}
use Rattle.mh_judged.specs.Unread.{unread_findings}

-- the refusal comes first, and behind it stands what is wrong at other places, at most so many in all
pub record IsListBehind (most : ℕ) (folder : List ℕ) (fs : List File) (start : List ℕ) (r : Refusal) (found : List Finding) : Type 0 where
  pub told : List Told
  pub all : AreRefusals (equipped r.service []) most told
  pub list : found ≡ refusal_finding folder fs start r ∷ told_findings r.service folder fs told

-- the refusal is the verifier's own
pub record IsRefusedList (most : ℕ) (v : Service) (folder : List ℕ) (fs : List File) (start : List ℕ) (found : List Finding) : Type 0 where
  pub refusal : Refusal
  pub names : Names v [] refusal
  pub list : IsListBehind most folder fs start refusal found

-- of a service: what the verifier refuses, with the built-in programs alone; or if it accepts it, what never happens and the notes
pub data IsServiceList (q : Asked) (most : ℕ) (v : Service) (folder : List ℕ) (fs : List File) (start : List ℕ) (found : List Finding) : Type 0 where
  refused : IsRefusedList most v folder fs start found → IsServiceList q most v folder fs start found
  accepted : IsAcceptedList q (equipped v []) folder fs found → IsServiceList q most v folder fs start found

-- by what the files were read as, where tags are given by a file of this path
abbrev pub IsListOf : Asked → ℕ → List ℕ → List ℕ → List File → List ℕ → Result Service Unplayable → List Finding → Type 0
IsListOf q most given folder fs start (Err why) found = found ≡ unread_findings given folder fs why
IsListOf q most given folder fs start (Ok v) found = IsServiceList q most v folder fs start found
