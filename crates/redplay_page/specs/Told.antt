-- A text and the number that is answered with it, which is the exit status of the program that prints it.
use Rattle.std.specs.Prelude.{◌≡◌, ℕ, List, Result, Ok, Err}
use Rattle.mh_report.specs.Report.{exit_code}
use Rattle.mh_report.specs.declared.status.Status.{Status}
use Rattle.mh_told.specs.declared.unplayable.Unplayable.{Unplayable}
use Rattle.mh_verdict.specs.Lines.{complaint}

-- A report that is meant, and how it ends.
pub record IsEnded (Means : List ℕ → Status → Type 0) (text : List ℕ) (n : ℕ) : Type 0 where
  pub how : Status
  pub meant : Means text how
  pub number : n ≡ exit_code how

-- the text that was made, or the line on what cannot be read
abbrev pub IsGiven : Result (List ℕ) Unplayable → List ℕ → ℕ → Type 0
IsGiven (Ok x) text n = (text ≡ x) × (n ≡ 0)
IsGiven (Err why) text n = (text ≡ complaint why) × (n ≡ 2)
