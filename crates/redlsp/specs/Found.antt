-- What is found of the files of a folder, whose service starts with the application of the name a, with all its scenes there.
use Rattle.std.specs.Prelude.{ℕ, false, List, [], None, codes}
use Rattle.mh_answers.specs.Objects.{Source}
use Rattle.mh_findings.specs.declared.finding.Finding.{Finding}
use Rattle.mh_judged.specs.Judged.{IsListOf}
use Rattle.mh_lint.specs.declared.lint.Asked.{Asked}
use Rattle.mh_told.specs.Reading.{service_tagged}
use Rattle.redlsp.specs.declared.rules.TheConstants.{MOST_REFUSALS, NONE_ALLOWED}

abbrev pub asked : Asked
asked = record { all = false; allowed = NONE_ALLOWED }

-- what redlook check lists of them
abbrev pub IsFound : List ℕ → List Source → List Finding → Type 0
IsFound folder fs found = IsListOf asked MOST_REFUSALS [] folder fs (codes "a") (service_tagged None (codes "a") None fs) found
