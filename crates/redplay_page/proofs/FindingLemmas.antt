-- The lines of what is found.
use Rattle.std.specs.Prelude.{◌≡◌, ℕ, Bool, List, [], Some, None, Result, Ok, Err, IfOk}
use Rattle.mh_crossing.specs.Files.{File}
use Rattle.mh_findings.specs.declared.finding.Finding.{Finding}
use Rattle.mh_judged.specs.Judged.{IsListOf}
use Rattle.mh_told.specs.Reading.{service_tagged}
use Rattle.redplay_page.specs.Findings.{AreFindings, asked_for, lines_of, most_refusals}
use Rattle.redplay_page.specs.declared.told.Told.{Told}

pub found_so : {E : Type 0} (folder start late : List ℕ) (every : Bool) (files : List File) (found : List Finding) (r : Result Told E) → IsListOf (asked_for every) most_refusals [] folder files start (service_tagged None start (Some late) files) found
    → IfOk r (λ t. t.bytes.items ≡ lines_of found) → IfOk r (λ t. t.number ≡ 0) → IfOk r (λ t. AreFindings folder start late every files t.bytes.items t.number)
found_so folder start late every files found (Err e) listed bytes number = tt
found_so folder start late every files found (Ok t) listed bytes number = record { found = found; listed = listed; told = bytes; number = number }
