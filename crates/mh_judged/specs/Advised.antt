-- What is told of a finding: what is wrong, and how it is mended if that is known, in characters.
use Rattle.std.specs.Prelude.{ℕ, List, [], ◌++◌, Some, None}
use Rattle.std.specs.Option.{option_map_or}
use Rattle.std.specs.Str.Lossy.{utf8_lossy}
use Rattle.mh_findings.specs.declared.finding.Finding.{Finding}
use Rattle.mh_findings.specs.declared.finding.Grade.{Grade}
use Rattle.mh_findings.specs.declared.finding.Related.{Related}
use Rattle.mh_findings.specs.declared.finding.Site.{Site}
use Rattle.mh_judged.specs.declared.advice.Advice.{Advice}
use Rattle.mh_why.specs.Advice.{Row, cell, row_with}

abbrev pub advised : List ℕ → List ℕ → Advice
advised what mend = record { what = utf8_lossy what; mend = Some (utf8_lossy mend) }

-- no mend is known
abbrev pub stated : List ℕ → Advice
stated what = record { what = utf8_lossy what; mend = None }

-- a row of a table, behind these words
abbrev pub advised_by : List ℕ → Row → Advice
advised_by front row = advised (front ++ cell row 1) (cell row 2)

-- what a table has for a word, behind these words
abbrev pub advice_in : List Row → List ℕ → List ℕ → Advice
advice_in rows front word = option_map_or (advised_by front) (row_with rows word) (stated [])

-- the finding with this rule at this place
unfoldable pub found_as : Grade → List ℕ → Site → Advice → List Related → Finding
found_as grade rule at a related = record { grade = grade; rule = utf8_lossy rule; at = at; what = a.what; mend = a.mend; related = related }
