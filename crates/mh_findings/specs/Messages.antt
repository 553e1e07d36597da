-- What is told of a finding in one sentence, in words of the finding.
use Rattle.std.specs.Prelude.{ℕ, List, [], ◌++◌, Option, Some, None, codes}
use Rattle.mh_findings.specs.declared.finding.Finding.{Finding}
use Rattle.mh_findings.specs.declared.finding.Grade.{Grade}
use Rattle.mh_findings.specs.declared.finding.Grade.TheVariants as grade

unfoldable pub grade_word : Grade → List ℕ
grade_word grade.Unread = codes "unread"
grade_word grade.Refused = codes "refused"
grade_word grade.Fault = codes "fault"
grade_word grade.Never = codes "never"
grade_word grade.Note = codes "note"

-- the grade and the rule, as in `refused V1`
unfoldable pub title : Finding → List ℕ
title f = grade_word f.grade ++ codes " " ++ f.rule

unfoldable pub mend_words : Option (List ℕ) → List ℕ
mend_words None = []
mend_words (Some mend) = codes "; " ++ mend

-- what is wrong, and the mend if there is one
unfoldable pub message : Finding → List ℕ
message f = f.what ++ mend_words f.mend
