-- The forms in which a list of findings is told.
use Rattle.std.specs.Prelude.{ℕ, List}
use Rattle.mh_findings.specs.declared.finding.Finding.{Finding}
use Rattle.mh_findings.specs.declared.format.Format.{Format}
use Rattle.mh_findings.specs.declared.format.Format.TheVariants as format
use Rattle.mh_findings.specs.Github.{annotation}
use Rattle.mh_findings.specs.Json.{json_line}
use Rattle.mh_findings.specs.Short.{short_line}

-- what is told of one finding
unfoldable pub entry : Format → Finding → List ℕ
entry format.Short f = short_line f
entry format.Json f = json_line f
entry format.Github f = annotation f
