use Rattle.mh_findings.proofs.LineLemmas.{lines_counted}
use Rattle.mh_findings.proofs.short.each_has_a_line.Goals as goal

pub returns : goal.returns
returns c = lines_counted
