use Rattle.mh_findings.proofs.AnnotationLemmas.{one_line}
use Rattle.mh_findings.proofs.github.each_has_an_annotation.Goals as goal

pub returns : goal.returns
returns c = one_line
