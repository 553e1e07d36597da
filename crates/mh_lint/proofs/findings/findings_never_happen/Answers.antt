use Rattle.mh_lint.proofs.FindingLemmas.{findings_never}
use Rattle.mh_lint.proofs.findings.findings_never_happen.Goals as goal

pub returns : goal.returns
returns c = findings_never
