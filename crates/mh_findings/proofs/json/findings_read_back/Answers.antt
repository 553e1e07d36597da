use Rattle.mh_findings.proofs.JsonLemmas.{reads_back}
use Rattle.mh_findings.proofs.json.findings_read_back.Goals as goal

pub returns : goal.returns
returns c = reads_back
