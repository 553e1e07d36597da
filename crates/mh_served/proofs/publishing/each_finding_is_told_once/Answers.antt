use Rattle.mh_served.proofs.OnceLemmas.{told_once}
use Rattle.mh_served.proofs.publishing.each_finding_is_told_once.Goals as goal

pub returns : goal.returns
returns c = told_once
