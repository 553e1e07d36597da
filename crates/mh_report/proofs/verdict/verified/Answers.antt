use Rattle.mh_report.proofs.PlainLemmas.{same_service, accepted_service}
use Rattle.mh_report.proofs.verdict.verified.Goals as goal

pub returns-clause-same : goal.returns-clause-same
returns-clause-same c = same_service c.args.service c.verify.result c.requires c.verify.ensures.same

pub returns-clause-accepted : goal.returns-clause-accepted
returns-clause-accepted c = accepted_service c.args.service c.verify.result c.requires c.verify.ensures.same c.verify.ensures.verified
