use Rattle.std.proofs.Common.{subst}
use Rattle.mh_flow.specs.Solved.{flow_in}
use Rattle.mh_verify.specs.Least.{IsJudged}
use Rattle.mh_verify.proofs.RefusalLemmas.{acceptable_by}
use Rattle.mh_verify.proofs.verifying.verdict_of.Goals as goal

-- nothing is wrong in what is reached
pub bound-requires-clause-acceptable : goal.bound-requires-clause-acceptable
bound-requires-clause-acceptable c =
    let s = c.args.service.now in
    let w = flow_in s c.args.flow.now in
    acceptable_by s w c.requires.chart.service c.requires.least (subst (IsJudged s w) c.in-None.is c.in_ok-found.ensures)
