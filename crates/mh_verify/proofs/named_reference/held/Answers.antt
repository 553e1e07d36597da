use Rattle.mh_flow.specs.Solved.{flow_in}
use Rattle.mh_verify.proofs.SoonestLemmas.{some_best, named_best}
use Rattle.mh_verify.proofs.named_reference.held.Goals as goal

-- what was found is a candidate itself
pub unreachable-requires-in-None : goal.unreachable-requires-in-None
unreachable-requires-in-None g c =
    some_best g.R.Rank.order c.args.service.now (flow_in c.args.service.now c.args.flow.now) c.args.found.now c.requires.candidates c.in-Some.holder c.in_ok-coming.field-0 c.in-Some.is c.in_ok-coming.ensures c.in-None.is

pub returns : goal.returns
returns g c =
    named_best g.R.Rank.order c.args.service.now (flow_in c.args.service.now c.args.flow.now) c.args.found.now c.requires.candidates c.in-Some.holder c.in_ok-coming.field-0 c.in-Some-2.coming c.in-Some.is c.in_ok-coming.ensures c.in-Some-2.is
