use Rattle.mh_flow.specs.Solved.{flow_in}
use Rattle.mh_alive.proofs.GatheringLemmas.{alive_is}
use Rattle.mh_alive.proofs.alive.alive_of.Goals as goal

pub returns : goal.returns
returns c = alive_is c.args.service.now (flow_in c.args.service.now c.args.flow.now) _ _ c.in_ok-gathered.ensures c.in_ok-alive.ensures
