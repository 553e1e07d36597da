use Rattle.std.proofs.Common.{◌∙◌}
use Rattle.mh_flow.specs.Solved.{flow_in}
use Rattle.mh_alive.proofs.GatheringLemmas.{all_gathered}
use Rattle.mh_alive.proofs.gathering.gather.Goals as goal

pub returns : goal.returns
returns c =
    all_gathered c.args.service.now (flow_in c.args.service.now c.args.flow.now) _ _ c.as_slice.result.now c.new-gathered.ensures
    (c.as_slice.ensures.value ∙ c.in_ok-configs.ensures) c.in_ok-put_configs.ensures
