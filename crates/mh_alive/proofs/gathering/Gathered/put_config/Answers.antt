use Rattle.mh_alive.proofs.GatheringLemmas.{config_gathered}
use Rattle.mh_alive.proofs.gathering.Gathered.put_config.Goals as goal

pub returns : goal.returns
returns c =
    config_gathered c.args.service.now c.args.flow.now c.args.config.now c.present-present.result c.in_ok-held.held _ _
    c.present-present.ensures c.in_ok-held.ensures.sets c.in_ok-put_present.ensures
