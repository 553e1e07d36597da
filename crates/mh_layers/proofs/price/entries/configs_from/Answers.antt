use Rattle.mh_laws.specs.Flow.{reached}
use Rattle.mh_layers.specs.Reading.{flow_read}
use Rattle.mh_layers.proofs.NamesLemmas.{item_passes}
use Rattle.mh_layers.proofs.price.entries.configs_from.Goals as goal

pub fired_in-requires : goal.fired_in-requires
fired_in-requires g c =
    item_passes (reached (flow_read c.args.numbered_service.now)) c.args.configs.now c.loop-config.config-index c.config-item.result c.loop-config-test.true c.config-item.is c.requires
