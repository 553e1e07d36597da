use Rattle.mh_layers.proofs.LayeredLemmas.{config_pushed}
use Rattle.mh_layers.proofs.laying.roots.push_config.Goals as goal

pub returns : goal.returns
returns c =
    config_pushed c.args.numbered_service.now c.args.config.now c.config_number-number.result c.present-present.result c.parts.result.0.now c.parts.result.1.now c.args.nodes.now.items c.push_active.new.nodes.items c.push_active-2.new.nodes.items
    c.config_number-number.ensures c.present-present.ensures c.parts.ensures c.in_ok-push_active.ensures c.in_ok-push_active-2.ensures
