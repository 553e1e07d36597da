use Rattle.mh_layers.proofs.SetTimerLemmas.{set_there}
use Rattle.mh_layers.proofs.numbered.timers.push_config.Goals as goal

pub returns : goal.returns
returns c =
    set_there c.args.service.now c.args.flow.now c.args.config.now c.present-present.result c.args.held.now c.args.timers.now.items c.push_active.new.timers.items
    c.present-present.ensures c.requires.held c.in_ok-push_active.ensures
