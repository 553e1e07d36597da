use Rattle.std.proofs.Common.{◌∙◌}
use Rattle.mh_layers.specs.SetTimers.{sets_there}
use Rattle.mh_layers.proofs.SetTimerLemmas.{set_active}
use Rattle.mh_layers.proofs.numbered.timers.push_active.Goals as goal

pub returns : goal.returns
returns c =
    set_active (sets_there (record { present = c.args.present.now; lists = c.args.held.now })) c.args.present.now c.as_slice.result.now c.args.timers.now.items c.push_sites.new.timers.items
    (c.as_slice.ensures.value ∙ c.in_ok-sites.ensures) c.in_ok-push_sites.ensures
