use Rattle.std.proofs.Common.{◌≡◌, ◌++◌, drop}
use Rattle.std.specs.List.{flat_map}
use Rattle.mh_layers.specs.SetTimers.{set_here, sets_there}
use Rattle.mh_layers.proofs.numbered.timers.push_sites.Given as goal

abbrev pub invariant-loop-site : goal.invariant-loop-site
invariant-loop-site l =
    l.timers.items ++ flat_map (λ x. set_here (sets_there l.here) x.act) (drop l.site-index l.sites)
    ≡ l.initial.timers.items ++ flat_map (λ x. set_here (sets_there l.here) x.act) l.sites
