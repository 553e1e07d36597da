use Rattle.std.proofs.Common.{◌≡◌, ◌++◌, drop}
use Rattle.std.specs.List.{flat_map}
use Rattle.mh_alive.specs.Hearing.{settings_by}
use Rattle.mh_alive.specs.There.{sets_there}
use Rattle.mh_alive.proofs.settings.push_sites.Given as goal

abbrev pub invariant-loop-site : goal.invariant-loop-site
invariant-loop-site l =
    l.settings.items ++ flat_map (λ x. settings_by (sets_there l.there) l.part x.act) (drop l.site-index l.sites) ≡ l.initial.settings.items ++ flat_map (λ x. settings_by (sets_there l.there) l.part x.act) l.sites
