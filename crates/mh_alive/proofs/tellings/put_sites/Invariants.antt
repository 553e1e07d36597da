use Rattle.std.proofs.Common.{◌≡◌, drop}
use Rattle.std.specs.List.{flat_map}
use Rattle.indexmap.specs.IndexSet.{insert_all}
use Rattle.mh_alive.specs.Tellings.{same_telling, told_by}
use Rattle.mh_alive.specs.There.{sets_there}
use Rattle.mh_alive.proofs.tellings.put_sites.Given as goal

abbrev pub invariant-loop-site : goal.invariant-loop-site
invariant-loop-site l =
    insert_all same_telling l.told.keys (flat_map (λ x. told_by (sets_there l.there) x.act) (drop l.site-index l.sites)) ≡ insert_all same_telling l.initial.told.keys (flat_map (λ x. told_by (sets_there l.there) x.act) l.sites)
