use Rattle.std.proofs.Common.{◌≡◌, drop}
use Rattle.std.specs.List.{flat_map}
use Rattle.indexmap.specs.IndexSet.{insert_all}
use Rattle.mh_model.specs.Reference.{same_key}
use Rattle.mh_alive.specs.Runners.{run_by}
use Rattle.mh_alive.specs.There.{sets_there}
use Rattle.mh_alive.proofs.runners.put_sites.Given as goal

abbrev pub invariant-loop-site : goal.invariant-loop-site
invariant-loop-site l =
    insert_all same_key l.runners.keys (flat_map (λ x. run_by (sets_there l.there) x.act) (drop l.site-index l.sites)) ≡ insert_all same_key l.initial.runners.keys (flat_map (λ x. run_by (sets_there l.there) x.act) l.sites)
