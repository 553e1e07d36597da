use Rattle.std.proofs.Common.{◌≡◌, drop}
use Rattle.std.specs.List.{flat_map}
use Rattle.indexmap.specs.IndexSet.{insert_all}
use Rattle.mh_alive.specs.Registers.{registers_by, same_register}
use Rattle.mh_alive.specs.There.{sets_there}
use Rattle.mh_alive.proofs.registers.put_sites.Given as goal

abbrev pub invariant-loop-site : goal.invariant-loop-site
invariant-loop-site l =
    insert_all same_register l.registers.keys (flat_map (λ x. registers_by (sets_there l.there) x.act) (drop l.site-index l.sites)) ≡ insert_all same_register l.initial.registers.keys (flat_map (λ x. registers_by (sets_there l.there) x.act) l.sites)
