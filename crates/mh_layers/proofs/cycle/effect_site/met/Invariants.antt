use Rattle.std.proofs.Common.{◌≡◌, [], drop, map}
use Rattle.indexmap.specs.IndexSet.{insert_all}
use Rattle.mh_layers.specs.EffectSites.{same_effect_site, effect_site_named}
use Rattle.mh_layers.proofs.cycle.effect_site.met.Given as goal

abbrev pub invariant-loop-node : goal.invariant-loop-node
invariant-loop-node l =
    insert_all same_effect_site l.effect_sites.keys (map (effect_site_named l.numbered_service) (drop l.node-index l.nodes))
    ≡ insert_all same_effect_site [] (map (effect_site_named l.numbered_service) l.nodes)
