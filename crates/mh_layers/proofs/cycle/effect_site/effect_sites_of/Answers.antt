use Rattle.std.proofs.Common.{rules, ◌∙◌, ap, List}
use Rattle.std.specs.List.{list_any}
use Rattle.std.specs.Ordering.{is_lt}
use Rattle.std.proofs.lemmas.List.Sorted.{answers_always, ranks_by}
use Rattle.mh_layers.specs.declared.cycle.effect_site.EffectSite.{EffectSite}
use Rattle.mh_layers.specs.EffectSites.{same_effect_site, effect_site_cmp}
use Rattle.mh_layers.proofs.EffectSiteLemmas.{are_effect_sites, effect_site_total}
use Rattle.mh_layers.proofs.cycle.effect_site.effect_sites_of.Goals as goal

pub returns : goal.returns
returns c =
    let facts = c.in_ok-sort_by.ensures in
    are_effect_sites c.args.numbered_service.now c.args.nodes.now c.sort_by.new.self.keys
    (facts.sorted (λ a b. is_lt (effect_site_cmp a b)) (ranks_by effect_site_total (λ (s : EffectSite). s)) (answers_always _ _ _ (λ f a r g called. search rules)))
    (λ s. facts.reordered.2 s ∙ ap (λ (xs : List EffectSite). list_any (same_effect_site s) xs) c.in_ok-effect_sites.ensures)
