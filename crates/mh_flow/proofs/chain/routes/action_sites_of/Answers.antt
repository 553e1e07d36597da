use Rattle.std.proofs.Common.{rules, ◌∙◌, ap, List}
use Rattle.std.specs.List.{list_any}
use Rattle.std.proofs.lemmas.List.Sorted.{answers_always, ranks_by}
use Rattle.std.specs.Ordering.{is_lt}
use Rattle.mh_flow.specs.declared.chain.moves.ActionSite.{ActionSite}
use Rattle.mh_flow.specs.Routes.{action_site_cmp, same_action_site}
use Rattle.mh_flow.proofs.ChainNumberLemmas.{are_action_sites, action_site_total}
use Rattle.mh_flow.proofs.chain.routes.action_sites_of.Goals as goal

pub returns : goal.returns
returns c =
    let facts = c.in_ok-sort_by.ensures in
    are_action_sites c.args.moves.now c.sort_by.new.self.keys
    (facts.sorted (λ a b. is_lt (action_site_cmp a b)) (ranks_by action_site_total (λ (s : ActionSite). s)) (answers_always _ _ _ (λ f a r g called. search rules)))
    (λ s. facts.reordered.2 s ∙ ap (λ (xs : List ActionSite). list_any (same_action_site s) xs) c.in_ok-action_sites.ensures)
