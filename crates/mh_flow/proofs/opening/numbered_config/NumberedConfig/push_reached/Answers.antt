use Rattle.std.proofs.Common.{ap, ◌∙◌}
use Rattle.mh_flow.specs.Opening.{does_direct, held_first, present_in}
use Rattle.mh_flow.proofs.OpeningLemmas.{reached_put}
use Rattle.mh_flow.proofs.opening.numbered_config.NumberedConfig.push_reached.Goals as goal

pub returns : goal.returns
returns c =
    let p = c.args.self.now in
    reached_put (held_first p.service p.chart p.config p.bases) (λ a. does_direct p.service p.chart p.number p.config p.bases a a.target)
    c.args.items.now.items c.push_all_firsts.new.items.items c.push_all_firsts-2.new.items.items c.push_all_direct.new.items.items
    c.parts.result.0.now c.parts.result.1.now (present_in p) c.as_slice.result.now
    c.in_ok-push_all_firsts.ensures c.in_ok-push_all_firsts-2.ensures c.in_ok-push_all_direct.ensures
    (c.parts.ensures ∙ c.self.invariant.2 ∙ ap present_in c.self.view_is)
    (c.as_slice.ensures.value ∙ c.in_ok-sites.ensures)
