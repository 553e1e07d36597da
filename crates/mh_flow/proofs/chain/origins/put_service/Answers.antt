use Rattle.std.proofs.Common.{List, ap, ◌∙◌}
use Rattle.std.specs.List.{flat_map}
use Rattle.mh_model.specs.declared.object.Fixed.{Fixed}
use Rattle.mh_flow.specs.Chart.{with_references}
use Rattle.mh_flow.specs.Origins.{begun_by}
use Rattle.mh_flow.proofs.ChartLemmas.{parts_all, parts_more}
use Rattle.mh_flow.proofs.chain.origins.put_service.Goals as goal

pub loop-parts-init : goal.loop-parts-init
loop-parts-init c =
    ap (λ (ps : List Fixed). with_references c.args.begun.now.keys (flat_map (begun_by c.args.link.now) ps))
    (ap (flat_map (λ (ps : List Fixed). ps)) (c.into_iter-parts-iterator.ensures.into_iter_gives ∙ c.values-parts-items.ensures.rest) ∙ parts_all c.groups.result.now.entries ∙ ap (flat_map (λ g. g.1)) c.groups.ensures.entries)

pub loop-parts-preserved : goal.loop-parts-preserved
loop-parts-preserved c =
    let old = c.loop-parts.begun.keys in
    let by = begun_by c.args.link.now in
    parts_more by old c.put_parts.new.begun.keys c.in-Some.parts.now c.next.new.self c.loop-parts.parts-iterator (c.in_ok-put_parts.ensures ∙ ap (λ (xs : List Fixed). with_references old (flat_map by xs)) c.as_slice.ensures) c.in-Some.ensures.steps ∙ c.loop-parts.invariant
