use Rattle.std.proofs.Common.{List, ap, ◌∙◌}
use Rattle.std.specs.List.{flat_map}
use Rattle.mh_model.specs.declared.object.Fixed.{Fixed}
use Rattle.mh_flow.specs.Chart.{held_of, targeted_of, with_references}
use Rattle.mh_flow.proofs.ChartLemmas.{parts_all, parts_more}
use Rattle.mh_flow.proofs.references.put_service.Goals as goal

pub loop-parts-init : goal.loop-parts-init
loop-parts-init c =
    let all = ap (flat_map (λ (ps : List Fixed). ps)) (c.into_iter-parts-iterator.ensures.into_iter_gives ∙ c.values-parts-items.ensures.rest) ∙ parts_all c.groups.result.now.entries ∙ ap (flat_map (λ g. g.1)) c.groups.ensures.entries in (
      ap (λ (ps : List Fixed). with_references c.args.held.now.keys (flat_map held_of ps)) all,
      ap (λ (ps : List Fixed). with_references c.args.targeted.now.keys (flat_map targeted_of ps)) all,
    )

pub loop-parts-preserved : goal.loop-parts-preserved
loop-parts-preserved c =
    let ps = c.in-Some.parts.now in
    let held = c.loop-parts.held.keys in
    let targeted = c.loop-parts.targeted.keys in (
      parts_more held_of held c.put_parts.new.held.keys ps c.next.new.self c.loop-parts.parts-iterator (c.in_ok-put_parts.ensures.held ∙ ap (λ (xs : List Fixed). with_references held (flat_map held_of xs)) c.as_slice.ensures) c.in-Some.ensures.steps ∙ c.loop-parts.invariant.0,
      parts_more targeted_of targeted c.put_parts.new.targeted.keys ps c.next.new.self c.loop-parts.parts-iterator (c.in_ok-put_parts.ensures.targeted ∙ ap (λ (xs : List Fixed). with_references targeted (flat_map targeted_of xs)) c.as_slice.ensures) c.in-Some.ensures.steps ∙ c.loop-parts.invariant.1,
    )
