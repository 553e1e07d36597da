use Rattle.std.proofs.Common.{◌∷◌, ◌+◌, drop, sym, ap, ◌∙◌}
use Rattle.mh_model.specs.declared.object.Fixed.{Fixed}
use Rattle.mh_flow.specs.Chart.{held_of, targeted_of}
use Rattle.mh_flow.proofs.ChartLemmas.{part_more}
use Rattle.mh_flow.proofs.SiteLemmas.{drop_next}
use Rattle.mh_flow.proofs.references.put_parts.Goals as goal

pub loop-part-preserved : goal.loop-part-preserved
loop-part-preserved c =
    let ps = c.args.parts.now in
    let n = c.loop-part.part-index in
    let more = sym (drop_next ps n c.part-item.result c.loop-part-test.true c.part-item.is) ∙ ap (λ (p : Fixed). p ∷ drop (n + 1) ps) (sym c.get.ensures) in (
      part_more held_of c.loop-part.held.keys c.put_part.new.held.keys c.get.result.now (drop (n + 1) ps) (drop n ps) c.in_ok-put_part.ensures.held more ∙ c.loop-part.invariant.0,
      part_more targeted_of c.loop-part.targeted.keys c.put_part.new.targeted.keys c.get.result.now (drop (n + 1) ps) (drop n ps) c.in_ok-put_part.ensures.targeted more ∙ c.loop-part.invariant.1,
    )
