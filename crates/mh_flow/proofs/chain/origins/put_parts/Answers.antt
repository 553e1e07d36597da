use Rattle.std.proofs.Common.{◌∷◌, ◌+◌, drop, sym, ap, ◌∙◌}
use Rattle.mh_model.specs.declared.object.Fixed.{Fixed}
use Rattle.mh_flow.specs.Origins.{begun_by}
use Rattle.mh_flow.proofs.ChartLemmas.{part_more}
use Rattle.mh_flow.proofs.SiteLemmas.{drop_next}
use Rattle.mh_flow.proofs.chain.origins.put_parts.Goals as goal

pub loop-part-preserved : goal.loop-part-preserved
loop-part-preserved c =
    let ps = c.args.parts.now in
    let n = c.loop-part.part-index in
    let more = sym (drop_next ps n c.part-item.result c.loop-part-test.true c.part-item.is) ∙ ap (λ (p : Fixed). p ∷ drop (n + 1) ps) (sym c.get.ensures) in
    part_more (begun_by c.args.link.now) c.loop-part.begun.keys c.put_part.new.begun.keys c.get.result.now (drop (n + 1) ps) (drop n ps) c.in_ok-put_part.ensures more ∙ c.loop-part.invariant
