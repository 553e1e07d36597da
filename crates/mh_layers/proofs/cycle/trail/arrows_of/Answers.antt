use Rattle.std.proofs.Common.{rules}
use Rattle.mh_layers.proofs.TrailLemmas.{arrows_all, arrows_more, step_at}
use Rattle.mh_layers.proofs.cycle.trail.arrows_of.Goals as goal

pub arrow_for-requires-clause-step : goal.arrow_for-requires-clause-step
arrow_for-requires-clause-step c = step_at c.args.numbered_service.now c.args.parts.now c.loop-part.part-index _ c.requires.steps c.loop-part-test.true

pub loop-part-preserved : goal.loop-part-preserved
loop-part-preserved c =
    arrows_more c.args.numbered_service.now c.args.parts.now c.loop-part.part-index _ c.in_ok-arrow_for.field-0 c.loop-part.arrows.items _
    c.loop-part-test.true c.loop-part.invariant c.in_ok-arrow_for.ensures c.in_ok-push.ensures.items

pub returns : goal.returns
returns c = arrows_all c.args.numbered_service.now c.args.parts.now c.loop-part.part-index c.loop-part.arrows.items (search rules) c.loop-part.invariant
