use Rattle.mh_layers.proofs.LayingLemmas.{grows_on, placed_grows, placed_layers, placed_more}
use Rattle.mh_layers.proofs.laying.Laying.places.Goals as goal

pub loop-root-preserved : goal.loop-root-preserved
loop-root-preserved g c = (
  placed_layers _ _ _ _ _ _ c.in_ok-place.ensures.placed c.loop-root.invariant.0,
  grows_on _ _ _ c.loop-root.invariant.1 (placed_grows _ _ _ _ c.in_ok-place.ensures.placed),
  placed_more c.args.roots.now _ _ c.loop-root.root-index _ _ c.loop-root-test.true c.loop-root.invariant.2 c.in_ok-place.ensures.placed,
)
