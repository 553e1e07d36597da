use Rattle.std.proofs.Common.{rules}
use Rattle.mh_layers.proofs.WayLemmas.{ways_more}
use Rattle.mh_layers.proofs.ways.ways_of.Goals as goal

pub loop-kind-preserved : goal.loop-kind-preserved
loop-kind-preserved c =
    ways_more _ c.args.kinds.now c.loop-kind.kind-index _ _ _ _ c.loop-kind-test.true c.loop-kind.invariant c.in_ok-way_of.ensures (search rules)
