use Rattle.std.proofs.Common.{rules, arith}
use Rattle.mh_trace.proofs.PlaceLemmas.{next_place}
use Rattle.mh_trace.proofs.sites.push_places.Goals as goal

pub loop-index-preserved : goal.loop-index-preserved
loop-index-preserved c =
    next_place c.args.object.now c.args.kind c.loop-index.index c.args.acts.now _ _ _ (search rules) (search rules) c.loop-index.invariant
