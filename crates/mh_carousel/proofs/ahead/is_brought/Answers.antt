use Rattle.std.proofs.Common.{rules}
use Rattle.mh_carousel.proofs.AheadLemmas.{one_brings, none_brings, none_brought}
use Rattle.mh_carousel.proofs.ahead.is_brought.Goals as goal

pub returns-then-brings : goal.returns-then-brings
returns-then-brings c = one_brings c.args.name.now c.args.queue.now.items c.loop-place.place c.args.count _ (search rules) c.at.ensures c.if-brings.ensures c.loop-place.invariant

pub loop-place-preserved : goal.loop-place-preserved
loop-place-preserved c = none_brings c.args.name.now c.args.queue.now.items c.loop-place.place c.args.count _ (search rules) c.at.ensures c.if-brings.ensures c.loop-place.invariant

pub returns : goal.returns
returns c = none_brought c.args.name.now c.args.queue.now.items c.loop-place.place c.args.count (search rules) c.loop-place.invariant
