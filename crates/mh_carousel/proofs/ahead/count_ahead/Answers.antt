use Rattle.std.proofs.Common.{rules, arith}
use Rattle.mh_carousel.specs.Carried.{files_of}
use Rattle.mh_carousel.proofs.AheadLemmas.{counted_more, counted_all}
use Rattle.mh_carousel.proofs.ahead.count_ahead.Goals as goal

pub loop-place-preserved : goal.loop-place-preserved
loop-place-preserved c =
    (counted_more (files_of c.args.files.now.entries) c.args.queue.now.items c.loop-place.place c.loop-place.count c.more_at-count.result c.more_at-count.ensures.more c.loop-place.invariant.0, omega (arith, c.loop-place.invariant.1, c.more_at-count.ensures.small))

pub returns : goal.returns
returns c = counted_all (files_of c.args.files.now.entries) c.args.queue.now.items c.loop-place.place c.loop-place.count (search rules) c.loop-place.invariant.0
