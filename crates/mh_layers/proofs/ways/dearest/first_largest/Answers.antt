use Rattle.std.proofs.Common.{rules}
use Rattle.mh_layers.proofs.DearestLemmas.{largest_all}
use Rattle.mh_layers.proofs.ways.dearest.first_largest.Goals as goal

pub returns : goal.returns
returns c = largest_all c.args.numbers.now c.loop-place.place c.loop-place.best (search rules) c.loop-place.invariant
