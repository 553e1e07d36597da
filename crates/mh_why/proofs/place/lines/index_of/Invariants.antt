use Rattle.std.proofs.Common.{◌<◌, ◌≤◌, ◌-◌, slice_index}
use Rattle.mh_why.proofs.place.lines.index_of.Given as goal

abbrev pub invariant-loop-low : goal.invariant-loop-low
invariant-loop-low l = record {
  rising : l.low < l.high;
  within : l.high ≤ l.count;
  begun : slice_index l.starts l.low ≤ l.offset;
  before : l.high < l.count → l.offset < slice_index l.starts l.high;
}

abbrev pub decreases-loop-low : goal.decreases-loop-low
decreases-loop-low l = l.high - l.low
