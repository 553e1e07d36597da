use Rattle.std.proofs.Common.{◌≡◌, ◌-◌, All, drop}
use Rattle.mh_why.specs.Lines.{IsStop, IsStopOf}
use Rattle.mh_why.proofs.place.lines.stops.add_stops.Given as goal

abbrev pub invariant-loop-line : goal.invariant-loop-line
invariant-loop-line l = record {
  are : All (IsStopOf l.text) l.stops.items;
  is : IsStop (drop l.start l.text) l.stop;
  start : l.stop.start ≡ l.start;
}

abbrev pub decreases-loop-line : goal.decreases-loop-line
decreases-loop-line l = l.size - l.stop.before
