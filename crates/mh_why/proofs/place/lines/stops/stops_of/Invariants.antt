use Rattle.std.proofs.Common.{◌≡◌, ◌+◌, All, length}
use Rattle.std.specs.List.{concat}
use Rattle.mh_why.specs.Lines.{IsStopOf}
use Rattle.mh_why.proofs.place.lines.stops.stops_of.Given as goal

abbrev pub invariant-loop-line : goal.invariant-loop-line
invariant-loop-line l = record {
  are : All (IsStopOf l.fn.text) l.stops.items;
  fits : l.start + length (concat l.line-iterator) ≡ length l.fn.text;
}
