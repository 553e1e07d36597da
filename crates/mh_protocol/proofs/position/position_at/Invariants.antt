use Rattle.std.proofs.Common.{◌≡◌, ◌*◌, ◌≤◌, drop}
use Rattle.mh_protocol.specs.Positions.{position_in}
use Rattle.mh_protocol.specs.Counting.{onto}
use Rattle.mh_protocol.proofs.position.position_at.Given as goal

abbrev pub invariant-loop-index : goal.invariant-loop-index
invariant-loop-index l = record {
  lines : l.at.line ≤ l.index;
  units : l.at.character ≤ 2 * l.index;
  is : onto l.at (position_in l.unit l.left (drop l.index l.text)) ≡ position_in l.unit l.offset l.text;
}
