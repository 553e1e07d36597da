use Rattle.std.proofs.Common.{◌≡◌, ◌+◌, drop}
use Rattle.mh_protocol.specs.Positions.{line_start}
use Rattle.mh_protocol.proofs.position.line_start.Given as goal

abbrev pub invariant-loop-index : goal.invariant-loop-index
invariant-loop-index l = l.index + line_start l.left (drop l.index l.text) ≡ line_start l.line l.text
