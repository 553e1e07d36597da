use Rattle.std.proofs.Common.{◌≡◌, ◌+◌, drop}
use Rattle.mh_protocol.specs.Positions.{reach}
use Rattle.mh_protocol.proofs.position.reach.Given as goal

abbrev pub invariant-loop-index : goal.invariant-loop-index
invariant-loop-index l = l.index + reach l.unit l.left (drop l.index l.line) ≡ reach l.unit l.units l.line
