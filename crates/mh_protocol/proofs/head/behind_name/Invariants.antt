use Rattle.std.proofs.Common.{◌≡◌, length}
use Rattle.mh_protocol.specs.Heads.{behind_name}
use Rattle.mh_protocol.proofs.head.behind_name.Given as goal

abbrev pub invariant-loop-wanted : goal.invariant-loop-wanted
invariant-loop-wanted l = behind_name l.left l.rest ≡ behind_name l.fn.name l.fn.line

abbrev pub decreases-loop-wanted : goal.decreases-loop-wanted
decreases-loop-wanted l = length l.left
