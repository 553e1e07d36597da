use Rattle.std.proofs.Common.{◌≡◌, ◌-◌, None}
use Rattle.mh_protocol.specs.Heads.{head_in}
use Rattle.mh_protocol.proofs.head.head_in.Given as goal

abbrev pub invariant-loop : goal.invariant-loop
invariant-loop l = head_in (l.lines - l.counter) l.length l.rest ≡ head_in l.lines None l.fn.bytes
