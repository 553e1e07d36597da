use Rattle.std.proofs.Common.{◌≡◌, ◌-◌, length}
use Rattle.mh_misread.specs.Resuming.{from_brace, from_brace_by}
use Rattle.mh_misread.proofs.resuming.from_brace.Given as goal

abbrev pub invariant-loop : goal.invariant-loop
invariant-loop l = from_brace_by (length l.bytes - l.counter) l.left ≡ from_brace l.fn.bytes
