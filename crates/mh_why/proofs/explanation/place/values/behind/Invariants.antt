use Rattle.std.proofs.Common.{◌≡◌, ◌-◌, length}
use Rattle.mh_why.specs.Values.{behind, behind_by}
use Rattle.mh_why.proofs.explanation.place.values.behind.Given as goal

abbrev pub invariant-loop : goal.invariant-loop
invariant-loop l = behind_by (length l.bytes - l.counter) l.depth l.left ≡ behind l.fn.bytes
