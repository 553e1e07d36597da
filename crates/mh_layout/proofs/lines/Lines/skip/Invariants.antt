use Rattle.std.proofs.Common.{◌≡◌, drop}
use Rattle.mh_layout.proofs.lines.Lines.skip.Given as goal

abbrev pub invariant-loop : goal.invariant-loop
invariant-loop l = l.self ≡ drop l.counter l.initial.self
