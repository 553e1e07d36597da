use Rattle.std.proofs.Common.{◌≡◌, ◌++◌, replicate}
use Rattle.mh_why.proofs.place.put_repeated.Given as goal

abbrev pub invariant-loop : goal.invariant-loop
invariant-loop l = l.text ≡ l.initial.text ++ replicate l.counter l.byte
