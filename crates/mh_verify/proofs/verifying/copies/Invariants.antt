use Rattle.std.proofs.Common.{◌≡◌, ◌++◌, drop}
use Rattle.mh_verify.proofs.verifying.copies.Given as goal

abbrev pub invariant-loop-program : goal.invariant-loop-program
invariant-loop-program l = l.copies.items ++ drop l.program-index l.programs ≡ l.programs
