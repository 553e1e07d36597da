use Rattle.std.proofs.Common.{arith}
use Rattle.std.proofs.lemmas.Nat.{one_shl}
use Rattle.mh_display.proofs.cells.bit.Goals as goal

pub returns : goal.returns
returns c = one_shl c.args.column 64 (omega (arith, c.requires))
