use Rattle.std.proofs.Common.{arith}
use Rattle.mh_told.proofs.MaskLemmas.{below_is}
use Rattle.mh_told.proofs.masks.below.Goals as goal

pub returns : goal.returns
returns c = below_is c.args.bits c.args.column (omega (arith, c.requires))
