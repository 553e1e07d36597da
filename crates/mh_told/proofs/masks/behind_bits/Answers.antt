use Rattle.mh_told.proofs.MaskLemmas.{behind_is}
use Rattle.mh_told.proofs.masks.behind_bits.Goals as goal

pub returns : goal.returns
returns c = behind_is c.args.bits c.ranges.bits.fits
