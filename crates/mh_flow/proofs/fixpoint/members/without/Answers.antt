use Rattle.mh_flow.proofs.BitLemmas.{without_bits}
use Rattle.mh_flow.proofs.fixpoint.members.without.Goals as goal

pub returns : goal.returns
returns c = without_bits c.args.bits c.args.known c.ranges.known.fits
