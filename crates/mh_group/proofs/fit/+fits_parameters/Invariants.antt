use Rattle.std.proofs.Common.{length}
use Rattle.mh_group.proofs.fit.+fits_parameters.Given as goal

abbrev pub decreases-fits_parameters : goal.decreases-fits_parameters
decreases-fits_parameters l = length l.needed.now
