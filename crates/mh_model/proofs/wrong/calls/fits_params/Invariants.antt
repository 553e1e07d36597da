use Rattle.std.proofs.Common.{◌≡◌, length}
use Rattle.mh_model.specs.Programs.{fits_params}
use Rattle.mh_model.proofs.wrong.calls.fits_params.Given as goal

abbrev pub invariant-loop-param : goal.invariant-loop-param
invariant-loop-param l = fits_params l.params l.passed ≡ fits_params l.fn.params l.fn.passed

abbrev pub decreases-loop-param : goal.decreases-loop-param
decreases-loop-param l = length l.params
