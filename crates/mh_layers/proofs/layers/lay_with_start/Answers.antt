use Rattle.std.proofs.Common.{refl}
use Rattle.mh_layers.specs.declared.laying.LayersError.TheVariants as error
use Rattle.mh_layers.proofs.LayeredLemmas.{other_err}
use Rattle.mh_layers.proofs.layers.lay_with_start.Goals as goal

pub returns-in-Err-clause-cycle : goal.returns-in-Err-clause-cycle
returns-in-Err-clause-cycle c = λ h. c.lay_roots.ensures.cycle (other_err _ c.lay_roots.result c.in-Err.why error.Cycle refl h c.in-Err.is)

pub returns-in-Err-clause-looped : goal.returns-in-Err-clause-looped
returns-in-Err-clause-looped c = λ h. c.lay_roots.ensures.looped (other_err _ c.lay_roots.result c.in-Err.why error.Cycle refl h c.in-Err.is)
