use Rattle.std.proofs.Common.{refl}
use Rattle.mh_layers.specs.declared.laying.LayersError.TheVariants as error
use Rattle.mh_layers.proofs.LayeredLemmas.{other_err}
use Rattle.mh_layers.proofs.ways.ways_by.Goals as goal

pub returns-in-Err-clause-cycle : goal.returns-in-Err-clause-cycle
returns-in-Err-clause-cycle c = λ h. c.lay_roots.ensures.cycle (other_err _ c.lay_roots.result c.in-Err.why error.Cycle refl h c.in-Err.is)
