use Rattle.mh_engine.proofs.SafeEngine.{keeps_lenient}
use Rattle.mh_engine.proofs.engine.Engine.lenient.Goals as goal

pub invariant_of-result : goal.invariant_of-result
invariant_of-result c = keeps_lenient _ _
