use Rattle.mh_engine.proofs.SafeEngine.{keeps_told}
use Rattle.mh_engine.proofs.engine.Engine.hear.Goals as goal

pub invariant_of-self : goal.invariant_of-self
invariant_of-self c = keeps_told _ _ _ _ _ c.args.said c.hear.ensures.told c.self.invariant
