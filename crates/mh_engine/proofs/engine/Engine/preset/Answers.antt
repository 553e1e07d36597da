use Rattle.mh_engine.proofs.SafeEngine.{keeps_either_preset}
use Rattle.mh_engine.proofs.engine.Engine.preset.Goals as goal

pub invariant_of-self : goal.invariant_of-self
invariant_of-self c =
    keeps_either_preset _ _ _ c.self.inside.machine c.preset.new.self c.args.file c.preset.result c.preset.ensures.preset c.preset.ensures.kept c.self.invariant
