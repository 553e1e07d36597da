use Rattle.mh_engine.proofs.SafeEngine.{keeps_either, kept_safe}
use Rattle.mh_engine.proofs.engine.Engine.advance.Goals as goal

pub advance_by-made-requires : goal.advance_by-made-requires
advance_by-made-requires c = record { safe = kept_safe _ c.self.invariant }

pub invariant_of-self : goal.invariant_of-self
invariant_of-self c =
    keeps_either c.args.most _ _ _ c.self.inside.machine c.advance_by-made.new.machine c.advance_by-made.result c.advance_by-made.ensures.all c.advance_by-made.ensures.some c.self.invariant
