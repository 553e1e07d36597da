use Rattle.std.proofs.Common.{rules}
use Rattle.mh_engine.proofs.SafeEngine.{keeps_posted, keeps_same}
use Rattle.mh_engine.proofs.engine.Engine.post.Goals as goal

pub invariant_of-self : goal.invariant_of-self
invariant_of-self c = keeps_posted _ _ _ _ _ _ c.args.input c.in-Ok.ensures.accepted c.in-Ok.ensures.posted (search rules) c.self.invariant

pub invariant_of-self-in-Err : goal.invariant_of-self-in-Err
invariant_of-self-in-Err c = keeps_same _ _ _ _ _ c.in-Err.ensures.kept c.self.invariant
