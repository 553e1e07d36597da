use Rattle.std.proofs.Common.{subst}
use Rattle.mh_engine.specs.Play.{IsKept}
use Rattle.mh_engine.proofs.SafeEngine.{kept_budget, kept_front, kept_faults, kept_within}
use Rattle.mh_engine.proofs.engine.Engine.vouch.Goals as goal

pub returns-clause-never : goal.returns-clause-never
returns-clause-never c = kept_front c.args.self.now (subst IsKept c.self.view_is c.self.invariant)

pub returns-clause-faultless : goal.returns-clause-faultless
returns-clause-faultless c = kept_faults c.args.self.now (subst IsKept c.self.view_is c.self.invariant)

pub returns-clause-within : goal.returns-clause-within
returns-clause-within c = kept_within _ _ _ c.taken.type_inv c.taken.ensures c.self.view_is c.self.invariant

pub returns-clause-same : goal.returns-clause-same
returns-clause-same c = kept_budget c.args.self.now (subst IsKept c.self.view_is c.self.invariant)
