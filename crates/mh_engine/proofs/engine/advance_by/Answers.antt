use Rattle.mh_machine.proofs.StepLemmas.{allowed_all}
use Rattle.mh_engine.proofs.SafeEngine.{safe_allowed}
use Rattle.mh_engine.proofs.engine.advance_by.Goals as goal

pub advance-requires : goal.advance-requires
advance-requires c = safe_allowed c.args.most c.args.machine.now (c.requires.safe c.if-accepted.true)

pub advance-requires-else-accepted : goal.advance-requires-else-accepted
advance-requires-else-accepted c = allowed_all c.args.most c.args.machine.now
