use Rattle.mh_machine.proofs.StepLemmas.{allowed_all}
use Rattle.mh_engine.proofs.sealed.SealedEngine.advance.Goals as goal

pub advance-requires : goal.advance-requires
advance-requires c = allowed_all c.args.most c.self.inside.machine
