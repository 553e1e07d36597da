use Rattle.mh_machine.proofs.StepLemmas.{allowed_all}
use Rattle.mh_try.proofs.running.advance.Goals as goal

pub advance-requires : goal.advance-requires
advance-requires c = allowed_all c.args.most c.args.machine.now
