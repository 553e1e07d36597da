use Rattle.mh_model.specs.Arguments.{receiver_of}
use Rattle.mh_actions.proofs.FilterLemmas.{kept}
use Rattle.mh_actions.proofs.arguments.receivers_of_many.Goals as goal

pub loop-argument-preserved : goal.loop-argument-preserved
loop-argument-preserved c =
    kept receiver_of c.args.arguments.now _ c.argument-item.result _ _ _
    c.loop-argument-test.true c.argument-item.is c.in_ok-push_receiver.ensures c.loop-argument.invariant
