use Rattle.mh_model.specs.State.{all}
use Rattle.mh_model.specs.Arguments.{value_in}
use Rattle.mh_actions.proofs.FilterLemmas.{kept}
use Rattle.mh_actions.proofs.arguments.values_of_many.Goals as goal

pub loop-argument-preserved : goal.loop-argument-preserved
loop-argument-preserved c =
    kept (value_in (all c.args.objects.now)) c.args.arguments.now _ c.argument-item.result _ _ _
    c.loop-argument-test.true c.argument-item.is c.in_ok-push_value.ensures c.loop-argument.invariant
