use Rattle.std.proofs.Common.{◌≡◌}
use Rattle.mh_store.specs.Placing.{all_renewed}
use Rattle.mh_store.proofs.placing.renew_all.Given as goal

abbrev pub invariant-loop-kept : goal.invariant-loop-kept
invariant-loop-kept l =
    all_renewed l.kept-iterator.rest.items l.objects ≡ all_renewed l.initial.kept-iterator.rest.items l.initial.objects
