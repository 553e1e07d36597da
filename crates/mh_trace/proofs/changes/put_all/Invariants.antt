use Rattle.std.proofs.Common.{◌≡◌, ◌++◌, drop}
use Rattle.mh_model.specs.State.{all}
use Rattle.mh_trace.specs.Changes.{notes}
use Rattle.mh_trace.proofs.changes.put_all.Given as goal

abbrev pub invariant-loop-object : goal.invariant-loop-object
invariant-loop-object l =
    l.text ++ notes l.form (drop l.object-index l.before) (all l.objects) ≡ l.initial.text ++ notes l.form l.before (all l.objects)
