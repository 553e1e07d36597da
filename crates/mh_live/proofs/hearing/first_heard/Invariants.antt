use Rattle.std.proofs.Common.{◌≡◌, drop}
use Rattle.mh_model.specs.State.{all}
use Rattle.mh_live.specs.Hearing.{first_heard}
use Rattle.mh_live.proofs.hearing.first_heard.Given as goal

abbrev pub invariant-loop-place : goal.invariant-loop-place
invariant-loop-place l = first_heard l.kind (drop l.place (all l.objects)) ≡ first_heard l.kind (all l.objects)
