use Rattle.std.proofs.Common.{◌≡◌, ◌++◌, drop}
use Rattle.std.specs.List.{flat_map}
use Rattle.mh_model.specs.State.{all}
use Rattle.mh_live.specs.Below.{running_part}
use Rattle.mh_live.proofs.below.put_running.Given as goal

abbrev pub invariant-loop-place : goal.invariant-loop-place
invariant-loop-place l =
    l.line ++ flat_map (running_part l.group) (drop l.place (all l.objects))
    ≡ l.initial.line ++ flat_map (running_part l.group) (all l.objects)
