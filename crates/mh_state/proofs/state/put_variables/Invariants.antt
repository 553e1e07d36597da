use Rattle.std.proofs.Common.{◌≡◌, ◌++◌, drop}
use Rattle.std.specs.List.{flat_map}
use Rattle.mh_model.specs.State.{all}
use Rattle.mh_state.specs.State.{variable_line}
use Rattle.mh_state.proofs.state.put_variables.Given as goal

abbrev pub invariant-loop-place : goal.invariant-loop-place
invariant-loop-place l =
    l.text ++ flat_map variable_line (drop l.place (all l.objects)) ≡ l.initial.text ++ flat_map variable_line (all l.objects)
