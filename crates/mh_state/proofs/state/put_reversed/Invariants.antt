use Rattle.std.proofs.Common.{◌≡◌, ◌++◌, map}
use Rattle.std.specs.List.{flat_map}
use Rattle.mh_state.specs.State.{stack_line}
use Rattle.mh_state.proofs.state.put_reversed.Given as goal

abbrev pub invariant-loop-at : goal.invariant-loop-at
invariant-loop-at l = l.text ≡ l.initial.text ++ flat_map stack_line (map (λ x. x.now) l.yielded)
