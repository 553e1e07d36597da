use Rattle.std.proofs.Common.{◌≡◌, ◌++◌, drop}
use Rattle.std.specs.List.{flat_map}
use Rattle.mh_state.specs.State.{waits_line}
use Rattle.mh_state.proofs.state.put_waits.Given as goal

abbrev pub invariant-loop-place : goal.invariant-loop-place
invariant-loop-place l =
    l.text ++ flat_map waits_line (drop l.place l.machine.queue) ≡ l.initial.text ++ flat_map waits_line l.machine.queue
