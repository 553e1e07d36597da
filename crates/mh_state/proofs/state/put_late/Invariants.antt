use Rattle.std.proofs.Common.{◌≡◌, ◌++◌, drop}
use Rattle.std.specs.List.{flat_map}
use Rattle.mh_state.specs.State.{late_line}
use Rattle.mh_state.proofs.state.put_late.Given as goal

abbrev pub invariant-loop-name : goal.invariant-loop-name
invariant-loop-name l =
    l.text ++ flat_map late_line (drop l.name-index l.names) ≡ l.initial.text ++ flat_map late_line l.names
