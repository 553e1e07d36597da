use Rattle.std.proofs.Common.{◌≡◌, ◌++◌, drop}
use Rattle.std.specs.List.{flat_map}
use Rattle.mh_live.specs.Below.{name_part}
use Rattle.mh_live.proofs.below.awaited.put_names.Given as goal

abbrev pub invariant-loop-name : goal.invariant-loop-name
invariant-loop-name l =
    l.line ++ flat_map name_part (drop l.name-index l.names) ≡ l.initial.line ++ flat_map name_part l.names
