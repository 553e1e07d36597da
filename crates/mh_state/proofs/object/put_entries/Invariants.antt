use Rattle.std.proofs.Common.{◌≡◌, ◌++◌, drop}
use Rattle.std.specs.List.{flat_map}
use Rattle.mh_state.specs.Object.{entry_line}
use Rattle.mh_state.proofs.object.put_entries.Given as goal

abbrev pub invariant-loop-entry : goal.invariant-loop-entry
invariant-loop-entry l =
    l.text ++ flat_map entry_line (drop l.entry-index l.entries) ≡ l.initial.text ++ flat_map entry_line l.entries
