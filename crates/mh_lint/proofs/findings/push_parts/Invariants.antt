use Rattle.std.proofs.Common.{◌≡◌, ◌++◌, drop}
use Rattle.std.specs.List.{flat_map}
use Rattle.mh_lint.specs.Findings.{found_of}
use Rattle.mh_lint.proofs.findings.push_parts.Given as goal

abbrev pub invariant-loop-part : goal.invariant-loop-part
invariant-loop-part l =
    l.found.items ++ flat_map (found_of l.all l.alive l.configs) (drop l.part-index l.parts)
    ≡ l.initial.found.items ++ flat_map (found_of l.all l.alive l.configs) l.parts
