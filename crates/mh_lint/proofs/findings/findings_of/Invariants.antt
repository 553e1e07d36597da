use Rattle.std.proofs.Common.{◌≡◌, ◌++◌}
use Rattle.std.specs.List.{flat_map}
use Rattle.mh_lint.specs.Findings.{findings, of_group}
use Rattle.mh_lint.proofs.findings.findings_of.Given as goal

abbrev pub invariant-loop-parts : goal.invariant-loop-parts
invariant-loop-parts l =
    l.found.items ++ flat_map (of_group l.all l.alive l.configs) l.parts-iterator ≡ findings l.all l.service l.configs l.alive
