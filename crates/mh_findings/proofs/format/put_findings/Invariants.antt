use Rattle.std.proofs.Common.{◌≡◌, ◌++◌, drop}
use Rattle.std.specs.List.{flat_map}
use Rattle.mh_findings.specs.Formats.{entry}
use Rattle.mh_findings.proofs.format.put_findings.Given as goal

abbrev pub invariant-loop-finding : goal.invariant-loop-finding
invariant-loop-finding l =
    l.text ++ flat_map (entry l.format) (drop l.finding-index l.findings) ≡ l.initial.text ++ flat_map (entry l.format) l.findings
