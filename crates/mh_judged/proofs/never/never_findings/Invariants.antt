use Rattle.std.proofs.Common.{◌≡◌, ◌++◌, drop, map}
use Rattle.mh_judged.specs.Accepted.{never_finding}
use Rattle.mh_judged.proofs.never.never_findings.Given as goal

abbrev pub invariant-loop-unhappening : goal.invariant-loop-unhappening
invariant-loop-unhappening l =
    l.found.items ++ map (never_finding l.service l.configs l.folder l.directory) (drop l.unhappening-index l.never)
    ≡ map (never_finding l.service l.configs l.folder l.directory) l.never
