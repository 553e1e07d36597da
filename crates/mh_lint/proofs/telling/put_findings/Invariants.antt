use Rattle.std.proofs.Common.{◌≡◌, ◌++◌, drop}
use Rattle.mh_lint.specs.Telling.{never_words}
use Rattle.mh_lint.proofs.telling.put_findings.Given as goal

abbrev pub invariant-loop-finding : goal.invariant-loop-finding
invariant-loop-finding l =
    l.text ++ never_words l.service l.configs l.directory (drop l.finding-index l.found) ≡ l.initial.text ++ never_words l.service l.configs l.directory l.found
