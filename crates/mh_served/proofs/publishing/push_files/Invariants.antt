use Rattle.std.proofs.Common.{◌≡◌, drop, map}
use Rattle.mh_served.specs.Publishing.{with_files}
use Rattle.mh_served.proofs.publishing.push_files.Given as goal

abbrev pub invariant-loop-finding : goal.invariant-loop-finding
invariant-loop-finding l =
    with_files (map (λ p. p.now) l.paths.items) (drop l.finding-index l.findings)
    ≡ with_files (map (λ p. p.now) l.initial.paths.items) l.findings
