use Rattle.std.proofs.Common.{◌≡◌, drop, map}
use Rattle.mh_served.specs.Publishing.{with_told}
use Rattle.mh_served.proofs.publishing.push_told.Given as goal

abbrev pub invariant-loop-before : goal.invariant-loop-before
invariant-loop-before l =
    with_told l.folder (map (λ p. p.now) l.paths.items) (drop l.before-index l.told)
    ≡ with_told l.folder (map (λ p. p.now) l.initial.paths.items) l.told
