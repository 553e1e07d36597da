use Rattle.std.proofs.Common.{◌≡◌, drop, map}
use Rattle.mh_served.specs.Publishing.{has_path}
use Rattle.mh_served.proofs.publishing.has_path.Given as goal

abbrev pub invariant-loop-other : goal.invariant-loop-other
invariant-loop-other l = has_path l.path (map (λ p. p.now) (drop l.other-index l.paths)) ≡ has_path l.path (map (λ p. p.now) l.paths)
