use Rattle.std.proofs.Common.{◌≡◌, ◌++◌, drop, map}
use Rattle.serde_json.specs.View.{view}
use Rattle.mh_served.specs.Publishing.{notice_at}
use Rattle.mh_served.proofs.publishing.notices_at.Given as goal

abbrev pub invariant-loop-path : goal.invariant-loop-path
invariant-loop-path l =
    map view l.found.items ++ map (notice_at l.unit l.folder l.files l.findings) (map (λ p. p.now) (drop l.path-index l.paths))
    ≡ map (notice_at l.unit l.folder l.files l.findings) (map (λ p. p.now) l.paths)
