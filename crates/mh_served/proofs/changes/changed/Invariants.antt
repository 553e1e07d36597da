use Rattle.std.proofs.Common.{◌≡◌, drop, map}
use Rattle.serde_json.specs.View.{view}
use Rattle.mh_served.specs.Changes.{changed}
use Rattle.mh_served.proofs.changes.changed.Given as goal

abbrev pub invariant-loop-change : goal.invariant-loop-change
invariant-loop-change l =
    changed l.unit l.found.items (map view (drop l.change-index l.changes)) ≡ changed l.unit l.text (map view l.changes)
