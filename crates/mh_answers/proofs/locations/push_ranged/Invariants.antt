use Rattle.std.proofs.Common.{◌≡◌, ◌++◌, drop, map}
use Rattle.serde_json.specs.View.{view}
use Rattle.mh_answers.specs.Locations.{ranged}
use Rattle.mh_answers.proofs.locations.push_ranged.Given as goal

abbrev pub invariant-loop-at : goal.invariant-loop-at
invariant-loop-at l = record {
  same : l.places ≡ l.initial.places;
  is : map view l.found.items ++ map (ranged l.uri l.initial.places) (drop l.at-index l.extents)
      ≡ map view l.initial.found.items ++ map (ranged l.uri l.initial.places) l.extents;
}
