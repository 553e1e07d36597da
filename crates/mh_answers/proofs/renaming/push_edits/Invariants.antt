use Rattle.std.proofs.Common.{◌≡◌, ◌++◌, drop, map}
use Rattle.serde_json.specs.View.{view}
use Rattle.mh_answers.specs.Renaming.{written_at}
use Rattle.mh_answers.proofs.renaming.push_edits.Given as goal

abbrev pub invariant-loop-at : goal.invariant-loop-at
invariant-loop-at l = record {
  same : l.places ≡ l.initial.places;
  is : map view l.edits.items ++ map (written_at l.text l.initial.places) (drop l.at-index l.extents)
      ≡ map view l.initial.edits.items ++ map (written_at l.text l.initial.places) l.extents;
}
