use Rattle.std.proofs.Common.{◌≡◌, ◌++◌, drop, map}
use Rattle.serde_json.specs.View.{view}
use Rattle.mh_answers.specs.Layout.{edits_from}
use Rattle.mh_answers.proofs.layout.push_changes.Given as goal

abbrev pub invariant-loop-change : goal.invariant-loop-change
invariant-loop-change l = record {
  same : l.places ≡ (l.fn.unit, l.bytes);
  is : map view l.found.items ++ edits_from l.fn.unit l.bytes l.end (drop l.change-index l.changes)
      ≡ map view l.initial.found.items ++ edits_from l.fn.unit l.bytes 0 l.changes;
}
