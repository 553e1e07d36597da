use Rattle.std.proofs.Common.{◌≡◌, ◌++◌, drop, map}
use Rattle.serde_json.specs.View.{view}
use Rattle.mh_answers.specs.Locations.{references}
use Rattle.mh_answers.proofs.locations.push_references.Given as goal

abbrev pub invariant-loop-file : goal.invariant-loop-file
invariant-loop-file l =
    map view l.found.items ++ references l.unit l.folder l.object l.with_definition (drop l.file-index l.files)
    ≡ map view l.initial.found.items ++ references l.unit l.folder l.object l.with_definition l.files
