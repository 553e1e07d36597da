use Rattle.std.proofs.Common.{◌≡◌, drop}
use Rattle.serde_json.specs.View.{members_view}
use Rattle.mh_answers.specs.Renaming.{changes_behind}
use Rattle.mh_answers.proofs.renaming.put_changes.Given as goal

abbrev pub invariant-loop-file : goal.invariant-loop-file
invariant-loop-file l =
    changes_behind l.unit l.folder l.object l.number (members_view l.changes.entries) (drop l.file-index l.files)
    ≡ changes_behind l.unit l.folder l.object l.number (members_view l.initial.changes.entries) l.files
