use Rattle.mh_places.specs.Directory.{AreBesideOf}
use Rattle.mh_lint.specs.NoteLines.{IsTurnedOff}
use Rattle.mh_lint.proofs.grounds.allowed_by_file.Given as goal

abbrev pub invariant-loop-file : goal.invariant-loop-file
invariant-loop-file l = AreBesideOf IsTurnedOff l.files l.file-index l.allowed.items
