use Rattle.std.specs.Prelude.{◌≡◌, drop}
use Rattle.mh_told.specs.Reading.{read_files}
use Rattle.mh_told.proofs.reading.add_files.Given as goal

abbrev pub invariant-loop-file : goal.invariant-loop-file
invariant-loop-file l = read_files l.tags l.groups.items (drop l.file-index l.files) ≡ read_files l.tags l.initial.groups.items l.files
