use Rattle.std.specs.Prelude.{◌≡◌, drop, filter}
use Rattle.mh_told.specs.Reading.{read_files}
use Rattle.mh_sealing.specs.Here.{is_here}
use Rattle.mh_sealing.proofs.here.add_groups.Given as goal

abbrev pub invariant-loop-file : goal.invariant-loop-file
invariant-loop-file l =
    read_files l.tags l.groups.items (filter (is_here l.seal) (drop l.file-index l.files)) ≡ read_files l.tags l.initial.groups.items (filter (is_here l.seal) l.files)
