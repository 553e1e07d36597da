use Rattle.std.proofs.Common.{◌≡◌, drop}
use Rattle.mh_try.specs.Directory.{with_files}
use Rattle.mh_try.proofs.directory.directory_of.Given as goal

abbrev pub invariant-loop-file : goal.invariant-loop-file
invariant-loop-file l =
    with_files (drop l.file-index l.files) l.directory ≡ with_files l.files l.initial.directory
