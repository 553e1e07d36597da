use Rattle.std.specs.Prelude.{◌≡◌, ◌++◌, drop, map}
use Rattle.mh_crossing.specs.Files.{handed, have_paths, kept}
use Rattle.mh_crossing.proofs.reading.owned_files.Given as goal

-- the files so far, and those that are left
abbrev pub invariant-loop-source : goal.invariant-loop-source
invariant-loop-source l =
    (map kept l.files.items ++ map handed (drop l.source-index l.sources) ≡ map handed l.sources) ×
    (have_paths (drop l.source-index l.sources) ≡ have_paths l.sources)
