use Rattle.std.specs.Prelude.{◌≡◌, ◌++◌, drop}
use Rattle.mh_sealing.specs.Here.{contents_by}
use Rattle.mh_sealing.proofs.here.contents_by.Given as goal

abbrev pub invariant-loop-file : goal.invariant-loop-file
invariant-loop-file l = l.found ++ contents_by l.seal l.tags (drop l.file-index l.files) ≡ contents_by l.seal l.tags l.files
