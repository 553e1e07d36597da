use Rattle.std.specs.Prelude.{◌≡◌, ◌++◌, drop}
use Rattle.mh_script.specs.Contents.{contents}
use Rattle.mh_script.proofs.contents.read_contents.Given as goal

abbrev pub invariant-loop-file : goal.invariant-loop-file
invariant-loop-file l = l.found ++ contents l.tags l.service (drop l.file-index l.files) ≡ contents l.tags l.service l.files
