use Rattle.std.proofs.Common.{◌≡◌, ◌++◌}
use Rattle.std.specs.Prelude.{map, drop}
use Rattle.mh_why.specs.Sources.{source_of}
use Rattle.mh_why.proofs.explanation.sources_of.Given as goal

abbrev pub invariant-loop-file : goal.invariant-loop-file
invariant-loop-file l = l.sources.items ++ map (source_of l.tags) (drop l.file-index l.files) ≡ map (source_of l.tags) l.files
