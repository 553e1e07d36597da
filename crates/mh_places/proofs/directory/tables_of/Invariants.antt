use Rattle.mh_places.specs.Directory.{AreBesideOf, AreOf}
use Rattle.mh_places.proofs.directory.tables_of.Given as goal

abbrev pub invariant-loop-file : goal.invariant-loop-file
invariant-loop-file l = AreBesideOf AreOf l.files l.file-index l.tables.items
