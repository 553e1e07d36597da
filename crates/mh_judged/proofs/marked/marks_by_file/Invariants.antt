use Rattle.mh_places.specs.Directory.{AreBesideOf}
use Rattle.mh_judged.specs.Places.{IsMarked}
use Rattle.mh_judged.proofs.marked.marks_by_file.Given as goal

abbrev pub invariant-loop-file : goal.invariant-loop-file
invariant-loop-file l = AreBesideOf IsMarked l.files l.file-index l.all.items
