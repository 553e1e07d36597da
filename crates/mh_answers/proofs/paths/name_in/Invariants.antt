use Rattle.std.proofs.Common.{◌≡◌, length}
use Rattle.mh_answers.specs.Paths.{name_in}
use Rattle.mh_answers.proofs.paths.name_in.Given as goal

abbrev pub invariant-loop-wanted : goal.invariant-loop-wanted
invariant-loop-wanted l = name_in l.left l.rest ≡ name_in l.fn.folder l.fn.path

abbrev pub decreases-loop-wanted : goal.decreases-loop-wanted
decreases-loop-wanted l = length l.left
