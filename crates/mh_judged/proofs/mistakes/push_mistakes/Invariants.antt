use Rattle.std.proofs.Common.{◌≡◌, ◌++◌, drop, map}
use Rattle.mh_judged.specs.Mistakes.{mistake_finding}
use Rattle.mh_judged.proofs.mistakes.push_mistakes.Given as goal

abbrev pub invariant-loop-mistake : goal.invariant-loop-mistake
invariant-loop-mistake l =
    l.found.items ++ map (mistake_finding l.folder l.file) (drop l.mistake-index l.mistakes)
    ≡ l.initial.found.items ++ map (mistake_finding l.folder l.file) l.mistakes
