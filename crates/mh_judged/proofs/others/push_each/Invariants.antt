use Rattle.std.proofs.Common.{◌≡◌, ◌++◌, drop, map}
use Rattle.mh_judged.specs.Others.{told_finding}
use Rattle.mh_judged.proofs.others.push_each.Given as goal

abbrev pub invariant-loop-told : goal.invariant-loop-told
invariant-loop-told l =
    l.found.items ++ map (told_finding l.service l.folder l.marked l.all) (drop l.told-index l.others)
    ≡ l.initial.found.items ++ map (told_finding l.service l.folder l.marked l.all) l.others
