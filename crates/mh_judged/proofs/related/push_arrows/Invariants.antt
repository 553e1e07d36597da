use Rattle.std.proofs.Common.{◌≡◌, ◌++◌, drop, map}
use Rattle.mh_judged.specs.Refusals.{arrow_related}
use Rattle.mh_judged.proofs.related.push_arrows.Given as goal

abbrev pub invariant-loop-arrow : goal.invariant-loop-arrow
invariant-loop-arrow l =
    l.related ++ map (arrow_related l.folder l.directory) (drop l.arrow-index l.cycle)
    ≡ l.initial.related ++ map (arrow_related l.folder l.directory) l.cycle
