use Rattle.std.proofs.Common.{◌≡◌, ◌++◌, drop}
use Rattle.std.specs.List.{flat_map}
use Rattle.mh_lint.specs.Uses.{listed_by}
use Rattle.mh_lint.proofs.uses.gathering.push_all_listed.Given as goal

abbrev pub invariant-loop-object : goal.invariant-loop-object
invariant-loop-object l =
    l.targets.items ++ flat_map listed_by (drop l.object-index l.objects) ≡ l.initial.targets.items ++ flat_map listed_by l.objects
