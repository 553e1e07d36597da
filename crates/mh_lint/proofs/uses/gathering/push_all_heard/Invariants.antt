use Rattle.std.proofs.Common.{◌≡◌, ◌++◌, drop}
use Rattle.std.specs.List.{flat_map}
use Rattle.mh_lint.specs.Uses.{heard_by}
use Rattle.mh_lint.proofs.uses.gathering.push_all_heard.Given as goal

abbrev pub invariant-loop-object : goal.invariant-loop-object
invariant-loop-object l =
    l.heard.items ++ flat_map heard_by (drop l.object-index l.objects) ≡ l.initial.heard.items ++ flat_map heard_by l.objects
