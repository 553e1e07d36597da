use Rattle.std.proofs.Common.{◌≡◌, ◌++◌, drop}
use Rattle.std.specs.List.{flat_map}
use Rattle.mh_lint.specs.Uses.{added_by}
use Rattle.mh_lint.proofs.uses.gathering.push_all_added.Given as goal

abbrev pub invariant-loop-act : goal.invariant-loop-act
invariant-loop-act l =
    l.targets.items ++ flat_map added_by (drop l.act-index l.acts) ≡ l.initial.targets.items ++ flat_map added_by l.acts
