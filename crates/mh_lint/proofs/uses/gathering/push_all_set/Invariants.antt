use Rattle.std.proofs.Common.{◌≡◌, ◌++◌, drop}
use Rattle.std.specs.List.{flat_map}
use Rattle.mh_lint.specs.Uses.{set_by}
use Rattle.mh_lint.proofs.uses.gathering.push_all_set.Given as goal

abbrev pub invariant-loop-act : goal.invariant-loop-act
invariant-loop-act l =
    l.timed.items ++ flat_map set_by (drop l.act-index l.acts) ≡ l.initial.timed.items ++ flat_map set_by l.acts
