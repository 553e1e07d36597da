use Rattle.std.proofs.Common.{◌≡◌, ◌++◌, drop}
use Rattle.std.specs.List.{flat_map}
use Rattle.mh_model.specs.Effects.{actions}
use Rattle.mh_lint.proofs.uses.objects.push_all_actions.Given as goal

abbrev pub invariant-loop-object : goal.invariant-loop-object
invariant-loop-object l =
    l.acts.items ++ flat_map actions (drop l.object-index l.objects) ≡ l.initial.acts.items ++ flat_map actions l.objects
