use Rattle.std.proofs.Common.{◌≡◌, ◌++◌, drop}
use Rattle.mh_lint.proofs.uses.objects.push_acts.Given as goal

abbrev pub invariant-loop-act : goal.invariant-loop-act
invariant-loop-act l =
    l.all.items ++ (drop l.act-index l.acts) ≡ l.initial.all.items ++ l.acts
