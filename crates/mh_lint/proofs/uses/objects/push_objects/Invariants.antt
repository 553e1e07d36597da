use Rattle.std.proofs.Common.{◌≡◌, ◌++◌, drop}
use Rattle.mh_lint.proofs.uses.objects.push_objects.Given as goal

abbrev pub invariant-loop-part : goal.invariant-loop-part
invariant-loop-part l =
    l.objects.items ++ (drop l.part-index l.parts) ≡ l.initial.objects.items ++ l.parts
