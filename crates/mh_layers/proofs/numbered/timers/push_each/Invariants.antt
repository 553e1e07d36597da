use Rattle.std.proofs.Common.{◌≡◌, ◌++◌, drop, map}
use Rattle.mh_layers.proofs.numbered.timers.push_each.Given as goal

abbrev pub invariant-loop-object : goal.invariant-loop-object
invariant-loop-object l =
    l.timers.items ++ map (λ r. (r.group, l.id)) (drop l.object-index l.objects) ≡ l.initial.timers.items ++ map (λ r. (r.group, l.id)) l.objects
