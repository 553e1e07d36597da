use Rattle.std.proofs.Common.{◌≡◌, ◌++◌, drop, map}
use Rattle.mh_alive.specs.Hearing.{setting}
use Rattle.mh_alive.specs.Tellings.{timer}
use Rattle.mh_alive.proofs.settings.push_each.Given as goal

abbrev pub invariant-loop-at : goal.invariant-loop-at
invariant-loop-at l =
    l.settings.items ++ map (setting l.part) (map (λ r. timer r l.id) (drop l.at-index l.objects)) ≡ l.initial.settings.items ++ map (setting l.part) (map (λ r. timer r l.id) l.objects)
