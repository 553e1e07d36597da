use Rattle.std.proofs.Common.{◌≡◌, ◌++◌, drop}
use Rattle.mh_alive.specs.Hearing.{settings_among}
use Rattle.mh_alive.specs.There.{sets_there}
use Rattle.mh_alive.proofs.settings.push_parts.Given as goal

abbrev pub invariant-loop-part : goal.invariant-loop-part
invariant-loop-part l =
    l.settings.items ++ settings_among (sets_there l.there) (l.there).present (drop l.part-index l.parts) ≡ l.initial.settings.items ++ settings_among (sets_there l.there) (l.there).present l.parts
