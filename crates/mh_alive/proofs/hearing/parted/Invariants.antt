use Rattle.std.proofs.Common.{◌≡◌, ◌++◌, filter, map, not}
use Rattle.mh_alive.specs.Hearing.{may_set}
use Rattle.mh_alive.proofs.hearing.parted.Given as goal

abbrev pub invariant-loop-setting : goal.invariant-loop-setting
invariant-loop-setting l =
    (l.now.items ++ map (λ s. s.timer) (filter (may_set (l.hearers).keys) l.setting-iterator.rest.items) ≡ map (λ s. s.timer) (filter (may_set (l.hearers).keys) (l.fn.settings).items))
    × (l.later.items ++ filter (λ s. not (may_set (l.hearers).keys s)) l.setting-iterator.rest.items ≡ filter (λ s. not (may_set (l.hearers).keys s)) (l.fn.settings).items)
