use Rattle.std.proofs.Common.{◌≡◌, ◌++◌, filter, map, not}
use Rattle.indexmap.specs.IndexSet.{insert_all}
use Rattle.mh_alive.specs.Hearing.{by_links, outer_timers}
use Rattle.mh_alive.specs.Tellings.{same_timer}
use Rattle.mh_alive.proofs.hearing.outer.Given as goal

abbrev pub invariant-loop-setting : goal.invariant-loop-setting
invariant-loop-setting l =
    (insert_all same_timer l.timers.keys (map (λ s. s.timer) (filter (λ s. not s.is_link) l.setting-iterator.rest.items)) ≡ outer_timers (l.fn.settings).items)
    × (l.links.items ++ by_links l.setting-iterator.rest.items ≡ by_links (l.fn.settings).items)
