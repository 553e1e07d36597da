use Rattle.std.proofs.Common.{◌≡◌, drop, map}
use Rattle.indexmap.specs.IndexSet.{insert_all}
use Rattle.mh_alive.specs.Hearing.{all_timers}
use Rattle.mh_alive.specs.Tellings.{same_timer}
use Rattle.mh_alive.proofs.settings.timers_of.Given as goal

abbrev pub invariant-loop-setting : goal.invariant-loop-setting
invariant-loop-setting l = insert_all same_timer l.timers.keys (map (λ s. s.timer) (drop l.setting-index l.settings)) ≡ all_timers l.settings
