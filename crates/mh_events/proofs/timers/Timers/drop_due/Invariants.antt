use Rattle.std.proofs.Common.{◌≡◌, filter, length, not}
use Rattle.mh_model.specs.Time.{is_due}
use Rattle.mh_events.proofs.timers.Timers.drop_due.Given as goal

abbrev pub invariant-loop : goal.invariant-loop
invariant-loop l = filter (λ t. not (is_due l.now t)) l.self ≡ filter (λ t. not (is_due l.now t)) l.initial.self

abbrev pub decreases-loop : goal.decreases-loop
decreases-loop l = length l.self
