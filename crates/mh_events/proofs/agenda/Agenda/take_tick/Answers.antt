use Rattle.std.specs.Prelude.{List, ◌+◌, ◌++◌, drop, map}
use Rattle.std.proofs.Common.{ap, ◌∙◌, arith}
use Rattle.mh_model.specs.declared.event.Event.{Event}
use Rattle.mh_model.specs.declared.input.Input.TheVariants as input
use Rattle.mh_model.specs.declared.input.Waiting.{Waiting}
use Rattle.mh_model.specs.declared.input.Waiting.TheVariants as waiting
use Rattle.mh_model.specs.Step.{time_ahead}
use Rattle.mh_model.specs.Time.{due}
use Rattle.mh_events.specs.Agenda.{Coming, fired}
use Rattle.mh_events.proofs.AheadLemmas.{ahead_first, ahead_events, fired_as}
use Rattle.mh_events.proofs.agenda.Agenda.take_tick.Goals as goal

pub overflow_add-now : goal.overflow_add-now
overflow_add-now c =
    let old = ap (λ (a : Coming). time_ahead a.queue) c.self.view_is in
    let first = ahead_first c.args.self.now.queue (waiting.Input (input.Tick c.args.length)) c.requires in
    omega (arith, old, first, c.self.invariant)

pub invariant_of-self : goal.invariant_of-self
invariant_of-self c =
    let old = ap (λ (a : Coming). time_ahead a.queue) c.self.view_is in
    let new = ap (λ (a : Coming). time_ahead a.queue) c.self-2.view_is in
    let taken = ap time_ahead c.in_ok-take_for.ensures.taken in
    let none = ahead_events (drop 1 c.args.self.now.queue) c.in_ok-events.events.items in
    let first = ahead_first c.args.self.now.queue (waiting.Input (input.Tick c.args.length)) c.requires in
    omega (arith, old, new, taken, none, first, c.self.invariant)

pub returns-clause-queue : goal.returns-clause-queue
returns-clause-queue c =
    ap (λ (a : Coming). a.queue) c.self-2.view_is
    ∙ c.in_ok-take_for.ensures.taken
    ∙ ap (λ (es : List Event). drop 1 c.args.self.now.queue ++ map waiting.Event es) c.in_ok-events.ensures
    ∙ ap (λ (ws : List Waiting). drop 1 c.args.self.now.queue ++ ws) (fired_as (due (c.self.inside.moments.present + c.args.length) c.args.application.now c.self.inside.timers))
    ∙ ap (λ (a : Coming). drop 1 c.args.self.now.queue ++ fired (a.moments.present + c.args.length) c.args.application.now a.timers) c.self.view_is
