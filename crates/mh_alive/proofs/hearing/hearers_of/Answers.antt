use Rattle.std.proofs.Common.{◌≡◌, ◌-◌, ◌+◌, ◌==◌, ◌∙◌, IfOk, refl, sym, subst, ap, arith}
use Rattle.indexmap.specs.IndexSet.{insert_all}
use Rattle.mh_alive.specs.Hearing.{Ears, hearers}
use Rattle.mh_alive.specs.Tellings.{same_timer}
use Rattle.mh_alive.specs.Timers.{timers_with}
use Rattle.mh_alive.proofs.SettleLemmas.{round_done, round_more, rounds_over}
use Rattle.mh_alive.proofs.hearing.hearers_of.Goals as goal

pub returns-then-is_empty : goal.returns-then-is_empty
returns-then-is_empty c =
    c.in_ok-hearers.ensures
    ∙ ap (hearers c.args.service.now)
    (round_done (c.len-rounds.result - c.loop.counter) (c.len-rounds.result - (c.loop.counter + 1)) c.args.service.now c.loop.ears c.loop.links.items c.in_ok-hearers.hearers.keys c.in_ok-now.now.items
    (omega arith) c.in_ok-hearers.ensures c.in_ok-now.ensures.now (ap (λ k. k == 0) (sym c.in_ok-now.now.ok.0) ∙ sym c.is_empty.ensures ∙ c.if-is_empty.true)
    ∙ c.loop.invariant.same)

pub loop-preserved : goal.loop-preserved
loop-preserved c = record {
  same =
      round_more (c.len-rounds.result - c.loop.counter) (c.len-rounds.result - (c.loop.counter + 1)) c.args.service.now c.loop.ears _ c.loop.links.items c.in_ok-now.later.items c.in_ok-hearers.hearers.keys c.in_ok-now.now.items
      (omega arith) c.in_ok-hearers.ensures c.in_ok-now.ensures.now c.in_ok-now.ensures.later (ap (λ k. k == 0) (sym c.in_ok-now.now.ok.0) ∙ sym c.is_empty.ensures ∙ c.if-is_empty.false)
      (λ i. record { sent = sym c.loop.invariant.sent i; registers = sym c.loop.invariant.registers i; timers = (c.in_ok-timers-3.ensures ∙ ap (λ e. timers_with (insert_all same_timer e.timers.set c.in_ok-now.now.items)) c.ears.view_is) i })
      ∙ c.loop.invariant.same;
  sent = refl;
  registers = refl;
}

pub returns : goal.returns
returns c =
    subst (λ (x : Ears). IfOk c.hearers-2.result (λ h. h.keys ≡ hearers c.args.service.now x))
    (rounds_over (c.len-rounds.result - c.loop.counter) c.args.service.now c.loop.ears c.loop.links.items (omega arith) ∙ c.loop.invariant.same) c.hearers-2.ensures
