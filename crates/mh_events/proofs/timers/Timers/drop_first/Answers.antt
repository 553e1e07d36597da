use Rattle.std.specs.Prelude.{List, filter, length, not}
use Rattle.std.proofs.Common.{ap, ◌∙◌, sym, subst, arith}
use Rattle.mh_model.specs.declared.time.Timer.{Timer}
use Rattle.mh_model.specs.Time.{is_due}
use Rattle.mh_events.specs.declared.turn.Turn.{Turn}
use Rattle.mh_events.specs.Turns.{in_setting_order, turn_of, AreFound}
use Rattle.mh_events.proofs.AgeLemmas.{length_in_order}
use Rattle.mh_events.proofs.FoundLemmas.{found_behind, view_behind, view_none}
use Rattle.mh_events.proofs.timers.Timers.drop_first.Goals as goal

pub invariant_of-self : goal.invariant_of-self
invariant_of-self c =
    let find = turn_of c.self.inside.turns.entries in
    let left = c.self.inside.left in
    let before = subst (λ (es : List (Turn × Timer)). AreFound es find left) c.in-Some.ensures.taken.0 c.self.invariant in
    found_behind find (turn_of c.forget.new.turns.entries) c.into_key.result (c.in-Some.field-0-0, c.in-Some.timer) c.take_due.new.timers.entries left
    c.into_key.ensures c.forget.ensures.gone c.in-Some.ensures.behind before

pub returns-in-Some-clause-more : goal.returns-in-Some-clause-more
returns-in-Some-clause-more c = λ _.
    view_behind c.args.now (c.in-Some.field-0-0, c.in-Some.timer) c.take_due.new.timers.entries c.in-Some.ensures.taken.1
    ∙ ap (λ (es : List (Turn × Timer)). filter (λ t. not (is_due c.args.now t)) (in_setting_order es)) (sym c.in-Some.ensures.taken.0)
    ∙ ap (λ (ts : List Timer). filter (λ t. not (is_due c.args.now t)) ts) c.self.view_is

pub returns-in-Some-clause-fewer : goal.returns-in-Some-clause-fewer
returns-in-Some-clause-fewer c = λ _.
    let new = length_in_order c.take_due.new.timers.entries in
    let old = length_in_order c.self.inside.timers.entries in
    let taken = ap length c.in-Some.ensures.taken.0 in
    let seen = ap length c.self.view_is in
    omega (arith, new, old, taken, seen)

pub returns-in-None-clause-done : goal.returns-in-None-clause-done
returns-in-None-clause-done c = λ _.
    ap in_setting_order c.in-None.ensures.kept
    ∙ view_none c.args.now c.self.inside.timers.entries c.in-None.ensures.none
    ∙ ap (λ (ts : List Timer). filter (λ t. not (is_due c.args.now t)) ts) c.self.view_is
