use Rattle.std.specs.Prelude.{◌<◌, ◌-◌, List, ◌∷◌, [], ◌++◌, cond, filter, not, Option, Some}
use Rattle.std.proofs.Common.{ap, ◌∙◌, sym, subst, refl, arith}
use Rattle.mh_model.specs.declared.time.Timer.{Timer}
use Rattle.mh_model.specs.Time.{cancelled}
use Rattle.mh_events.specs.declared.turn.Turn.{Turn}
use Rattle.mh_events.specs.Turns.{has_turn, in_setting_order, same_timer_key, turn_of, AreFound}
use Rattle.mh_events.proofs.SetLemmas.{found_new, found_replaced, view_new, view_replaced}
use Rattle.mh_events.proofs.timers.Timers.set_timer.Goals as goal

pub invariant_of-self-in-Some : goal.invariant_of-self-in-Some
invariant_of-self-in-Some c =
    let key = c.args.key in
    let turn : Turn = record { due = c.args.timer.due; number = c.self.inside.left - 1 } in
    let less : c.self.inside.left - 1 < c.self.inside.left = omega (arith, c.if-self-eq0.false) in
    subst (λ (es : List (Turn × Timer)). AreFound es (turn_of c.note.new.turns.entries) (c.self.inside.left - 1))
    (sym (c.take.ensures ∙ ap (filter (λ e. not (has_turn c.in-Some.old e))) c.in_ok-put.ensures.put))
    (found_replaced (turn_of c.self.inside.turns.entries) (turn_of c.note.new.turns.entries) key turn c.in-Some.old c.args.timer c.self.inside.timers.entries c.self.inside.left less refl c.requires
    (sym (c.make_room.ensures.same key) ∙ sym c.note.ensures.old ∙ c.in-Some.is)
    (λ q. c.note.ensures.noted q ∙ ap (λ (m : Option Turn). cond (same_timer_key key q) (Some turn) m) (c.make_room.ensures.same q))
    c.self.invariant)

pub invariant_of-self-in_default : goal.invariant_of-self-in_default
invariant_of-self-in_default c =
    let key = c.args.key in
    let turn : Turn = record { due = c.args.timer.due; number = c.self.inside.left - 1 } in
    let less : c.self.inside.left - 1 < c.self.inside.left = omega (arith, c.if-self-eq0.false) in
    subst (λ (es : List (Turn × Timer)). AreFound es (turn_of c.note.new.turns.entries) (c.self.inside.left - 1)) (sym c.in_ok-put.ensures.put)
    (found_new (turn_of c.self.inside.turns.entries) (turn_of c.note.new.turns.entries) key turn c.args.timer c.self.inside.timers.entries c.self.inside.left less refl c.requires
    (sym (c.make_room.ensures.same key) ∙ sym c.note.ensures.old ∙ c.in_default.is)
    (λ q. c.note.ensures.noted q ∙ ap (λ (m : Option Turn). cond (same_timer_key key q) (Some turn) m) (c.make_room.ensures.same q))
    c.self.invariant)

pub returns-in-Some-clause-set : goal.returns-in-Some-clause-set
returns-in-Some-clause-set c =
    let key = c.args.key in
    let turn : Turn = record { due = c.args.timer.due; number = c.self.inside.left - 1 } in
    let less : c.self.inside.left - 1 < c.self.inside.left = omega (arith, c.if-self-eq0.false) in
    ap in_setting_order (c.take.ensures ∙ ap (filter (λ e. not (has_turn c.in-Some.old e))) c.in_ok-put.ensures.put)
    ∙ view_replaced (turn_of c.self.inside.turns.entries) key turn c.in-Some.old c.args.timer c.self.inside.timers.entries c.self.inside.left less
    (sym (c.make_room.ensures.same key) ∙ sym c.note.ensures.old ∙ c.in-Some.is) c.self.invariant
    ∙ ap (λ (ts : List Timer). cancelled key.group key.id ts ++ c.args.timer ∷ []) c.self.view_is

pub returns-in_default-clause-set : goal.returns-in_default-clause-set
returns-in_default-clause-set c =
    let key = c.args.key in
    let turn : Turn = record { due = c.args.timer.due; number = c.self.inside.left - 1 } in
    let less : c.self.inside.left - 1 < c.self.inside.left = omega (arith, c.if-self-eq0.false) in
    ap in_setting_order c.in_ok-put.ensures.put
    ∙ view_new (turn_of c.self.inside.turns.entries) key turn c.args.timer c.self.inside.timers.entries c.self.inside.left less
    (sym (c.make_room.ensures.same key) ∙ sym c.note.ensures.old ∙ c.in_default.is) c.self.invariant
    ∙ ap (λ (ts : List Timer). cancelled key.group key.id ts ++ c.args.timer ∷ []) c.self.view_is
