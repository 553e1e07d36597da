use Rattle.std.specs.Prelude.{List}
use Rattle.std.proofs.Common.{ap, ◌∙◌, sym, subst}
use Rattle.mh_model.specs.declared.time.Timer.{Timer}
use Rattle.mh_model.specs.Time.{cancelled}
use Rattle.mh_events.specs.declared.turn.Turn.{Turn}
use Rattle.mh_events.specs.Turns.{in_setting_order, turn_of, AreFound}
use Rattle.mh_events.proofs.FoundLemmas.{found_removed, found_unset, view_removed, view_unset}
use Rattle.mh_events.proofs.timers.Timers.cancel_key.Goals as goal

pub invariant_of-self : goal.invariant_of-self
invariant_of-self c =
    subst (λ (es : List (Turn × Timer)). AreFound es (turn_of c.forget.new.turns.entries) c.self.inside.left) (sym c.take.ensures)
    (found_removed (turn_of c.self.inside.turns.entries) (turn_of c.forget.new.turns.entries) c.args.key.now c.in-Some.turn c.self.inside.timers.entries c.self.inside.left
    (sym c.forget.ensures.old ∙ c.in-Some.is) c.forget.ensures.gone c.self.invariant)

pub invariant_of-self-in_default : goal.invariant_of-self-in_default
invariant_of-self-in_default c =
    found_unset (turn_of c.self.inside.turns.entries) (turn_of c.forget.new.turns.entries) c.args.key.now c.self.inside.timers.entries c.self.inside.left
    (sym c.forget.ensures.old ∙ c.in_default.is) c.forget.ensures.gone c.self.invariant

pub returns-in-Some : goal.returns-in-Some
returns-in-Some c =
    ap in_setting_order c.take.ensures
    ∙ view_removed (turn_of c.self.inside.turns.entries) c.args.key.now c.in-Some.turn c.self.inside.timers.entries (sym c.forget.ensures.old ∙ c.in-Some.is) c.self.invariant.each
    ∙ ap (λ (ts : List Timer). cancelled c.args.key.now.group c.args.key.now.id ts) c.self.view_is

pub returns-in_default : goal.returns-in_default
returns-in_default c =
    view_unset (turn_of c.self.inside.turns.entries) c.args.key.now c.self.inside.timers.entries (sym c.forget.ensures.old ∙ c.in_default.is) c.self.invariant.each
    ∙ ap (λ (ts : List Timer). cancelled c.args.key.now.group c.args.key.now.id ts) c.self.view_is
