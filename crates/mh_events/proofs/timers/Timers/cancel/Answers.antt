use Rattle.std.specs.Prelude.{List}
use Rattle.std.proofs.Common.{ap, ◌∙◌, sym, subst, rules, to_z-of_z}
use Rattle.mh_model.specs.declared.time.Timer.{Timer}
use Rattle.mh_model.specs.Time.{cancelled}
use Rattle.mh_events.specs.declared.turn.Turn.{Turn}
use Rattle.mh_events.specs.Turns.{in_setting_order, turn_of, AreFound}
use Rattle.mh_events.proofs.FoundLemmas.{found_filtered, view_without}
use Rattle.mh_events.proofs.timers.Timers.cancel.Goals as goal

pub invariant_of-self : goal.invariant_of-self
invariant_of-self c =
    subst (λ (es : List (Turn × Timer)). AreFound es (turn_of c.self.inside.turns.entries) c.self.inside.left) (sym c.take_timer.ensures)
    (found_filtered (turn_of c.self.inside.turns.entries) _ c.self.inside.timers.entries c.self.inside.left c.self.invariant)

pub returns-in-Err : goal.returns-in-Err
returns-in-Err c =
    ap in_setting_order c.take_timer.ensures
    ∙ view_without c.args.group.now _ c.args.id c.self.inside.timers.entries (search (rules, to_z-of_z))
    ∙ ap (λ (ts : List Timer). cancelled c.args.group.now c.args.id ts) c.self.view_is
