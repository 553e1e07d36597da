use Rattle.std.specs.Prelude.{List, filter}
use Rattle.std.specs.Str.{bytes_eq}
use Rattle.std.proofs.Common.{ap, ◌∙◌, sym, subst}
use Rattle.mh_model.specs.declared.time.Timer.{Timer}
use Rattle.mh_events.specs.declared.turn.Turn.{Turn}
use Rattle.mh_events.specs.Turns.{in_setting_order, turn_of, AreFound}
use Rattle.mh_events.proofs.AgeLemmas.{order_kept}
use Rattle.mh_events.proofs.FoundLemmas.{found_kept}
use Rattle.mh_events.proofs.timers.Timers.keep.Goals as goal

pub invariant_of-self : goal.invariant_of-self
invariant_of-self c =
    subst (λ (es : List (Turn × Timer)). AreFound es (turn_of c.keep-2.new.turns.entries) c.self.inside.left) (sym c.keep.ensures)
    (found_kept c.args.application.now (turn_of c.self.inside.turns.entries) (turn_of c.keep-2.new.turns.entries) c.self.inside.timers.entries c.self.inside.left
    c.keep-2.ensures c.self.invariant)

pub returns : goal.returns
returns c =
    ap in_setting_order c.keep.ensures
    ∙ order_kept (λ t. bytes_eq t.group c.args.application.now) c.self.inside.timers.entries
    ∙ ap (λ (ts : List Timer). filter (λ t. bytes_eq t.group c.args.application.now) ts) c.self.view_is
