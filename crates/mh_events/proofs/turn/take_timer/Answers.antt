use Rattle.std.proofs.Common.{rules, not}
use Rattle.mh_model.specs.Time.{is_timer}
use Rattle.mh_events.proofs.TurnLemmas.{filter_retained}
use Rattle.mh_events.proofs.turn.take_timer.Goals as goal

pub returns : goal.returns
returns c = filter_retained _ (λ e. not (is_timer c.args.group.now c.args.id e.1)) _ (λ k v b w g call. search rules) _ _ c.retain.ensures.filtered
