use Rattle.std.proofs.Common.{rules}
use Rattle.std.specs.Str.{bytes_eq}
use Rattle.mh_events.proofs.TurnLemmas.{filter_retained}
use Rattle.mh_events.proofs.turn.keep.Goals as goal

pub returns : goal.returns
returns c = filter_retained _ (λ e. bytes_eq e.1.group c.args.application.now) _ (λ k v b w g call. search rules) _ _ c.retain.ensures.filtered
