use Rattle.std.proofs.Common.{rules, ap, ◌∙◌}
use Rattle.std.specs.Prelude.{List}
use Rattle.std.specs.Str.{bytes_eq}
use Rattle.std.proofs.lemmas.Map.Entries.{lookup-filter-keys}
use Rattle.mh_events.specs.declared.timer_key.TimerKey.{TimerKey}
use Rattle.mh_events.specs.declared.turn.Turn.{Turn}
use Rattle.mh_events.specs.Turns.{same_timer_key, turn_of}
use Rattle.mh_events.proofs.KeyLemmas.{group_alike}
use Rattle.mh_events.proofs.TurnLemmas.{filter_retained}
use Rattle.mh_events.proofs.timer_key.keep.Goals as goal

pub returns : goal.returns
returns c = λ k.
    ap (λ (es : List (TimerKey × Turn)). turn_of es k)
    (filter_retained _ (λ e. bytes_eq e.0.group c.args.application.now) _ (λ q v b w g call. search rules) _ _ c.retain.ensures.filtered)
    ∙ lookup-filter-keys (same_timer_key k) (λ q. bytes_eq q.group c.args.application.now) (bytes_eq k.group c.args.application.now)
    (λ q same. group_alike c.args.application.now k q same) c.args.turns.now.entries
