use Rattle.std.proofs.Common.{rules, refl, arith}
use Rattle.std.proofs.lemmas.Fn.{filter_same}
use Rattle.mh_model.specs.Rules.{stays}
use Rattle.mh_events.proofs.CountLemmas.{all_kept}
use Rattle.mh_events.proofs.queue.keep_of.Goals as goal

pub returns-then-inputs-len : goal.returns-then-inputs-len
returns-then-inputs-len c = filter_same _ _ _ (λ x b f' k. search rules) _ _ c.retain.ensures.filtered

pub returns-else-inputs-len : goal.returns-else-inputs-len
returns-else-inputs-len c = all_kept (stays c.args.application.now) (λ i. refl) c.args.entries.now.items (omega (arith, c.requires, c.len.ensures, c.if-inputs-len.false))
