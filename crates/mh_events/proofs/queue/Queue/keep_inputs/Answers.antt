use Rattle.std.proofs.Common.{refl, sym, subst}
use Rattle.std.specs.Prelude.{List}
use Rattle.mh_model.specs.declared.input.Waiting.{Waiting}
use Rattle.mh_model.specs.Rules.{is_input}
use Rattle.mh_events.specs.Queued.{AreCounted}
use Rattle.mh_events.proofs.CountLemmas.{counted_kept}
use Rattle.mh_events.proofs.queue.Queue.keep_inputs.Goals as goal

pub invariant_of-self : goal.invariant_of-self
invariant_of-self c =
    let entries = c.self.inside.entries.items in
    let kept = counted_kept is_input (λ i. refl) entries _ _ c.self.invariant in
    subst (λ (ws : List Waiting). AreCounted ws c.self.inside.inputs c.self.inside.time) (sym c.keep_inputs_of.ensures) kept
