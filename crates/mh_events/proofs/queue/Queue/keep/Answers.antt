use Rattle.std.proofs.Common.{refl, sym, subst}
use Rattle.std.specs.Prelude.{List}
use Rattle.mh_model.specs.declared.input.Waiting.{Waiting}
use Rattle.mh_model.specs.Rules.{stays}
use Rattle.mh_events.specs.Queued.{AreCounted}
use Rattle.mh_events.proofs.CountLemmas.{counted_kept}
use Rattle.mh_events.proofs.queue.Queue.keep.Goals as goal

pub invariant_of-self : goal.invariant_of-self
invariant_of-self c =
    let entries = c.self.inside.entries.items in
    let kept = counted_kept (stays c.args.application.now) (λ i. refl) entries _ _ c.self.invariant in
    subst (λ (ws : List Waiting). AreCounted ws c.self.inside.inputs c.self.inside.time) (sym c.keep_of.ensures) kept
