use Rattle.std.proofs.Common.{sym, subst}
use Rattle.std.specs.Prelude.{List}
use Rattle.mh_model.specs.declared.input.Waiting.{Waiting}
use Rattle.mh_events.specs.Queued.{AreCounted}
use Rattle.mh_events.proofs.CountLemmas.{counted_more}
use Rattle.mh_events.proofs.queue.Queue.add_all.Goals as goal

pub invariant_of-self : goal.invariant_of-self
invariant_of-self c =
    let more = counted_more c.self.inside.entries.items c.args.events.items _ _ c.self.invariant in
    subst (λ (ws : List Waiting). AreCounted ws c.self.inside.inputs c.self.inside.time) (sym c.push_events.ensures) more
