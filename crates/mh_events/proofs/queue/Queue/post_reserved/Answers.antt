use Rattle.std.proofs.Common.{arith}
use Rattle.mh_events.proofs.CountLemmas.{inputs_within}
use Rattle.mh_events.proofs.queue.Queue.post_reserved.Goals as goal

pub overflow_add-self : goal.overflow_add-self
overflow_add-self c =
    let entries = c.self.inside.entries in
    let within = inputs_within entries.items in
    omega (arith, c.self.invariant.number, within, entries.ok.0, entries.small.0, entries.small.1)
