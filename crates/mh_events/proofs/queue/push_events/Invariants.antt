use Rattle.std.proofs.Common.{◌≡◌, ◌++◌, ◌+◌, ◌≤◌, length}
use Rattle.std.specs.Prelude.{map}
use Rattle.std.specs.VecDeque.{deque_len, deque_capacity}
use Rattle.mh_model.specs.declared.input.Waiting.TheVariants as waiting
use Rattle.mh_events.proofs.queue.push_events.Given as goal

abbrev pub invariant-loop-event : goal.invariant-loop-event
invariant-loop-event l =
    (l.entries.items ++ map waiting.Event l.event-iterator.rest.items
    ≡ l.initial.entries.items ++ map waiting.Event l.initial.event-iterator.rest.items)
    × (deque_len l.entries + length l.event-iterator.rest.items ≤ deque_capacity l.entries)
