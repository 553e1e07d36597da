use Rattle.std.proofs.Common.{◌≡◌, ◌+◌, length}
use Rattle.mh_live.specs.Playing.{next_input}
use Rattle.mh_live.proofs.replay.next_input.Given as goal

abbrev pub decreases-loop-rest : goal.decreases-loop-rest
decreases-loop-rest l = length l.rest

abbrev pub invariant-loop-rest : goal.invariant-loop-rest
invariant-loop-rest l =
    (next_input l.place l.rest ≡ next_input l.fn.first l.fn.posts) × (l.place + length l.rest ≡ l.fn.first + length l.fn.posts)
