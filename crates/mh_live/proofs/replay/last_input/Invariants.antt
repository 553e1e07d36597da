use Rattle.std.proofs.Common.{◌≡◌, ◌+◌, length}
use Rattle.mh_live.specs.Playing.{last_input}
use Rattle.mh_live.proofs.replay.last_input.Given as goal

abbrev pub decreases-loop-rest : goal.decreases-loop-rest
decreases-loop-rest l = length l.rest

abbrev pub invariant-loop-rest : goal.invariant-loop-rest
invariant-loop-rest l =
    (last_input l.found l.place l.rest ≡ last_input 0 0 l.fn.posts) × (l.place + length l.rest ≡ length l.fn.posts)
