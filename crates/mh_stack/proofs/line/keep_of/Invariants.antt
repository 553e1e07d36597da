use Rattle.std.proofs.Common.{◌≡◌, length, filter}
use Rattle.mh_stack.specs.Rings.{order}
use Rattle.mh_stack.proofs.KeepLemmas.{is_left, is_of}
use Rattle.mh_stack.proofs.line.keep_of.Given as goal

abbrev pub invariant-loop-index : goal.invariant-loop-index
invariant-loop-index l =
    (order l.ring ≡ filter (is_left (is_of l.application l.refs) l.index) (order l.initial.ring)) × (length l.ring.above ≡ length l.initial.ring.above)
