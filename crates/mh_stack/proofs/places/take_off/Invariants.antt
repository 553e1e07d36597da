use Rattle.std.proofs.Common.{◌≡◌, ◌≤◌, ◌++◌, drop, length}
use Rattle.std.specs.Prelude.{take, vec_len}
use Rattle.std.specs.Vec.{vec_capacity}
use Rattle.mh_model.specs.Stack.{without}
use Rattle.mh_stack.proofs.places.take_off.Given as goal

-- those from this place on are gone over
abbrev pub invariant-loop-left : goal.invariant-loop-left
invariant-loop-left l =
    (l.left ≤ length l.initial.places.items) × (l.places.items ≡ take l.left l.initial.places.items ++ without l.at (drop l.left l.initial.places.items))
    × (vec_len l.places ≤ vec_len l.initial.places) × (vec_capacity l.places ≡ vec_capacity l.initial.places)

abbrev pub decreases-loop-left : goal.decreases-loop-left
decreases-loop-left l = l.left
