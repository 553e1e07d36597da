use Rattle.std.proofs.Common.{◌≡◌, ◌+◌, ◌-◌, ◌++◌}
use Rattle.mh_flow.specs.Opening.{side_by_side}
use Rattle.mh_flow.proofs.opening.leading.push_all_along.Given as goal

abbrev pub invariant-loop-place : goal.invariant-loop-place
invariant-loop-place l =
    l.items.items ++ side_by_side (l.from.application + l.place) (l.to.application + l.place) (l.count - l.place)
    ≡ l.initial.items.items ++ side_by_side l.from.application l.to.application l.count
