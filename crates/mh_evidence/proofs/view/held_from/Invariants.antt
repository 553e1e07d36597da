use Rattle.std.proofs.Common.{◌≡◌, ◌-◌, drop, length}
use Rattle.mh_layers.specs.Arrows.{held_by}
use Rattle.mh_evidence.proofs.view.held_from.Given as goal

abbrev pub invariant-loop-one : goal.invariant-loop-one
invariant-loop-one l = held_by (drop l.place l.held) l.by ≡ held_by (drop l.initial.place l.held) l.by

abbrev pub decreases-loop-one : goal.decreases-loop-one
decreases-loop-one l = length l.held - l.place
