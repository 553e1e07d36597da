use Rattle.std.proofs.Common.{◌^◌, ◌-◌, length}
use Rattle.mh_layers.specs.Successors.{AreRows, Stays}
use Rattle.mh_layers.specs.Reading.{kept, price}
use Rattle.mh_layers.proofs.cycle.successors.rows_of.Given as goal

abbrev pub invariant-loop-rows : goal.invariant-loop-rows
invariant-loop-rows l = AreRows (price l.numbered_service) (kept l.numbered_service) l.nodes.keys l.rows.items × Stays l.initial.nodes.keys l.nodes.keys

abbrev pub decreases-loop-rows : goal.decreases-loop-rows
decreases-loop-rows l = 2 ^ 64 - length l.rows.items
