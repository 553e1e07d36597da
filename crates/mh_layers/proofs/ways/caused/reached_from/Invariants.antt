use Rattle.std.proofs.Common.{◌^◌, ◌-◌}
use Rattle.mh_layers.specs.Caused.{AreOpened}
use Rattle.mh_layers.proofs.ways.caused.reached_from.Given as goal

abbrev pub invariant-loop-found : goal.invariant-loop-found
invariant-loop-found l = AreOpened l.numbered_service l.root l.found.keys l.place

abbrev pub decreases-loop-found : goal.decreases-loop-found
decreases-loop-found l = 2 ^ 64 - l.place
