use Rattle.std.proofs.Common.{◌≡◌, ◌++◌, drop}
use Rattle.mh_edit.specs.Outline.{outline}
use Rattle.mh_edit.proofs.outline.outline_of.Given as goal

abbrev pub invariant-loop-spot : goal.invariant-loop-spot
invariant-loop-spot l = l.found.items ++ outline (drop l.spot-index l.spots) ≡ outline l.spots
