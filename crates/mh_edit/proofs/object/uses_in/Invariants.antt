use Rattle.std.proofs.Common.{◌≡◌, ◌++◌, drop}
use Rattle.mh_edit.specs.Objects.{uses}
use Rattle.mh_edit.proofs.object.uses_in.Given as goal

abbrev pub invariant-loop-spot : goal.invariant-loop-spot
invariant-loop-spot l = l.found.items ++ uses l.from l.bytes l.object (drop l.spot-index l.spots) ≡ uses l.from l.bytes l.object l.spots
