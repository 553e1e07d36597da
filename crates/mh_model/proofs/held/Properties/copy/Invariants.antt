use Rattle.std.proofs.Common.{◌≡◌, take}
use Rattle.mh_model.proofs.held.Properties.copy.Given as goal

abbrev pub invariant-loop-property : goal.invariant-loop-property
invariant-loop-property l = l.list.items ≡ take l.property-index l.property-items
