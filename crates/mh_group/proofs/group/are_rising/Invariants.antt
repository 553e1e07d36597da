use Rattle.std.proofs.Common.{◌≡◌, drop}
use Rattle.mh_group.specs.Fit.{rises_above}
use Rattle.mh_group.proofs.group.are_rising.Given as goal

abbrev pub invariant-loop-field : goal.invariant-loop-field
invariant-loop-field l = rises_above l.last (drop l.field-index l.fields) ≡ rises_above 0 l.fields
