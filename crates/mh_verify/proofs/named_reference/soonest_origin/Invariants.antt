use Rattle.std.proofs.Common.{take}
use Rattle.mh_verify.specs.Naming.{IsBest}
use Rattle.mh_verify.proofs.named_reference.soonest_origin.Given as goal

abbrev pub invariant-loop-at : goal.invariant-loop-at
invariant-loop-at l = IsBest l.service l.config l.holder (take l.at-index l.origins) l.best
