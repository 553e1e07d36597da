use Rattle.std.proofs.Common.{take}
use Rattle.mh_layers.specs.Applied.{NoneApplied}
use Rattle.mh_layers.proofs.arrows.applied.doing_of.Given as goal

abbrev pub invariant-loop-offset : goal.invariant-loop-offset
invariant-loop-offset l = NoneApplied l.here.reading l.here.config (take l.offset l.acts) l.node
