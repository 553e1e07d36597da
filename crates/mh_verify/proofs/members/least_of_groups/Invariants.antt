use Rattle.std.proofs.Common.{◌≡◌, drop}
use Rattle.std.specs.List.{flat_map}
use Rattle.mh_flow.specs.Solved.{held_by}
use Rattle.mh_verify.specs.Refusals.{part_refused}
use Rattle.mh_verify.specs.Least.{least_of}
use Rattle.mh_verify.proofs.members.least_of_groups.Given as goal

abbrev pub invariant-loop-part : goal.invariant-loop-part
invariant-loop-part l =
    least_of l.best (flat_map (part_refused l.scope.present (held_by l.scope.present l.scope.held) l.scope.config.now) (drop l.part-index l.parts))
    ≡ least_of l.fn.best (flat_map (part_refused l.scope.present (held_by l.scope.present l.scope.held) l.scope.config.now) l.parts)
