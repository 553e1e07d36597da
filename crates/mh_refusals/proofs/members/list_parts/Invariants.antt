use Rattle.std.proofs.Common.{◌≡◌, drop}
use Rattle.std.specs.List.{flat_map}
use Rattle.mh_flow.specs.Solved.{held_by}
use Rattle.mh_verify.specs.Refusals.{part_refused}
use Rattle.mh_refusals.specs.Places.{listed}
use Rattle.mh_refusals.proofs.members.list_parts.Given as goal

abbrev pub invariant-loop-part : goal.invariant-loop-part
invariant-loop-part l =
    listed l.most l.list.items (flat_map (part_refused l.scope.present (held_by l.scope.present l.scope.held) l.scope.config.now) (drop l.part-index l.parts))
    ≡ listed l.most l.initial.list.items (flat_map (part_refused l.scope.present (held_by l.scope.present l.scope.held) l.scope.config.now) l.parts)
