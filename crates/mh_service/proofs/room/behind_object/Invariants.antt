use Rattle.std.proofs.Common.{◌≡◌, ◌+◌, drop}
use Rattle.std.specs.List.{sum_by}
use Rattle.mh_service.specs.Limits.{field_actions}
use Rattle.mh_service.proofs.room.behind_object.Given as goal

abbrev pub invariant-loop-field : goal.invariant-loop-field
invariant-loop-field l = l.left + sum_by field_actions l.fields ≡ l.room + sum_by field_actions (drop l.field-index l.fields)
