use Rattle.std.proofs.Common.{◌≡◌, drop}
use Rattle.mh_service.specs.Limits.{whole_room}
use Rattle.mh_service.specs.Refusals.{over_limit}
use Rattle.mh_service.proofs.refusing.over_limit.Given as goal

abbrev pub invariant-loop-file : goal.invariant-loop-file
invariant-loop-file l = over_limit l.room (drop l.file-index l.files) ≡ over_limit whole_room l.files
