use Rattle.std.proofs.Common.{◌≡◌, drop, []}
use Rattle.mh_service.specs.Refusals.{double_name}
use Rattle.mh_service.proofs.refusing.double_name.Given as goal

abbrev pub invariant-loop-file : goal.invariant-loop-file
invariant-loop-file l = double_name l.seen.keys (drop l.file-index l.files) ≡ double_name [] l.files
