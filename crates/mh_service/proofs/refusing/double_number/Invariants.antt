use Rattle.std.proofs.Common.{◌≡◌, drop}
use Rattle.mh_service.specs.Refusals.{double_number}
use Rattle.mh_service.proofs.refusing.double_number.Given as goal

abbrev pub invariant-loop-file : goal.invariant-loop-file
invariant-loop-file l = double_number (drop l.file-index l.files) ≡ double_number l.files
