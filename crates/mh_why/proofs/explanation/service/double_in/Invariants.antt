use Rattle.std.proofs.Common.{◌≡◌, drop, []}
use Rattle.mh_why.specs.Services.{double_from}
use Rattle.mh_why.proofs.explanation.service.double_in.Given as goal

abbrev pub invariant-loop-landmark : goal.invariant-loop-landmark
invariant-loop-landmark l = double_from l.seen.keys (drop l.landmark-index l.landmarks) ≡ double_from [] l.landmarks
