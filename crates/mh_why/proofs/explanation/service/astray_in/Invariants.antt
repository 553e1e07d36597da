use Rattle.std.proofs.Common.{◌≡◌, drop}
use Rattle.mh_why.specs.Services.{astray_in}
use Rattle.mh_why.proofs.explanation.service.astray_in.Given as goal

abbrev pub invariant-loop-landmark : goal.invariant-loop-landmark
invariant-loop-landmark l = astray_in l.from (drop l.landmark-index l.landmarks) ≡ astray_in l.from l.landmarks
