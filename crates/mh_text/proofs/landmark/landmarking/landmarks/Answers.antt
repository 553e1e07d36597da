-- What is found are the landmarks of the text, and those lie within it.
use Rattle.std.proofs.Common.{rules, ◌≡◌}
use Rattle.mh_text.specs.Landmarks.{landmarks}
use Rattle.mh_text.proofs.LandmarkLemmas.{landmarks_within}
use Rattle.mh_text.proofs.landmark.landmarking.landmarks.Goals as goal

pub returns-clause-within : goal.returns-clause-within
returns-clause-within c =
    let all : c.loop-found.found.items ≡ landmarks c.args.bytes.now = search rules in
    rw all (landmarks_within c.args.bytes.now)
