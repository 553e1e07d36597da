-- What is found, and the landmarks of the tokens that are left, are together the landmarks of all.
use Rattle.std.proofs.Common.{◌≡◌, ◌++◌, length}
use Rattle.mh_text.specs.Landmarks.{landmarks, landmarks_from}
use Rattle.mh_text.proofs.landmark.landmarking.landmarks.Given as goal

abbrev pub invariant-loop-found : goal.invariant-loop-found
invariant-loop-found l = l.found.items ++ landmarks_from (record { field = l.field; front = l.front }) l.place.pieces ≡ landmarks l.fn.bytes

abbrev pub decreases-loop-found : goal.decreases-loop-found
decreases-loop-found l = length l.place.pieces
