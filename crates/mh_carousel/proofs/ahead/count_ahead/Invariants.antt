use Rattle.std.proofs.Common.{◌≡◌, ◌≤◌, ◌+◌, length, take}
use Rattle.mh_model.specs.Step.{files_ahead}
use Rattle.mh_carousel.specs.Carried.{files_of}
use Rattle.mh_carousel.proofs.ahead.count_ahead.Given as goal

abbrev pub invariant-loop-place : goal.invariant-loop-place
invariant-loop-place l =
    (l.count ≡ length (files_ahead (files_of l.files.entries) (take l.place l.queue.items)))
    × (l.count ≤ length l.files.entries + l.place)
