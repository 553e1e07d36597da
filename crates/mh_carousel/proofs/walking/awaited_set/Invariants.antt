use Rattle.std.proofs.Common.{◌≡◌, take}
use Rattle.mh_carousel.specs.Carried.{awaited_names}
use Rattle.mh_carousel.specs.Waited.{waits_from}
use Rattle.mh_carousel.proofs.walking.awaited_set.Given as goal

abbrev pub invariant-loop-place : goal.invariant-loop-place
invariant-loop-place l = l.found.keys ≡ awaited_names (waits_from l.objects.entries l.names.entries 0 (take l.place l.slots))
