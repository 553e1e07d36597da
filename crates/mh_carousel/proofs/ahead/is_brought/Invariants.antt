use Rattle.std.proofs.Common.{◌≡◌, drop, take}
use Rattle.std.specs.List.{list_any}
use Rattle.mh_carousel.specs.Ahead.{brings}
use Rattle.mh_carousel.proofs.ahead.is_brought.Given as goal

abbrev pub invariant-loop-place : goal.invariant-loop-place
invariant-loop-place l =
    list_any (brings l.name) (drop l.place (take l.count l.queue.items)) ≡ list_any (brings l.name) (take l.count l.queue.items)
