use Rattle.std.proofs.Common.{rules, ap, ◌∙◌, arith, take}
use Rattle.mh_places.specs.Places.{place_behind}
use Rattle.mh_places.proofs.CountingLemmas.{rejoined}
use Rattle.mh_places.proofs.counting.place_from.Goals as goal

pub returns-in-Some : goal.returns-in-Some
returns-in-Some c =
    search (rules, c.in-Some.ensures, c.further.ensures, rejoined)
