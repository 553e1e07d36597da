use Rattle.mh_carousel.proofs.WalkLemmas.{AreFound, up_to}
use Rattle.mh_carousel.proofs.walking.waiting.Given as goal

abbrev pub invariant-loop-next : goal.invariant-loop-next
invariant-loop-next l = AreFound l.objects.entries l.names.entries l.slots l.name l.next l.found.items

abbrev pub decreases-loop-next : goal.decreases-loop-next
decreases-loop-next l = up_to l.next
