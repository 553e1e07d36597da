use Rattle.std.proofs.Common.{◌≡◌, ◌+◌, ◌<◌, Option, Some, ℕ, subst, sym, ap, arith}
use Rattle.mh_carousel.proofs.WalkLemmas.{AreFound, up_to, found_more, nearer, next_within}
use Rattle.mh_carousel.proofs.walking.waiting.Goals as goal

pub loop-next-preserved : goal.loop-next-preserved
loop-next-preserved c =
    let now = subst (λ (n : Option ℕ). AreFound c.args.objects.now.entries c.args.names.now.entries c.args.slots.now c.args.name.now n c.loop-next.found.items) c.in-Some.is c.loop-next.invariant in
    found_more c.args.objects.now.entries c.args.names.now.entries c.args.slots.now c.args.name.now c.requires c.in-Some.place c.slot_at-slot.result c.slot_at-slot.ensures now.1 c.loop-next.found.items _ c.in_ok-push_at.ensures now

pub loop-next-smaller : goal.loop-next-smaller
loop-next-smaller c =
    let now = subst (λ (n : Option ℕ). AreFound c.args.objects.now.entries c.args.names.now.entries c.args.slots.now c.args.name.now n c.loop-next.found.items) c.in-Some.is c.loop-next.invariant in
    let less : up_to c.slot_at-slot.result.older < c.in-Some.place + 1 = nearer c.args.objects.now.entries c.args.names.now.entries c.args.slots.now c.args.name.now c.requires c.in-Some.place c.slot_at-slot.result c.slot_at-slot.ensures now.1 in
    subst (λ (n : Option ℕ). up_to c.slot_at-slot.result.older < up_to n) (sym c.in-Some.is) less
