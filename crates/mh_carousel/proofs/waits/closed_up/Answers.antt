use Rattle.std.proofs.Common.{◌∙◌, ◌≡◌, ap, List, take}
use Rattle.mh_model.specs.declared.file.Wait.{Wait}
use Rattle.mh_carousel.specs.Waited.{joined, wait_at}
use Rattle.mh_carousel.proofs.WalkLemmas.{joined_here}
use Rattle.mh_carousel.proofs.waits.closed_up.Goals as goal

pub loop-place-preserved : goal.loop-place-preserved
loop-place-preserved c =
    c.in_ok-take_up.ensures
    ∙ ap (λ (ws : List Wait). joined ws (wait_at c.args.objects.now.entries c.args.names.now.entries c.loop-place.place c.slot_at-slot.result)) c.loop-place.invariant
    ∙ joined_here c.args.objects.now.entries c.args.names.now.entries c.args.slots.now c.reveal_apart.ensures.objects c.loop-place.place c.slot_at-slot.result c.slot_at-slot.ensures
