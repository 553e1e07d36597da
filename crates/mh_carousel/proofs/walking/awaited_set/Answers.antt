use Rattle.std.proofs.Common.{◌∙◌, ap, List, map, ℕ}
use Rattle.std.specs.Str.{bytes_eq}
use Rattle.indexmap.specs.IndexSet.{insert_all}
use Rattle.mh_carousel.specs.Waited.{wait_at}
use Rattle.mh_carousel.proofs.WalkLemmas.{next_awaited}
use Rattle.mh_carousel.proofs.walking.awaited_set.Goals as goal

pub loop-place-preserved : goal.loop-place-preserved
loop-place-preserved c =
    c.in_ok-put_at.ensures
    ∙ ap (λ (ns : List (List ℕ)). insert_all bytes_eq ns (map (λ w. w.name) (wait_at c.args.objects.now.entries c.args.names.now.entries c.loop-place.place c.slot_at-slot.result))) c.loop-place.invariant
    ∙ next_awaited c.args.objects.now.entries c.args.names.now.entries c.args.slots.now c.loop-place.place c.slot_at-slot.result c.slot_at-slot.ensures
