use Rattle.std.proofs.Common.{◌∙◌}
use Rattle.mh_store.specs.Places.{is_among}
use Rattle.mh_store.proofs.NamedLemmas.{ready_by_places}
use Rattle.mh_store.proofs.group.Group.ready.Goals as goal

pub loop-place-init : goal.loop-place-init
loop-place-init c =
    ready_by_places (is_among c.args.waiting.now) c.args.text.now c.args.self.now c.deref-place-items.result.now c.new-ready.result.items
    c.new-ready.ensures.items (c.deref-place-items.ensures.value ∙ c.in_ok-places.ensures)
