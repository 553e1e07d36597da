use Rattle.std.proofs.Common.{◌++◌, ◌∷◌, ap, ◌∙◌, suc, ◌+◌, drop, length, List}
use Rattle.mh_model.specs.declared.act.Act.{Act}
use Rattle.mh_flow.specs.Sites.{through_effects}
use Rattle.mh_flow.proofs.SiteLemmas.{effects_behind, drop_next}
use Rattle.mh_flow.proofs.sites.push_slots.Goals as goal

pub loop-slot-preserved : goal.loop-slot-preserved
loop-slot-preserved c =
    let old = c.loop-slot.sites.items in
    let behind = drop (c.loop-slot.slot-index + 1) c.args.slots.now in
    effects_behind c.args.key.now old c.push_effect.new.sites.items c.as_slice.result.now behind c.in_ok-push_effect.ensures
    ∙ ap (λ (x : List Act). old ++ through_effects c.args.key.now (suc (length old)) (x ∷ behind)) c.as_slice.ensures
    ∙ ap (λ (t : List (List Act)). old ++ through_effects c.args.key.now (suc (length old)) t) (drop_next c.args.slots.now c.loop-slot.slot-index c.slot-item.result c.loop-slot-test.true c.slot-item.is)
    ∙ c.loop-slot.invariant
