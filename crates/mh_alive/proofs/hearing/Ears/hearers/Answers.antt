use Rattle.std.proofs.Common.{ap, ◌∙◌}
use Rattle.std.specs.List.{flat_map}
use Rattle.indexmap.specs.IndexSet.{insert_all}
use Rattle.mh_model.specs.Reference.{same_key}
use Rattle.mh_alive.specs.Hearing.{hearing_of}
use Rattle.mh_alive.proofs.GatheringLemmas.{groups_joined}
use Rattle.mh_alive.proofs.hearing.Ears.hearers.Goals as goal

pub loop-parts-init : goal.loop-parts-init
loop-parts-init c =
    let f = hearing_of c.args.self.now in
    let all = ap (flat_map f) (c.into_iter-parts-iterator.ensures.into_iter_gives ∙ c.values-parts-items.ensures.rest) ∙ groups_joined f c.groups.result.now.entries ∙ ap (flat_map (λ g. f g.1)) c.groups.ensures.entries in
    λ i. insert_all same_key (c.new-hearers.ensures.empty i) (all i)
