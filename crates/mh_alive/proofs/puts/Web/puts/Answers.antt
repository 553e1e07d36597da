use Rattle.std.proofs.Common.{ap, ◌∙◌}
use Rattle.std.specs.List.{flat_map}
use Rattle.indexmap.specs.IndexSet.{insert_all}
use Rattle.mh_model.specs.Reference.{same_key}
use Rattle.mh_alive.specs.Puts.{puts_of}
use Rattle.mh_alive.proofs.GatheringLemmas.{groups_joined}
use Rattle.mh_alive.proofs.puts.Web.puts.Goals as goal

pub loop-parts-init : goal.loop-parts-init
loop-parts-init c =
    let x = c.args.self.now in
    let all = ap (flat_map (puts_of x)) (c.into_iter-parts-iterator.ensures.into_iter_gives ∙ c.values-parts-items.ensures.rest) ∙ groups_joined (puts_of x) c.groups.result.now.entries ∙ ap (flat_map (λ g. puts_of x g.1)) c.groups.ensures.entries in
    λ i. insert_all same_key (c.new-puts.ensures.empty i) (all i)
