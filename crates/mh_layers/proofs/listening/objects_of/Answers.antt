use Rattle.std.proofs.Common.{List, ap, ◌∙◌}
use Rattle.std.specs.List.{flat_map}
use Rattle.indexmap.specs.IndexSet.{insert_all}
use Rattle.mh_model.specs.declared.object.Fixed.{Fixed}
use Rattle.mh_model.specs.Reference.{same_key}
use Rattle.mh_layers.specs.Listening.{mentioned}
use Rattle.mh_layers.proofs.ListeningLemmas.{joined}
use Rattle.mh_layers.proofs.listening.objects_of.Goals as goal

pub loop-parts-init : goal.loop-parts-init
loop-parts-init c =
    let all = ap (flat_map (λ (ps : List Fixed). ps)) (c.into_iter-parts-iterator.ensures.into_iter_gives ∙ c.values-parts-items.ensures.rest) ∙ joined c.args.groups.now.entries in
    λ i. insert_all same_key (c.new-objects.ensures.empty i) (flat_map mentioned (all i))
