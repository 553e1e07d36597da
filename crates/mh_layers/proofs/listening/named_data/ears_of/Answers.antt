use Rattle.std.proofs.Common.{List, ap, ◌∙◌}
use Rattle.std.specs.List.{flat_map}
use Rattle.std.specs.Map.{lookup}
use Rattle.mh_model.specs.declared.object.Fixed.{Fixed}
use Rattle.mh_layers.specs.Listening.{ear_of, is_ear, named, same_ear}
use Rattle.mh_layers.proofs.ListeningLemmas.{joined}
use Rattle.mh_layers.proofs.listening.named_data.ears_of.Goals as goal

pub loop-parts-init : goal.loop-parts-init
loop-parts-init c = λ q.
    let all = ap (flat_map (λ (ps : List Fixed). ps)) (c.into_iter-parts-iterator.ensures.into_iter_gives ∙ c.values-parts-items.ensures.rest) ∙ joined c.args.groups.now.entries in
    λ i. named (λ p. is_ear q (ear_of c.args.objects.now.keys p)) (lookup (same_ear q) (c.new-ears.ensures.empty i)) (all i)
