use Rattle.std.proofs.Common.{◌++◌, ap, ◌∙◌, List}
use Rattle.std.specs.List.{flat_map}
use Rattle.mh_model.specs.declared.object.Fixed.{Fixed}
use Rattle.mh_lint.proofs.FindingLemmas.{groups_joined}
use Rattle.mh_lint.proofs.uses.objects.objects_of.Goals as goal

pub loop-parts-init : goal.loop-parts-init
loop-parts-init c =
    let itself = λ (ps : List Fixed). ps in
    let all = ap (flat_map itself) (c.into_iter-parts-iterator.ensures.into_iter_gives ∙ c.values-parts-items.ensures.rest) ∙ groups_joined itself c.groups.result.now.entries ∙ (λ i. flat_map (λ g. g.1) (c.groups.ensures.entries i)) in
    (λ i. c.new-objects.ensures.items i ++ all i)
