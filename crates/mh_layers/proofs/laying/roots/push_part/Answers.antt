use Rattle.std.specs.Prelude.{◌++◌, map}
use Rattle.std.proofs.Common.{ap, ◌∙◌}
use Rattle.mh_layers.specs.declared.numbered_node.NumberedNode.TheVariants as node
use Rattle.mh_layers.specs.Layered.{acting_among}
use Rattle.mh_layers.proofs.laying.roots.push_part.Goals as goal

pub returns : goal.returns
returns c =
    let own = ap (map (λ e. e.now)) c.as_slice.ensures.value ∙ c.in_ok-effects.ensures in
    c.in_ok-push_acting.ensures
    ∙ (λ i. c.args.nodes.now.items ++ map (λ n. node.Effect c.args.config (c.object_number-object.ensures i) n) (acting_among (own i)))
