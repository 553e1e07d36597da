use Rattle.std.proofs.Common.{◌≡◌, ◌++◌, [], filter, get_or, map, not}
use Rattle.std.specs.List.{range_with_len}
use Rattle.mh_model.specs.Step.{is_empty}
use Rattle.mh_layers.specs.declared.numbered_node.NumberedNode.TheVariants as node
use Rattle.mh_layers.proofs.laying.roots.push_acting.Given as goal

abbrev pub invariant-loop-number : goal.invariant-loop-number
invariant-loop-number l =
    l.nodes.items
    ≡ l.initial.nodes.items
    ++ map (λ n. node.Effect l.config l.object n) (filter (λ n. not (is_empty (get_or (map (λ e. e.now) l.effects) n []))) (range_with_len 0 l.number))
