-- Nodes whose configurations and objects stand at their numbers.
use Rattle.std.specs.Prelude.{◌≡◌, true}
use Rattle.mh_layers.specs.declared.numbered_node.NumberedNode.{NumberedNode}
use Rattle.mh_layers.specs.Reading.{Reading, kept}
use Rattle.mh_layers.specs.Stretches.{is_effect_node}

-- the node of an effect that may have a cost
abbrev pub IsEffectKept : Reading → NumberedNode → Type 0
IsEffectKept r k = kept r k × (is_effect_node k ≡ true)
