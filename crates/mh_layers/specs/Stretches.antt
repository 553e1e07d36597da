-- Stretches: a trail of nodes, parted at its effects.
use Rattle.std.specs.Prelude.{◌≡◌, false, true, Bool, if◌then◌else◌, List, [], ◌∷◌, Option, Some, None, slice_get, unwrap_or}
use Rattle.std.specs.List.{filter_map}
use Rattle.mh_paths.specs.declared.graph.Arrow.{Arrow as Step}
use Rattle.mh_layers.specs.declared.arrows.arrow.Arrow.{Arrow}
use Rattle.mh_layers.specs.declared.numbered_node.NumberedNode.{NumberedNode}
use Rattle.mh_layers.specs.declared.numbered_node.NumberedNode.TheVariants as node
use Rattle.mh_layers.specs.declared.cycle.trail.Stretch.{Stretch}
use Rattle.mh_layers.specs.Reading.{Reading}
use Rattle.mh_layers.specs.Trails.{IsArrowOf, IsStep}

-- the nodes to which these lead, one after another
abbrev pub nodes_along : List NumberedNode → List Step → List NumberedNode
nodes_along ks p = filter_map (λ (a : Step). slice_get ks a.to) p

abbrev pub is_effect_node : NumberedNode → Bool
is_effect_node (node.Effect c o n) = true
is_effect_node _ = false

-- from this effect on, behind which this node was met, if one was: a stretch ends, and the next begins, at each effect
abbrev pub stretches : NumberedNode → Option NumberedNode → List NumberedNode → List Stretch
stretches from first [] = []
stretches from first (k ∷ ks) =
    if is_effect_node k then record { from = from; first = unwrap_or first k; to = k } ∷ stretches k None ks
    else stretches from (Some (unwrap_or first k)) ks

abbrev pub IsStretch : Reading → Stretch → Type 0
IsStretch r s = IsStep r s.from s.first s.to

-- an arrow for each of these
abbrev pub AreArrowsOf : Reading → List Stretch → List Arrow → Type 0
AreArrowsOf r [] [] = Unit {0}
AreArrowsOf r [] (a ∷ rest) = false ≡ true
AreArrowsOf r (s ∷ ss) [] = false ≡ true
AreArrowsOf r (s ∷ ss) (a ∷ rest) = IsArrowOf r s.from s.to a × AreArrowsOf r ss rest
