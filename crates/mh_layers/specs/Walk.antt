-- The first cycle, found by its number: the node graph of the nodes that are not laid, and the first of these that is on a cycle.
use Rattle.std.specs.Prelude.{◌≡◌, ◌⊎◌, not, true, List, [], ◌∷◌, ◌++◌, filter, Option, Some, None}
use Rattle.std.specs.List.{flat_map}
use Rattle.std.specs.Ordering.{is_lt}
use Rattle.mh_paths.specs.declared.graph.Arrow.{Arrow}
use Rattle.mh_paths.specs.declared.graph.Graph.{Graph}
use Rattle.mh_paths.specs.Chains.{IsFirstCycle, NoCycle}
use Rattle.mh_laws.specs.Each.{Among, Each}
use Rattle.mh_layers.specs.declared.cause.Cause.{Cause}
use Rattle.mh_layers.specs.declared.cycle.Best.{Best}
use Rattle.mh_layers.specs.declared.numbered_node.NumberedNode.{NumberedNode}
use Rattle.mh_layers.specs.declared.cycle.effect_site.EffectSite.{EffectSite}
use Rattle.mh_layers.specs.Cycle.{by_effect_site}
use Rattle.mh_layers.specs.Layered.{active_nodes}
use Rattle.mh_layers.specs.Layering.{Places, is_laid}
use Rattle.mh_layers.specs.Reading.{Reading}
use Rattle.mh_layers.specs.EffectSites.{AreEffectSites, cause_named, causes_to, label_in, node_index}
use Rattle.mh_layers.specs.NodeGraph.{IsNodeGraph}

-- those that are not laid
abbrev pub unlaid : Places → List NumberedNode → List NumberedNode
unlaid ts ks = filter (λ k. not (is_laid ts k)) ks

-- the node graph of these nodes, with labels for the places of all active effects
pub record IsNodeGraphOf (r : Reading) (roots ks : List NumberedNode) (g : Graph) : Type 0 where
  pub effect_sites : List EffectSite
  pub are : AreEffectSites r (active_nodes r) effect_sites
  pub node_graph : IsNodeGraph r ks (label_in r effect_sites) g
  pub listed : Each (Among ks) roots

-- of the nodes that were seen this is the first that is on a cycle, and its first cycle
pub record IsBest (r : Reading) (ks : List NumberedNode) (g : Graph) (seen : List NumberedNode) (b : Best) : Type 0 where
  pub there : Among seen b.node
  pub cause : b.cause ≡ cause_named r b.node
  pub first : IsFirstCycle g (node_index ks b.node) b.trail.items
  pub soonest :
      (k : NumberedNode) → Among seen k → is_lt (by_effect_site (cause_named r k) b.cause) ≡ true → NoCycle g (node_index ks k)

-- or none is on one
abbrev pub AreBest : Reading → List NumberedNode → Graph → List NumberedNode → Option Best → Type 0
AreBest r ks g seen None = (k : NumberedNode) → Among seen k → NoCycle g (node_index ks k)
AreBest r ks g seen (Some b) = IsBest r ks g seen b

-- with one more node that was seen
pub record IsTried (r : Reading) (ks : List NumberedNode) (g : Graph) (k : NumberedNode) (old new : Option Best) : Type 0 where
  pub best : (seen : List NumberedNode) → AreBest r ks g seen old → AreBest r ks g (seen ++ k ∷ []) new

-- the node, or the lead
abbrev pub IsOneOf : Option NumberedNode → NumberedNode → NumberedNode → Type 0
IsOneOf lead k j = (k ≡ j) ⊎ (lead ≡ Some j)

-- the causes along a trail, and in front that of the effect at which it begins and ends
abbrev pub causes_along : Reading → List NumberedNode → List Arrow → List Cause
causes_along r ks p = flat_map (causes_to r ks) p
