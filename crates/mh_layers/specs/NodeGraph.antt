-- The nodes of a service as a graph: an arrow from each to each that it counts. An arrow to an effect has as its label a number
-- for the place of the effect, in the order of places; any other arrow is silent.
use Rattle.std.specs.Prelude.{◌≡◌, ℕ, List, [], ◌∷◌, ◌++◌, length, map, slice_get, Option, Some, None}
use Rattle.std.specs.List.{Contains, flat_map}
use Rattle.std.specs.Option.{option_map_or}
use Rattle.mh_paths.specs.declared.graph.Arrow.{Arrow}
use Rattle.mh_paths.specs.declared.graph.Graph.{Graph}
use Rattle.mh_paths.specs.Chains.{Chain, arrows_of, labels_along}
use Rattle.mh_laws.specs.Costs as costs
use Rattle.mh_laws.specs.Each.{Among}
use Rattle.mh_laws.specs.Layers.{IsOn}
use Rattle.mh_laws.specs.Price.{counted_in}
use Rattle.mh_layers.specs.declared.numbered_node.NumberedNode.{NumberedNode}
use Rattle.mh_layers.specs.declared.numbered_node.NumberedNode.TheVariants as node
use Rattle.mh_layers.specs.Bridge.{node_of}
use Rattle.mh_layers.specs.Cycle.{Leads}
use Rattle.mh_layers.specs.Reading.{IsReading, Reading, flow_read, kept, number, price}

-- the number of an effect
abbrev pub effect_number : Reading → costs.Effect → NumberedNode
effect_number r x = number r (node_of x)

-- the nodes that this one counts
abbrev pub counted : Reading → NumberedNode → List NumberedNode
counted r k = counted_in (price r k)

-- the label of an arrow to this node
abbrev pub label_to : (NumberedNode → ℕ) → NumberedNode → Option ℕ
label_to label (node.Effect c o n) = Some (label (node.Effect c o n))
label_to label _ = None

-- the arrow leads to a node that this one counts
pub record IsArrow (r : Reading) (ks : List NumberedNode) (mark : NumberedNode → ℕ) (k : NumberedNode) (a : Arrow) : Type 0 where
  pub to : NumberedNode
  pub counts : Among (counted r k) to
  pub place : slice_get ks a.to ≡ Some to
  pub label : a.label ≡ label_to mark to

-- the graph has these nodes, each once, and what they count is among them
pub record IsNodeGraph (r : Reading) (ks : List NumberedNode) (label : NumberedNode → ℕ) (g : Graph) : Type 0 where
  pub nodes : length g.nodes.items ≡ length ks
  pub once : (m n : ℕ) (k : NumberedNode) → slice_get ks m ≡ Some k → slice_get ks n ≡ Some k → m ≡ n
  pub kept : (n : ℕ) (k : NumberedNode) → slice_get ks n ≡ Some k → kept r k
  pub arrows : (n : ℕ) (k : NumberedNode) → slice_get ks n ≡ Some k → (a : Arrow) → Contains (arrows_of g n) a → IsArrow r ks label k a
  pub all :
      (n : ℕ) (k : NumberedNode) → slice_get ks n ≡ Some k → (j : NumberedNode) → Among (counted r k) j →
      (a : Arrow) × Contains (arrows_of g n) a × (slice_get ks a.to ≡ Some j) × (a.label ≡ label_to label j)

-- the effects to which these arrows lead, one after another

abbrev pub if_effect : NumberedNode → List NumberedNode
if_effect (node.Effect c o n) = node.Effect c o n ∷ []
if_effect _ = []

abbrev pub effect_to : List NumberedNode → Arrow → List NumberedNode
effect_to ks a = option_map_or if_effect (slice_get ks a.to) []

abbrev pub effects_along : List NumberedNode → List Arrow → List NumberedNode
effects_along ks p = flat_map (effect_to ks) p

-- an active effect that puts itself to work is on a cycle of the graph, and each cycle through it tells of such
pub record CyclesAreTold (r : Reading) (ks : List NumberedNode) (label : NumberedNode → ℕ) (g : Graph) (x : costs.Effect) (n : ℕ) : Type 0 where
  pub there :
      (zs : List costs.Effect) → Leads r.service (flow_read r) x zs x →
      (p : List Arrow) × Chain g (arrows_of g n) p n × (labels_along p ≡ map (λ z. label (effect_number r z)) (zs ++ x ∷ []))
  pub told :
      (p : List Arrow) → Chain g (arrows_of g n) p n →
      (zs : List costs.Effect) × Leads r.service (flow_read r) x zs x × (map (effect_number r) (zs ++ x ∷ []) ≡ effects_along ks p)
      × (labels_along p ≡ map (λ z. label (effect_number r z)) (zs ++ x ∷ []))

abbrev pub NodeGraphsTell : Type 0
NodeGraphsTell =
    (r : Reading) (ks : List NumberedNode) (label : NumberedNode → ℕ) (g : Graph) → IsReading r → IsNodeGraph r ks label g →
    (x : costs.Effect) → IsOn r.service (flow_read r) x → (n : ℕ) → slice_get ks n ≡ Some (effect_number r x) →
    CyclesAreTold r ks label g x n
