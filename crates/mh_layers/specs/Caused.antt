-- The nodes that a node counts, at once or by way of nodes that are no effects, as they are found by their numbers.
use Rattle.std.specs.Prelude.{◌≡◌, ◌<◌, ◌+◌, ℕ, false, List, slice_get, Some}
use Rattle.indexmap.specs.IndexSet.{insert_all}
use Rattle.mh_laws.specs.Each.{Among}
use Rattle.mh_layers.specs.declared.numbered_node.NumberedNode.{NumberedNode}
use Rattle.mh_layers.specs.CostNode.{CostNode}
use Rattle.mh_layers.specs.Successors.{AreCounted}
use Rattle.mh_layers.specs.Causing.{Counts}
use Rattle.mh_layers.specs.NumberedNodes.{same_node}
use Rattle.mh_layers.specs.Reading.{Reading, flow_read, heard_read, kept, name, number, price}
use Rattle.mh_layers.specs.Stretches.{is_effect_node}
use Rattle.mh_layers.specs.NodeGraph.{counted}

-- the number is that of its node, which may have a cost
pub record IsNamed (r : Reading) (k : NumberedNode) : Type 0 where
  pub back : number r (name r k) ≡ k
  pub has : kept r k

abbrev pub CountsFrom : Reading → NumberedNode → CostNode → Type 0
CountsFrom r k y = Counts r.service (flow_read r) (heard_read r) (name r k) y

-- the first counts a node with this number so
pub record IsCounted (r : Reading) (k j : NumberedNode) : Type 0 where
  pub of : CostNode
  pub counts : CountsFrom r k of
  pub told : number r of ≡ j

-- these are all that it counts so
pub record AreReached (r : Reading) (root : NumberedNode) (js : List NumberedNode) : Type 0 where
  pub each : (j : NumberedNode) → Among js j → IsCounted r root j
  pub all : (y : CostNode) → CountsFrom r root y → Among js (number r y)

-- these are counted so, and what it counts at once is among them, and what the first of them count that are no effects
pub record AreOpened (r : Reading) (root : NumberedNode) (js : List NumberedNode) (n : ℕ) : Type 0 where
  pub each : (j : NumberedNode) → Among js j → IsCounted r root j
  pub first : (j : NumberedNode) → Among (counted r root) j → Among js j
  pub opened :
      (m : ℕ) (k : NumberedNode) → m < n → slice_get js m ≡ Some k → is_effect_node k ≡ false → (j : NumberedNode) →
      Among (counted r k) j → Among js j

-- what the node counts is among them now
pub record IsPut (r : Reading) (k : NumberedNode) (old new : List NumberedNode) : Type 0 where
  pub row : List NumberedNode
  pub are : AreCounted (price r) (kept r) k row
  pub now : new ≡ insert_all same_node old row

-- and what the one at this place counts, if it is no effect
pub record IsOpened (r : Reading) (n : ℕ) (old new : List NumberedNode) : Type 0 where
  pub more : (root : NumberedNode) → IsNamed r root → AreOpened r root old n → AreOpened r root new (n + 1)
