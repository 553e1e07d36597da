-- The nodes that a node counts; and the rows of all that are met on from some nodes.
use Rattle.std.specs.Prelude.{◌≡◌, ℕ, List, slice_get, Some, Vec}
use Rattle.std.specs.declared.alloc.Global.{Global}
use Rattle.mh_laws.specs.Each.{Among, Each}
use Rattle.mh_laws.specs.Price.{Price, counted_in}
use Rattle.mh_layers.specs.declared.numbered_node.NumberedNode.{NumberedNode}

-- the node counts each of these, if it is kept, and nothing else
pub record AreCounted (price : NumberedNode → Price NumberedNode) (kept : NumberedNode → Type 0) (k : NumberedNode) (js : List NumberedNode) : Type 0 where
  pub each : kept k → (j : NumberedNode) → Among js j → Among (counted_in (price k)) j
  pub all : kept k → (j : NumberedNode) → Among (counted_in (price k)) j → Among js j

-- what stands somewhere stays there
pub record Stays (old new : List NumberedNode) : Type 0 where
  pub each : (n : ℕ) (k : NumberedNode) → slice_get old n ≡ Some k → slice_get new n ≡ Some k

-- a row for each of the first nodes: what it counts, which is among the nodes
pub record AreRows (price : NumberedNode → Price NumberedNode) (kept : NumberedNode → Type 0) (ks : List NumberedNode) (rows : List (Vec NumberedNode Global)) : Type 0 where
  pub holds : Each kept ks
  pub each :
      (n : ℕ) (row : Vec NumberedNode Global) → slice_get rows n ≡ Some row →
      (k : NumberedNode) × (slice_get ks n ≡ Some k) × AreCounted price kept k row.items × Each (Among ks) row.items
