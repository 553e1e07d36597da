-- A node that counts itself, by way of others.
use Rattle.mh_laws.specs.Each.{Among}
use Rattle.mh_laws.specs.Price.{Price, counted_in}
use Rattle.mh_layers.specs.declared.numbered_node.NumberedNode.{NumberedNode}

-- the first node counts the last, at once or by way of others
pub data CountsOn (price : NumberedNode → Price NumberedNode) : NumberedNode → NumberedNode → Type 0 where
  once : (k j : NumberedNode) → Among (counted_in (price k)) j → CountsOn price k j
  onward : (k i j : NumberedNode) → Among (counted_in (price k)) i → CountsOn price i j → CountsOn price k j

-- a kept node counts itself so
pub record HasLoop (price : NumberedNode → Price NumberedNode) (kept : NumberedNode → Type 0) : Type 0 where
  pub node : NumberedNode
  pub has : kept node
  pub round : CountsOn price node node
