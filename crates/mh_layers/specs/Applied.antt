-- What an action comes to by nodes, done to one object; and an action of an effect that counts a node so.
use Rattle.std.specs.Prelude.{◌≡◌, ℕ, List, slice_get, Some}
use Rattle.mh_base.specs.declared.obj_ref.ObjRef.{ObjRef}
use Rattle.mh_model.specs.declared.act.Act.{Act}
use Rattle.mh_model.specs.declared.config.Config.{Config}
use Rattle.mh_laws.specs.Costs.{targets}
use Rattle.mh_laws.specs.Each.{Among}
use Rattle.mh_laws.specs.Price.{Price, counted_in}
use Rattle.mh_laws.specs.View.{done_to}
use Rattle.mh_layers.specs.declared.numbered_node.NumberedNode.{NumberedNode}
use Rattle.mh_layers.specs.declared.numbered_node.NumberedNode.TheVariants as node
use Rattle.mh_layers.specs.CostNode.{CostNode}
use Rattle.mh_layers.specs.Numbered.{numbered}
use Rattle.mh_layers.specs.Reading.{Reading, around_at, flow_read, number, context_in}

-- what the action comes to, done to the object in the configuration
abbrev pub puts_so : Reading → Config → Act → ObjRef → Price CostNode
puts_so r c a t = done_to (around_at (context_in r c)) a.name a.arguments t

-- it counts the node
abbrev pub CountsNode : Reading → Config → Act → ObjRef → NumberedNode → Type 0
CountsNode r c a t k = Among (counted_in (numbered (number r) (puts_so r c a t))) k

-- the number of the object of an effect
abbrev pub object_in : NumberedNode → ℕ
object_in (node.Effect c o n) = o
object_in _ = 0

-- the number of an effect through those of its object
abbrev pub number_in : NumberedNode → ℕ
number_in (node.Effect c o n) = n
number_in _ = 0

-- one of several actions, by its place among them, and the object to which it is done
pub record AppliedAction : Type 0 where
  pub offset : ℕ
  pub act : Act
  pub at : ObjRef

-- it stands at the place, its target may come to the object, and done to it it counts the node
pub record IsApplied (r : Reading) (c : Config) (acts : List Act) (k : NumberedNode) (d : AppliedAction) : Type 0 where
  pub place : slice_get acts d.offset ≡ Some d.act
  pub target : Among (targets (flow_read r) c d.act.target) d.at
  pub counts : CountsNode r c d.act d.at k

-- no action does so
pub record NoneApplied (r : Reading) (c : Config) (acts : List Act) (k : NumberedNode) : Type 0 where
  pub none : (d : AppliedAction) → IsApplied r c acts k d → ⊥

-- the action counts the node done to none of these objects
pub record NoneCounts (r : Reading) (c : Config) (a : Act) (ts : List ObjRef) (k : NumberedNode) : Type 0 where
  pub none : (t : ObjRef) → Among ts t → CountsNode r c a t k → ⊥
