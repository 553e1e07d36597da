-- What effects cause, node by node: by way of nodes that are no effects.
use Rattle.std.specs.Prelude.{◌≡◌, Bool, true, false}
use Rattle.mh_model.specs.Service.{Service}
use Rattle.mh_laws.specs.Costs as costs
use Rattle.mh_laws.specs.Each.{Among}
use Rattle.mh_laws.specs.Flow.{Flow}
use Rattle.mh_laws.specs.Layers.{Causes, IsOn}
use Rattle.mh_laws.specs.Price.{counted_in}
use Rattle.mh_layers.specs.CostNode.{CostNode, Effect}
use Rattle.mh_layers.specs.Bridge.{IsRead, node_of}
use Rattle.mh_layers.specs.CostNodes.{Heard, price_of}

abbrev pub is_effect : CostNode → Bool
is_effect (Effect c r n) = true
is_effect _ = false

-- the first node counts the last, at once or by way of nodes that are no effects
pub data Counts (v : Service) (w : Flow) (h : Heard) : CostNode → CostNode → Type 0 where
  once : (k j : CostNode) → Among (counted_in (price_of v w h k)) j → Counts v w h k j
  onward : (k i j : CostNode) → Among (counted_in (price_of v w h k)) i → is_effect i ≡ false → Counts v w h i j → Counts v w h k j

-- an active effect causes just those whose nodes its own counts so
pub record AreCaused (v : Service) (w : Flow) (h : Heard) (x : costs.Effect) : Type 0 where
  pub counted : (y : costs.Effect) → Causes v w x y → Counts v w h (node_of x) (node_of y)
  pub causes : (y : costs.Effect) → Counts v w h (node_of x) (node_of y) → Causes v w x y

abbrev pub NodesCause : Type 0
NodesCause = (v : Service) (w : Flow) (h : Heard) → IsRead v w h → (x : costs.Effect) → IsOn v w x → AreCaused v w h x
