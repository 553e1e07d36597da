-- The stages of a way, by numbers: what the actions of an effect cost, and the effect that comes next.
use Rattle.std.specs.Prelude.{◌≡◌, ◌<◌, ◌+◌, ℕ, false, true, List, [], ◌∷◌, ◌++◌, map, slice_get, Option, Some, None, Result, Ok}
use Rattle.mh_model.specs.declared.act.Act.{Act}
use Rattle.mh_model.specs.declared.config.Config.{Config}
use Rattle.mh_laws.specs.Costs.{Costing, Effect}
use Rattle.mh_laws.specs.Layers.{IsCost}
use Rattle.mh_laws.specs.View.{act}
use Rattle.mh_layers.specs.declared.bounds.InputKind.{InputKind}
use Rattle.mh_layers.specs.declared.ways.dearest.Dearest.{Dearest}
use Rattle.mh_layers.specs.declared.numbered_node.NumberedNode.{NumberedNode}
use Rattle.mh_layers.specs.declared.ways.stages.Next.{Next}
use Rattle.mh_layers.specs.declared.ways.stages.Part.{Part}
use Rattle.mh_layers.specs.declared.ways.way.Stage.{Stage}
use Rattle.mh_layers.specs.declared.ways.way.Way.{Way}
use Rattle.mh_layers.specs.CostNode.{Taken}
use Rattle.mh_layers.specs.Bridge.{node_of}
use Rattle.mh_layers.specs.Caused.{CountsFrom, IsNamed}
use Rattle.mh_layers.specs.Choosing.{effect_cost}
use Rattle.mh_layers.specs.Dearest.{AreStages, IsFirstLargest, IsWay, acts_of}
use Rattle.mh_layers.specs.Known.{known_worth}
use Rattle.mh_layers.specs.Layering.{Places}
use Rattle.mh_layers.specs.Reading.{Reading, around_at, flow_read, known_by, number, context_in}
use Rattle.mh_layers.specs.EffectSites.{cause_named, effect_named}

-- what is told of the cost of an action
abbrev pub act_worth : Reading → Places → Config → Act → Result ℕ NumberedNode
act_worth r ts c a = known_worth (known_by r ts) (act (around_at (context_in r c)) a)

abbrev pub all_known : List ℕ → List (Result ℕ NumberedNode)
all_known ns = map (λ (n : ℕ). Ok n) ns

-- it is told
pub record IsKnown (w : Result ℕ NumberedNode) : Type 0 where
  pub cost : ℕ
  pub is : w ≡ Ok cost

-- the effect costs something, which is laid, and has its own cause
pub record IsCostly (r : Reading) (ts : Places) (d : Dearest) : Type 0 where
  pub cause : d.cause ≡ cause_named r d.node
  pub cost : d.cost ≡ effect_cost ts d.node
  pub costs : 0 < d.cost

-- the action with this place
pub record IsPartAt (acts : List Act) (n m : ℕ) (p : Part) : Type 0 where
  pub offset : p.offset ≡ n
  pub cost : p.cost ≡ m
  pub act : Act
  pub there : slice_get acts n ≡ Some act
  pub name : p.action ≡ act.name

-- this is the first of the actions that cost most, with its place among them and its cost
pub record IsPart (r : Reading) (ts : Places) (c : Config) (acts : List Act) (p : Part) : Type 0 where
  pub costs : List ℕ
  pub known : map (act_worth r ts c) acts ≡ all_known costs
  pub first : IsFirstLargest (λ (n : ℕ). n) costs p.offset p.cost
  pub act : Act
  pub there : slice_get acts p.offset ≡ Some act
  pub name : p.action ≡ act.name

-- the stage tells of the effect that was chosen, and of an action of it
pub record IsStageBy (r : Reading) (ts : Places) (d : Dearest) (n : Next) : Type 0 where
  pub part : Part
  pub is : IsPart r ts (effect_named r d.node).config (acts_of r.service (effect_named r d.node)) part
  pub node : n.node ≡ d.node
  pub cause : n.stage.cause ≡ d.cause
  pub cost : n.stage.cost ≡ d.cost
  pub index : n.stage.index ≡ d.cause.index + part.offset
  pub action : n.stage.action ≡ part.action
  pub part_cost : n.stage.part ≡ part.cost

-- the stages tell of what the node with this number puts to work, by whatever exact costs
abbrev pub PutsFrom : Reading → NumberedNode → Effect → Type 0
PutsFrom r k y = CountsFrom r k (node_of y)

pub record AreStagesFrom (r : Reading) (k : NumberedNode) (ss : List Stage) : Type 0 where
  pub by : (f : Costing) → IsCost r.service (flow_read r) f → AreStages r.service (flow_read r) f (PutsFrom r k) ss

-- the stages so far, and behind them those from this node on, are the stages from the root on
pub record AreStagesTo (r : Reading) (root : NumberedNode) (so_far : List Stage) (k : NumberedNode) : Type 0 where
  pub named : IsNamed r k
  pub rest : (ss : List Stage) → AreStagesFrom r k ss → AreStagesFrom r root (so_far ++ ss)

-- one stage, and those from its effect on
abbrev pub IsNext : Reading → NumberedNode → Option Next → Type 0
IsNext r k None = AreStagesFrom r k []
IsNext r k (Some n) = AreStagesTo r k (n.stage ∷ []) n.node

-- a way that begins in this configuration
pub record IsWayIn (r : Reading) (c : Config) (k : InputKind) (n : ℕ) (y : Way) : Type 0 where
  pub kind : y.kind ≡ k
  pub config : y.config ≡ c
  pub cost : y.cost ≡ n
  pub stages : AreStagesFrom r (number r (Taken c k)) y.stages.items

-- a way by whatever exact costs
pub record IsWayOf (r : Reading) (k : InputKind) (y : Way) : Type 0 where
  pub kind : y.kind ≡ k
  pub by : (f : Costing) → IsCost r.service (flow_read r) f → IsWay r.service (flow_read r) f y

-- one for each of these kinds
abbrev pub AreWays : Reading → List InputKind → List Way → Type 0
AreWays r [] [] = Unit {0}
AreWays r [] (y ∷ ys) = false ≡ true
AreWays r (k ∷ ks) [] = false ≡ true
AreWays r (k ∷ ks) (y ∷ ys) = IsWayOf r k y × AreWays r ks ys
