-- Nodes and effects: what nodes cost, and how they are ranked, is what effects cost and how they are layered.
use Rattle.std.specs.Prelude.{◌≡◌, ◌<◌, ℕ, suc, ◌+◌, ◌*◌, min, Bool, true, List, Option, Some}
use Rattle.mh_base.specs.declared.obj_ref.ObjRef.{ObjRef}
use Rattle.mh_base.specs.declared.event.EventType.{EventType}
use Rattle.mh_model.specs.declared.act.Act.{Act}
use Rattle.mh_model.specs.declared.config.Config.{Config}
use Rattle.mh_model.specs.Configuration.{has_keys, is_service}
use Rattle.mh_model.specs.Service.{Service}
use Rattle.mh_laws.specs.Costs as costs
use Rattle.mh_laws.specs.Flow.{Flow, reached}
use Rattle.mh_laws.specs.Layers.{Causes, IsCost, IsLayering, IsOn, most_of}
use Rattle.mh_laws.specs.Price.{Price, counted_in, worth, Nodes}
use Rattle.mh_laws.specs.View as view
use Rattle.mh_laws.specs.Ways.{Told}
use Rattle.mh_layers.specs.CostNode.{CostNode, Effect}
use Rattle.mh_layers.specs.CostNodes.{Heard, HearsAll, IsKept, IsMet, level, lists, around_of, objects, price_of, stands_for}
use Rattle.mh_layers.specs.Known.{top}
use Rattle.mh_layers.specs.Layering.{AreLayers, CountsKept, NoneRanked, Places, cost_in, is_laid, rank_in}
use Rattle.mh_layers.specs.Numbered.{AreNamed, numbered}
use Rattle.mh_layers.specs.declared.numbered_node.NumberedNode.{NumberedNode}

-- a service as it is read, with all that is heard where its flow may lead
pub record IsRead (v : Service) (w : Flow) (h : Heard) : Type 0 where
  pub service : is_service v ≡ true
  pub keys : has_keys v ≡ true
  pub hears : HearsAll v w h

-- what a node costs, where effects cost so much
abbrev pub node_cost : Service → Flow → costs.Costing → CostNode → ℕ
node_cost v w f k = worth f (stands_for v w k)

abbrev pub node_of : costs.Effect → CostNode
node_of x = Effect x.config x.object x.number

-- PRICES. Over nodes each price comes to what it does over effects, whatever these cost.

abbrev pub ComesTo : Service → Flow → Price CostNode → Price costs.Effect → Type 0
ComesTo v w p q = (f : costs.Costing) → worth (node_cost v w f) p ≡ worth f q

pub record PricesAgree (v : Service) (w : Flow) (h : Heard) (c : Config) : Type 0 where
  pub emit : (r : ObjRef) (kind : EventType) (d : Told) → ComesTo v w (view.emit (objects v w h c) r kind d) (costs.emit v w c r kind d)
  pub run : (r : ObjRef) → ComesTo v w (view.run (lists v w h c) r) (costs.run v w c r)
  pub halt : (r : ObjRef) → ComesTo v w (view.halt (lists v w h c) r) (costs.halt v w c r)
  pub change : (r : ObjRef) → ComesTo v w (view.change (objects v w h c) r) (costs.change v w c r)
  pub exchange : (g : List ℕ) → ComesTo v w ((around_of v w h c).exchange g) (costs.exchange v w c g)
  pub act : (a : Act) → ComesTo v w (view.act (around_of v w h c) a) (costs.act v w c a)

abbrev pub NodesAgree : Type 0
NodesAgree = (v : Service) (w : Flow) (h : Heard) → IsRead v w h → (c : Config) → reached w c ≡ true → PricesAgree v w h c

-- WHAT IS COUNTED. Whatever may have a number counts what is met alone.
abbrev pub CountedIsMet : Type 0
CountedIsMet =
    (v : Service) (w : Flow) (h : Heard) → IsRead v w h → (k : CostNode) → IsKept v w h k → Nodes (IsMet v w h) (price_of v w h k)

-- COSTS. Where effects have exact costs, so has each node that is met.
abbrev pub NodesCost : Type 0
NodesCost =
    (v : Service) (w : Flow) (h : Heard) → IsRead v w h → (f : costs.Costing) → IsCost v w f → (k : CostNode) → IsMet v w h k →
    node_cost v w f k ≡ worth (node_cost v w f) (price_of v w h k)

-- some of the nodes that may have one have a cost and a rank
abbrev pub IsHad : Service → Flow → Heard → (CostNode → Bool) → CostNode → Type 0
IsHad v w h has k = (has k ≡ true) × IsKept v w h k

-- and costs that are laid by name are these, cut at the largest number
abbrev pub NodesAreExact : Type 0
NodesAreExact =
    (v : Service) (w : Flow) (h : Heard) → IsRead v w h →
    (has : CostNode → Bool) (cost : CostNode → Option ℕ) (rank : CostNode → ℕ) →
    AreNamed (price_of v w h) (IsHad v w h has) cost rank → (f : costs.Costing) → IsCost v w f →
    (k : CostNode) → has k ≡ true → IsMet v w h k → cost k ≡ Some (min (node_cost v w f k) top)

-- RANKS. Where ranks of nodes fall along their prices, those of effects are a layering.

-- what such a node counts has one too, and a lower rank; and each effect that causes something has one
pub record AreRanked (v : Service) (w : Flow) (h : Heard) (has : CostNode → Bool) (rank : CostNode → ℕ) : Type 0 where
  pub falls : (k : CostNode) → IsHad v w h has k → Nodes (λ j. IsHad v w h has j × (rank j < rank k)) (price_of v w h k)
  pub effects : (x y : costs.Effect) → IsOn v w x → Causes v w x y → has (node_of x) ≡ true

abbrev pub RanksAreLayers : Type 0
RanksAreLayers =
    (v : Service) (w : Flow) (h : Heard) → IsRead v w h → (has : CostNode → Bool) (rank : CostNode → ℕ) →
    AreRanked v w h has rank → IsLayering v w (λ x. rank (node_of x))

-- And a layering of effects ranks all nodes: below the effects that it is counted by, and above those that it counts.

abbrev pub node_rank : Service → Flow → (costs.Effect → ℕ) → CostNode → ℕ
node_rank v w rank (Effect c r n) = 7 * rank (record { config = c; object = r; number = n }) + 6
node_rank v w rank k = 7 * most_of (λ x. suc (rank x)) (counted_in (stands_for v w k)) + level k

abbrev pub LayersAreRanks : Type 0
LayersAreRanks =
    (v : Service) (w : Flow) (h : Heard) → IsRead v w h → (rank : costs.Effect → ℕ) → IsLayering v w rank →
    (k : CostNode) → IsKept v w h k → Nodes (λ j. node_rank v w rank j < node_rank v w rank k) (price_of v w h k)

-- NUMBERS. Nodes are laid by numbers.

-- what may have a cost is found again by its number, whose price is its own
pub record AreNumbers (v : Service) (w : Flow) (h : Heard) (number : CostNode → NumberedNode) (name : NumberedNode → CostNode) (price : NumberedNode → Price NumberedNode) : Type 0 where
  pub back : (k : CostNode) → IsKept v w h k → name (number k) ≡ k
  pub prices : (n : NumberedNode) → IsKept v w h (name n) → price n ≡ numbered number (price_of v w h (name n))

-- a number whose node may have a cost
abbrev pub KeptBy : Service → Flow → Heard → (NumberedNode → CostNode) → NumberedNode → Type 0
KeptBy v w h name n = IsKept v w h (name n)

abbrev pub has_by : Places → (CostNode → NumberedNode) → CostNode → Bool
has_by ts number k = is_laid ts (number k)

abbrev pub cost_by : Places → (CostNode → NumberedNode) → CostNode → Option ℕ
cost_by ts number k = cost_in ts (number k)

abbrev pub rank_by : Places → (CostNode → NumberedNode) → CostNode → ℕ
rank_by ts number k = rank_in ts (number k)

-- What such numbers count may have a cost. What is laid by them is so by name, it is the exact costs of the service, cut at the
-- largest number, and a layering, if each effect is laid that causes something; and where they have no ranks there is none.
pub record NumbersServe (v : Service) (w : Flow) (h : Heard) (number : CostNode → NumberedNode) (name : NumberedNode → CostNode) (price : NumberedNode → Price NumberedNode) : Type 0 where
  pub counted : CountsKept price (KeptBy v w h name)
  pub named :
      (ts : Places) → AreLayers price (KeptBy v w h name) ts →
      AreNamed (price_of v w h) (IsHad v w h (has_by ts number)) (cost_by ts number) (rank_by ts number)
  pub exact :
      (ts : Places) → AreLayers price (KeptBy v w h name) ts → (f : costs.Costing) → IsCost v w f →
      (k : CostNode) → has_by ts number k ≡ true → IsMet v w h k → cost_by ts number k ≡ Some (min (node_cost v w f k) top)
  pub layering :
      (ts : Places) → AreLayers price (KeptBy v w h name) ts →
      ((x y : costs.Effect) → IsOn v w x → Causes v w x y → has_by ts number (node_of x) ≡ true) →
      IsLayering v w (λ x. rank_by ts number (node_of x))
  pub none : NoneRanked price (KeptBy v w h name) → (rank : costs.Effect → ℕ) → IsLayering v w rank → ⊥

abbrev pub LaidByNumber : Type 0
LaidByNumber =
    (v : Service) (w : Flow) (h : Heard) → IsRead v w h → (number : CostNode → NumberedNode) (name : NumberedNode → CostNode) (price : NumberedNode → Price NumberedNode) →
    AreNumbers v w h number name price → NumbersServe v w h number name price
