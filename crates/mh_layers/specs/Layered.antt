-- The layers of a service, as they are laid: by numbers, of all active effects that have actions.
use Rattle.std.specs.Prelude.{◌≡◌, ℕ, Bool, not, List, [], ◌∷◌, ◌++◌, map, filter, get_or, length, min}
use Rattle.std.specs.List.{flat_map, range_with_len}
use Rattle.mh_model.specs.declared.act.Act.{Act}
use Rattle.mh_model.specs.declared.config.Config.{Config}
use Rattle.mh_model.specs.declared.object.Fixed.{Fixed}
use Rattle.mh_model.specs.Configuration.{present, starting}
use Rattle.mh_model.specs.Service.{Service}
use Rattle.mh_model.specs.Step.{is_empty}
use Rattle.mh_laws.specs.Active.{is_active}
use Rattle.mh_laws.specs.Budget.{Bounds, six_costs}
use Rattle.mh_laws.specs.Costs as costs
use Rattle.mh_laws.specs.Layers.{IsCost, IsLayering, IsOn}
use Rattle.mh_flow.specs.Solved.{Solved, flow_in}
use Rattle.mh_layers.specs.declared.bounds.InputKind.{InputKind}
use Rattle.mh_layers.specs.declared.bounds.InputKind.TheVariants as kind
use Rattle.mh_layers.specs.declared.numbered_node.NumberedNode.{NumberedNode}
use Rattle.mh_layers.specs.declared.numbered_node.NumberedNode.TheVariants as node
use Rattle.mh_layers.specs.Bounding.{capped}
use Rattle.mh_layers.specs.Bridge.{cost_by, node_of, rank_by}
use Rattle.mh_layers.specs.Known.{top}
use Rattle.mh_layers.specs.Layering.{Places}
use Rattle.mh_layers.specs.Reading.{Reading, config_number, flow_read, number, object_number}
use Rattle.mh_layers.specs.Taking.{or_nothing}

-- what was read, what is laid, and the bounds
pub record Layered : Type 0 where
  pub reading : Reading
  pub places : Places
  pub bounds : Bounds

-- the effects of an object that have actions, by their numbers
abbrev pub has_actions : Fixed → ℕ → Bool
has_actions p n = not (is_empty (costs.effect_at p n))

-- the same where these are the effects
abbrev pub acting_among : List (List Act) → List ℕ
acting_among es = filter (λ n. not (is_empty (get_or es n []))) (range_with_len 0 (length es))

abbrev pub acting : Fixed → List ℕ
acting p = filter (has_actions p) (range_with_len 0 (length (costs.effects p)))

-- the nodes of these, and of all such that are active in a configuration, and anywhere

abbrev pub nodes_at : Reading → ℕ → Fixed → List NumberedNode
nodes_at r c p = map (λ n. node.Effect c (object_number r p.key) n) (acting p)

abbrev pub nodes_in : Reading → Config → Fixed → List NumberedNode
nodes_in r c p = nodes_at r (config_number r c) p

abbrev pub nodes_active : Reading → Config → List NumberedNode
nodes_active r c = flat_map (nodes_in r c) (filter (is_active (present r.service c)) (present r.service c))

abbrev pub active_nodes : Reading → List NumberedNode
active_nodes r = flat_map (nodes_active r) (flow_read r).configs

abbrev pub rank_laid : Layered → costs.Effect → ℕ
rank_laid l x = rank_by l.places (number l.reading) (node_of x)

-- what is not laid costs nothing; an active effect is not laid only if it has no actions
abbrev pub cost_laid : Layered → costs.Effect → ℕ
cost_laid l x = or_nothing (cost_by l.places (number l.reading) (node_of x))

-- the ranks are a layering of the service; each active effect has its exact cost, and the start and each kind of input its
-- own, cut at the largest number
pub record AreLayersOf (v : Service) (f : Solved) (l : Layered) : Type 0 where
  pub layering : IsLayering v (flow_in v f) (rank_laid l)
  pub exact :
      (cost : costs.Costing) → IsCost v (flow_in v f) cost → (x : costs.Effect) → IsOn v (flow_in v f) x →
      cost_laid l x ≡ min (cost x) top
  pub bounds : (cost : costs.Costing) → IsCost v (flow_in v f) cost → l.bounds ≡ capped (six_costs v (flow_in v f) cost)

-- the nodes of the start and of all inputs, and after them those of all effects that have actions
abbrev pub kinds : List InputKind
kinds = kind.Key ∷ kind.Tick ∷ kind.Stream ∷ kind.Engine ∷ kind.Arrive ∷ []

abbrev pub input_nodes : Reading → Config → List NumberedNode
input_nodes r c = map (λ k. node.Taken (config_number r c) k) kinds

abbrev pub root_nodes : Reading → List NumberedNode
root_nodes r =
    node.Taken (config_number r (starting r.service)) kind.Start ∷ flat_map (input_nodes r) (flow_read r).configs ++ active_nodes r
