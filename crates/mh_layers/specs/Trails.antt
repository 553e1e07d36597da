-- Trails: the nodes by way of which one effect puts another to work, and the arrow that tells of it.
use Rattle.std.specs.Prelude.{◌≡◌, ◌⊎◌, true, false, ◌&&◌}
use Rattle.std.specs.List.{list_any}
use Rattle.std.specs.Option.{option_map_or}
use Rattle.mh_model.specs.Configuration.{present}
use Rattle.mh_model.specs.Service.{Service, part_at}
use Rattle.mh_laws.specs.Costs.{Effect, act}
use Rattle.mh_laws.specs.Each.{Among}
use Rattle.mh_laws.specs.Flow.{Flow}
use Rattle.mh_laws.specs.Layers.{IsOn}
use Rattle.mh_flow.specs.Sites.{sites_of}
use Rattle.mh_layers.specs.declared.arrows.arrow.Arrow.{Arrow}
use Rattle.mh_layers.specs.declared.numbered_node.NumberedNode.{NumberedNode}
use Rattle.mh_layers.specs.Arrows.{AreGrantedBy, counts, granted, is_action_in, is_action_of, is_waited_for, number_by}
use Rattle.mh_layers.specs.Bridge.{node_of}
use Rattle.mh_layers.specs.Causing.{Counts, is_effect}
use Rattle.mh_layers.specs.Cycle.{cause_of}
use Rattle.mh_layers.specs.Reading.{Reading, flow_read, heard_read, name}
use Rattle.mh_layers.specs.EffectSites.{effect_named}
use Rattle.mh_layers.specs.NodeGraph.{counted, effect_number}

-- the node is that of an active effect
pub record IsActive (r : Reading) (k : NumberedNode) : Type 0 where
  pub own : k ≡ effect_number r (effect_named r k)
  pub on : IsOn r.service (flow_read r) (effect_named r k)

-- the node is the effect's, or one that is no effect and counts it
abbrev pub LeadsTo : Reading → NumberedNode → Effect → Type 0
LeadsTo r k y =
    (k ≡ effect_number r y)
    ⊎ ((is_effect (name r k) ≡ false) × Counts r.service (flow_read r) (heard_read r) (name r k) (node_of y))

-- the first effect, which is active, counts this node, which leads to the last, which is active too
pub record IsStep (r : Reading) (from first to : NumberedNode) : Type 0 where
  pub from_number : from ≡ effect_number r (effect_named r from)
  pub to_number : to ≡ effect_number r (effect_named r to)
  pub from_on : IsOn r.service (flow_read r) (effect_named r from)
  pub to_on : IsOn r.service (flow_read r) (effect_named r to)
  pub counted : Among (counted r from) first
  pub onward : LeadsTo r first (effect_named r to)

-- The arrow from one effect to another: its action is one of the first, and with what it grants puts the other to work; what it
-- says of how is so; and what it grants is so by the flow.
pub record IsArrowFor (v : Service) (w : Flow) (x y : Effect) (a : Arrow) : Type 0 where
  pub cause : a.cause ≡ cause_of v x
  pub own : option_map_or (is_action_in x.number a) (part_at x.object (present v x.config)) false ≡ true
  pub puts :
      list_any (λ s. is_action_of a s && counts y (act v (granted v a y.config s.act) x.config s.act)) (sites_of (present v x.config)) ≡ true
  pub by : number_by a.by ≡ y.number
  pub waited : option_map_or (is_waited_for a.by) (part_at y.object (present v y.config)) false ≡ true
  pub granted : AreGrantedBy v w a

abbrev pub IsArrowOf : Reading → NumberedNode → NumberedNode → Arrow → Type 0
IsArrowOf r from to a = IsArrowFor r.service (flow_read r) (effect_named r from) (effect_named r to) a
