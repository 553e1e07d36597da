-- A service as it is read for its layers, and the numbers of its nodes: a node is told by the places of its configuration, of
-- its object and of its value, each among all of its kind.
use Rattle.std.specs.Prelude.{◌≡◌, ℕ, Bool, true, ◌&&◌, if◌then◌else◌, List, [], ◌∷◌, length, map, position, slice_get, unwrap_or, get_or, is_some, Option, None, Result}
use Rattle.std.specs.List.{flat_map}
use Rattle.std.specs.Option.{option_eq, option_map}
use Rattle.std.specs.Str.{bytes_eq}
use Rattle.indexmap.specs.IndexSet.{insert_all}
use Rattle.mh_base.specs.declared.obj_ref.ObjRef.{ObjRef}
use Rattle.mh_base.specs.declared.value.Value.{Value}
use Rattle.mh_base.specs.declared.value.Value.TheVariants as value
use Rattle.mh_base.specs.declared.event.EventType.{EventType}
use Rattle.mh_base.specs.Event.{is_sync}
use Rattle.mh_model.specs.declared.act.Act.{Act}
use Rattle.mh_model.specs.declared.config.Config.{Config}
use Rattle.mh_model.specs.declared.object.Fixed.{Fixed}
use Rattle.mh_model.specs.Configuration.{present}
use Rattle.mh_model.specs.Reference.{group_ref, same_key}
use Rattle.mh_model.specs.Service.{Service, is_there}
use Rattle.mh_model.specs.Variables.{same_value}
use Rattle.mh_laws.specs.Costs.{TimerKey}
use Rattle.mh_laws.specs.Flow.{Flow}
use Rattle.mh_laws.specs.Price.{Price, Node, Plus, if_price}
use Rattle.mh_laws.specs.View.{Around}
use Rattle.mh_laws.specs.Ways.{Told}
use Rattle.mh_flow.specs.Solved.{IsFlowOf, Solved, flow_in, held_by, held_in}
use Rattle.mh_layers.specs.declared.numbered_node.Hears.{Hears}
use Rattle.mh_layers.specs.declared.numbered_node.Hears.TheVariants as hears
use Rattle.mh_layers.specs.declared.numbered_node.NumberedNode.{NumberedNode}
use Rattle.mh_layers.specs.declared.numbered_node.NumberedNode.TheVariants as node
use Rattle.mh_layers.specs.CostNode.{CostNode, Effect, Fired, Entry, Change, Leave, Enter, Taken, Hearing, Plain, With, Any}
use Rattle.mh_layers.specs.Bridge.{AreNumbers, KeptBy}
use Rattle.mh_layers.specs.CostNodes.{Heard, every_timer, hearing, around_of, price_of, values}
use Rattle.mh_layers.specs.Known.{told}
use Rattle.mh_layers.specs.Layering.{Places, cost_in}
use Rattle.mh_layers.specs.Listening.{IsListening, Listeners, heard}
use Rattle.mh_layers.specs.Numbered.{numbered}
use Rattle.mh_layers.specs.NumberedEffects.{effects_at}

pub record Reading : Type 0 where
  pub service : Service
  pub flow : Solved
  pub listeners : Listeners

abbrev pub flow_read : Reading → Flow
flow_read r = flow_in r.service r.flow

abbrev pub heard_read : Reading → Heard
heard_read r = heard r.listeners

-- the flow is that of the service, and the listeners are all of its links
pub record IsReading (r : Reading) : Type 0 where
  pub flow : IsFlowOf r.service r.flow
  pub listening : IsListening r.service r.listeners

-- Places

-- the place of the first that passes; behind all, if none does
abbrev pub place_among : {X : Type 0} → (X → Bool) → List X → ℕ
place_among t xs = unwrap_or (position t xs) (length xs)

abbrev pub same_setting : Config → Config → Bool
same_setting c d = bytes_eq c.app d.app && option_eq bytes_eq c.scene d.scene

abbrev pub setting : List ℕ → Option (List ℕ) → Config
setting app scene = record { app = app; scene = scene }

-- the configurations that are reached, each once
abbrev pub settings : Reading → List Config
settings r = insert_all same_setting [] (flow_read r).configs

-- what is held in each of them
abbrev pub lists_read : Reading → List (List (List ObjRef))
lists_read r = map (held_in r.service r.flow) (settings r)

-- the data that links name which wait for such events
abbrev pub values_read : Reading → ObjRef → EventType → List Value
values_read r o kind = values (heard_read r o kind)

abbrev pub config_number : Reading → Config → ℕ
config_number r c = place_among (same_setting c) (settings r)

abbrev pub object_number : Reading → ObjRef → ℕ
object_number r o = place_among (same_key o) r.listeners.objects

-- a hearing, by the number of its value among those that are named
abbrev pub hears_among : List Value → Hearing → Hears
hears_among xs Plain = hears.Plain
hears_among xs (With x) = hears.With (place_among (same_value x) xs)
hears_among xs Any = hears.Any

abbrev pub hears_number : Reading → ObjRef → EventType → Hearing → Hears
hears_number r o kind g = hears_among (values_read r o kind) g

-- the number of a node
abbrev pub number : Reading → CostNode → NumberedNode
number r (Effect c o n) = node.Effect (config_number r c) (object_number r o) n
number r (Fired c o kind g) = node.Fired (config_number r c) (object_number r o) kind (hears_number r o kind g)
number r (Entry o kind g) = node.Entry (object_number r o) kind (hears_number r o kind g)
number r (Change c o) = node.Change (config_number r c) (object_number r o)
number r (Leave c all) = node.Leave (config_number r c) all
number r (Enter c) = node.Enter (config_number r c)
number r (Taken c k) = node.Taken (config_number r c) k

-- Names: where there is none, one that is not among those that have a number

-- a name that is longer than each of these
unfoldable pub longer : List (List ℕ) → List ℕ
longer names = 0 ∷ flat_map (λ g. g) names

abbrev pub octets_in : Value → List ℕ
octets_in (value.Octets octets) = octets
octets_in _ = []

abbrev pub no_config : List Config → Config
no_config cs = record { app = longer (map (λ c. c.app) cs); scene = None }

abbrev pub no_object : List ObjRef → ObjRef
no_object os = group_ref (longer (map (λ o. o.group) os))

abbrev pub no_value : List Value → Value
no_value xs = value.Octets (longer (map octets_in xs))

abbrev pub config_named : Reading → ℕ → Config
config_named r n = get_or (settings r) n (no_config (settings r))

abbrev pub object_named : Reading → ℕ → ObjRef
object_named r n = get_or r.listeners.objects n (no_object r.listeners.objects)

abbrev pub value_named : List Value → ℕ → Value
value_named xs n = get_or xs n (no_value xs)

abbrev pub hearing_named : Reading → ObjRef → EventType → Hears → Hearing
hearing_named r o kind hears.Plain = Plain
hearing_named r o kind (hears.With n) = With (value_named (values_read r o kind) n)
hearing_named r o kind hears.Any = Any

-- whether there is one

abbrev pub has_config : Reading → ℕ → Bool
has_config r n = is_some (slice_get (settings r) n)

abbrev pub has_object : Reading → ℕ → Bool
has_object r n = is_some (slice_get r.listeners.objects n)

abbrev pub has_hearing : Reading → ObjRef → EventType → Hears → Bool
has_hearing r o kind (hears.With n) = is_some (slice_get (values_read r o kind) n)
has_hearing r o kind _ = true

abbrev pub has_names : Reading → NumberedNode → Bool
has_names r (node.Effect c o n) = has_config r c && has_object r o
has_names r (node.Fired c o kind g) = has_config r c && (has_object r o && has_hearing r (object_named r o) kind g)
has_names r (node.Entry o kind g) = has_object r o && has_hearing r (object_named r o) kind g
has_names r (node.Change c o) = has_config r c && has_object r o
has_names r (node.Leave c all) = has_config r c
has_names r (node.Enter c) = has_config r c
has_names r (node.Taken c k) = has_config r c

-- the node with a number
abbrev pub name : Reading → NumberedNode → CostNode
name r (node.Effect c o n) = Effect (config_named r c) (object_named r o) n
name r (node.Fired c o kind g) = Fired (config_named r c) (object_named r o) kind (hearing_named r (object_named r o) kind g)
name r (node.Entry o kind g) = Entry (object_named r o) kind (hearing_named r (object_named r o) kind g)
name r (node.Change c o) = Change (config_named r c) (object_named r o)
name r (node.Leave c all) = Leave (config_named r c) all
name r (node.Enter c) = Enter (config_named r c)
name r (node.Taken c k) = Taken (config_named r c) k

-- Prices

-- what a node costs over others
abbrev pub price_read : Reading → CostNode → Price CostNode
price_read r k = price_of r.service (flow_read r) (heard_read r) k

abbrev pub price : Reading → NumberedNode → Price NumberedNode
price r n = numbered (number r) (price_read r (name r n))

-- the numbers whose nodes may have a cost
abbrev pub kept : Reading → NumberedNode → Type 0
kept r n = KeptBy r.service (flow_read r) (heard_read r) (name r) n

-- A numbered service, and what is asked of it

-- the configurations in the order of the flow, each once under its number, and what is held in each; the timers that can be
-- set; and the effects of each object that has a number
pub record IsNumberedService (r : Reading) (cs keys : List Config) (lists : List (List (List ObjRef))) (ts : List TimerKey) (es : List (List (List Act))) : Type 0 where
  pub reading : IsReading r
  pub all : cs ≡ (flow_read r).configs
  pub once : keys ≡ settings r
  pub held : lists ≡ map (held_in r.service r.flow) keys
  pub timers : ts ≡ every_timer r.service (flow_read r)
  pub effects : es ≡ map (effects_at r.service) r.listeners.objects

-- a configuration of a numbered service
pub record CostContext : Type 0 where
  pub reading : Reading
  pub config : Config

abbrev pub around_at : CostContext → Around CostNode
around_at s = around_of s.reading.service (flow_read s.reading) (heard_read s.reading) s.config

-- what is known of a node, by its number
abbrev pub known_by : Reading → Places → CostNode → Result ℕ NumberedNode
known_by r ts k = told (cost_in ts) (number r k)

-- a configuration by its number, and by its name
abbrev pub context_at : Reading → ℕ → CostContext
context_at r n = record { reading = r; config = config_named r n }

abbrev pub context_in : Reading → Config → CostContext
context_in r c = record { reading = r; config = c }

-- Numbers of nodes of the configuration

abbrev pub effect_node : CostContext → ObjRef → ℕ → NumberedNode
effect_node s o n = node.Effect (config_number s.reading s.config) (object_number s.reading o) n

abbrev pub fired_node : CostContext → ObjRef → EventType → Hears → NumberedNode
fired_node s o kind g = node.Fired (config_number s.reading s.config) (object_number s.reading o) kind g

-- what an event of a hearing with this number sets going, all of it, and if its source is there
abbrev pub fired_by : CostContext → ObjRef → EventType → Hears → Price NumberedNode
fired_by s o kind hears.Plain = Node (fired_node s o kind hears.Plain)
fired_by s o kind (hears.With n) = Plus (Node (fired_node s o kind hears.Plain)) (Node (fired_node s o kind (hears.With n)))
fired_by s o kind hears.Any = Node (fired_node s o kind hears.Any)

abbrev pub there_by : CostContext → ObjRef → EventType → Hears → Price NumberedNode
there_by s o kind g = if_price (is_there o (present s.reading.service s.config)) (fired_by s o kind g)

-- such an event is dealt with at once, or waits
abbrev pub dealt_by : CostContext → ObjRef → EventType → Hears → Price NumberedNode
dealt_by s o kind g = if is_sync kind then there_by s o kind g else Node (node.Entry (object_number s.reading o) kind g)

-- the number of the hearing of an event of which this is known, if a link hears it
abbrev pub hears_told : Reading → ObjRef → EventType → Told → Option Hears
hears_told r o kind d = option_map (λ xs. hears_among xs (hearing xs d)) (heard_read r o kind)

-- the number is that of the configuration, and this is present and held there
pub record IsContext (s : CostContext) (n : ℕ) (ps : List Fixed) (lists : List (List ObjRef)) : Type 0 where
  pub read : IsReading s.reading
  pub place : n ≡ config_number s.reading s.config
  pub there : ps ≡ present s.reading.service s.config
  pub sets : held_by (present s.reading.service s.config) lists ≡ (flow_read s.reading).sets s.config

-- Laws

-- numbers and names are one for the other
abbrev pub NumbersAreNames : Type 0
NumbersAreNames =
    (r : Reading) → IsReading r → AreNumbers r.service (flow_read r) (heard_read r) (number r) (name r) (price r)
