-- The flow that rows of bits say, by the numbers of a service.
use Rattle.std.specs.Prelude.{ℕ, ◌<◌, Bool, false, if◌then◌else◌, List, [], filter, length, map, slice_get, option_and_then, unwrap_or}
use Rattle.std.specs.List.{filter_map}
use Rattle.std.specs.Option.{option_map_or}
use Rattle.mh_base.specs.declared.obj_ref.ObjRef.{ObjRef}
use Rattle.mh_model.specs.declared.config.Config.{Config}
use Rattle.mh_model.specs.declared.object.Fixed.{Fixed}
use Rattle.mh_model.specs.Configuration.{present}
use Rattle.mh_model.specs.Known.{class_at}
use Rattle.mh_model.specs.Service.{Service}
use Rattle.mh_laws.specs.Each.{Each}
use Rattle.mh_laws.specs.Flow.{Flow, is_holder}
use Rattle.mh_laws.specs.Least.{IsLeast}
use Rattle.mh_flow.specs.Chart.{Chart, IsChart, config_number, node_of, place_in}
use Rattle.mh_flow.specs.Opening.{system_of}
use Rattle.mh_flow.specs.Rows.{has, places_from}
use Rattle.mh_flow.specs.Sets.{IsLeast as IsSolved, members_of}

-- a flow by numbers: what the numbers are, and the rows of bits
pub record Solved : Type 0 where
  pub chart : Chart
  pub rows : List (List Bool)

-- a configuration is reached
abbrev pub is_reached : Chart → List (List Bool) → Config → Bool
is_reached ch rows c = option_map_or (has rows 0) (config_number ch c) false

abbrev pub reached_configs : Chart → List (List Bool) → List Config
reached_configs ch rows = filter (is_reached ch rows) (map (λ e. e.0) ch.configs)

-- the references with these numbers
abbrev pub named : List ObjRef → List ℕ → List ObjRef
named qs ns = filter_map (slice_get qs) ns

-- those whose bits are set in the row
abbrev pub named_in : List ObjRef → List Bool → List ObjRef
named_in qs r = named qs (places_from 0 r)

-- lists under numbers, all of which are there
abbrev pub list_at : List (List ObjRef) → ℕ → List ObjRef
list_at ls n = unwrap_or (slice_get ls n) []

abbrev pub AreWithin : List (List ObjRef) → List ℕ → Type 0
AreWithin ls ns = Each (λ n. n < length ls) ns

-- what the object at a reference holds, which is a variable or a list
abbrev pub is_holder_in : List Fixed → ObjRef → Bool
is_holder_in ps r = option_map_or is_holder (class_at r ps) false

abbrev pub set_of : Service → Chart → List (List Bool) → Config → ObjRef → List ObjRef
set_of v ch rows c r =
    if is_holder_in (present v c) r
    then option_map_or (λ u. named ch.members (members_of rows u)) (node_of v ch c r) [] else []

abbrev pub flow_of : Service → Chart → List (List Bool) → Flow
flow_of v ch rows = record { configs = reached_configs ch rows; sets = set_of v ch rows }

abbrev pub flow_in : Service → Solved → Flow
flow_in v f = flow_of v f.chart f.rows

-- it is the least flow of the service
pub record IsFlowOf (v : Service) (f : Solved) : Type 0 where
  pub chart : IsChart v f.chart
  pub solved : IsSolved (system_of v f.chart) f.rows
  pub least : IsLeast v (flow_in v f)

-- What is held, in the order in which the objects are present.

abbrev pub held_in : Service → Solved → Config → List (List ObjRef)
held_in v f c = map (λ p. set_of v f.chart f.rows c p.key) (present v c)

-- what the object at the reference holds, where these are present and hold these; nothing where it is not
abbrev pub held_by : List Fixed → List (List ObjRef) → ObjRef → List ObjRef
held_by ps lists r = unwrap_or (option_and_then (slice_get lists) (place_in ps r)) []
