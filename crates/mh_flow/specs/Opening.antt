-- What a member of a set opens: a configuration that is reached what its objects hold at first, and what its actions do
-- whose targets are written; one to which a configuration leads, that it is reached, and that the application's objects
-- take along what they hold; what a variable holds, what the actions do whose targets it is.
use Rattle.std.specs.Prelude.{ℕ, zero, suc, ◌-◌, ◌&&◌, nat_lt, if◌then◌else◌, List, [], ◌∷◌, ◌++◌, length, slice_get, Option, Some, None}
use Rattle.std.specs.List.{flat_map}
use Rattle.std.specs.Option.{is_some, option_map, option_map_or, option_to_list}
use Rattle.mh_base.specs.declared.obj_ref.ObjRef.{ObjRef}
use Rattle.mh_base.specs.declared.value.Value.TheVariants as value
use Rattle.mh_model.specs.declared.act.Act.{Act}
use Rattle.mh_model.specs.declared.act.Argument.{Argument}
use Rattle.mh_model.specs.declared.act.Argument.TheVariants as argument
use Rattle.mh_model.specs.declared.act.Target.{Target}
use Rattle.mh_model.specs.declared.act.Target.TheVariants as target
use Rattle.mh_model.specs.declared.config.Config.{Config}
use Rattle.mh_model.specs.declared.object.Fixed.{Fixed}
use Rattle.mh_model.specs.Arguments.{receivers}
use Rattle.mh_model.specs.Configuration.{present, starting}
use Rattle.mh_model.specs.Reference.{same_ref}
use Rattle.mh_model.specs.Service.{Service}
use Rattle.mh_laws.specs.Active.{active_actions, is_active, leads_to}
use Rattle.mh_laws.specs.Flow.{fills, is_given, is_list_in, is_reference_in}
use Rattle.mh_flow.specs.declared.chart.Set.{Set}
use Rattle.mh_flow.specs.declared.chart.Set.TheVariants as set
use Rattle.mh_flow.specs.declared.fixpoint.constraints.Fact.{Fact}
use Rattle.mh_flow.specs.declared.fixpoint.constraints.Item.{Item}
use Rattle.mh_flow.specs.declared.fixpoint.constraints.Item.TheVariants as item
use Rattle.mh_flow.specs.declared.chart.Bases.{Bases}
use Rattle.mh_flow.specs.Chart.{Chart, config_number, firsts, member_of, node_from, handed_argument}
use Rattle.mh_flow.specs.Constraints.{ConstraintSystem}
use Rattle.mh_flow.specs.Walks.{Walk}

-- a service with its numbers
pub record Numbered : Type 0 where
  pub service : Service
  pub chart : Chart

-- a configuration of a service, with its numbers
pub record NumberedConfig : Type 0 where
  pub service : Service
  pub chart : Chart
  pub number : ℕ
  pub config : Config
  pub bases : Bases

abbrev pub place_of : Service → Chart → ℕ → Option NumberedConfig
place_of v ch k = option_map (λ e. record { service = v; chart = ch; number = k; config = e.0; bases = e.1 }) (slice_get ch.configs k)

abbrev pub present_in : NumberedConfig → List Fixed
present_in p = present p.service p.config

-- a member of a set, and an edge between two, where both have numbers

abbrev pub member : ℕ → ℕ → Item
member u q = item.Member (record { node = u; member = q })

abbrev pub member_at : Option ℕ → Option ℕ → List Item
member_at (Some u) (Some q) = member u q ∷ []
member_at _ _ = []

abbrev pub edge_at : Option ℕ → Option ℕ → List Item
edge_at (Some u) (Some w) = item.Edge u w ∷ []
edge_at _ _ = []

-- Actions. Each function says what an action does where its target comes to an object.

-- the object receives what a variable has
abbrev pub read_from : Service → Config → Bases → ObjRef → ObjRef → List Item
read_from v c b r x =
    if is_reference_in (present v c) x then edge_at (node_from v c x b) (node_from v c r b) else []

-- what an argument hands on to the object
abbrev pub handed_on : Service → Chart → Config → Bases → ObjRef → Argument → List Item
handed_on v ch c b r (argument.Direct (value.Object q)) = member_at (node_from v c r b) (member_of ch q)
handed_on v ch c b r (argument.Direct x) = []
handed_on v ch c b r (argument.Through x k) = read_from v c b r x
handed_on v ch c b r (argument.Receiver x) = []

abbrev pub given : Service → Chart → Config → Bases → Act → ObjRef → List Item
given v ch c b a r =
    if is_given (present v c) a.name r then flat_map (handed_on v ch c b r) (option_to_list (handed_argument a)) else []

-- the variable receives what the object has
abbrev pub filled_in : Service → Chart → Config → Bases → ObjRef → ObjRef → List Item
filled_in v ch c b r x =
    if is_reference_in (present v c) x then edge_at (node_from v c r b) (node_from v c x b) else []

abbrev pub filled : Service → Chart → Config → Bases → Act → ObjRef → List Item
filled v ch c b a r =
    if fills a.name && is_list_in (present v c) r then flat_map (filled_in v ch c b r) (receivers a.arguments) else []

-- the configurations to which the one with this number leads are a set
abbrev pub led_set : ℕ → ℕ
led_set k = suc k

abbrev pub led_on : Chart → ℕ → Option Config → List Item
led_on ch k None = []
led_on ch k (Some d) = member_at (Some (led_set k)) (config_number ch d)

abbrev pub does : Service → Chart → ℕ → Config → Bases → Act → ObjRef → List Item
does v ch k c b a r = given v ch c b a r ++ filled v ch c b a r ++ led_on ch k (leads_to v c a.name r)

-- where the target is written
abbrev pub does_direct : Service → Chart → ℕ → Config → Bases → Act → Target → List Item
does_direct v ch k c b a (target.Direct r) = does v ch k c b a r
does_direct v ch k c b a (target.Through w) = []

-- where it goes through this variable, and comes to this object
abbrev pub does_through : Service → Chart → ℕ → Config → Bases → ObjRef → ObjRef → Act → Target → List Item
does_through v ch k c b w r a (target.Direct x) = []
does_through v ch k c b w r a (target.Through x) = if same_ref x w then does v ch k c b a r else []

-- an action that goes on through the variable, where it is active
abbrev pub walked : Service → Chart → ℕ → Config → Bases → ObjRef → Walk → List Item
walked v ch k c b r x = if is_active (present v c) x.part then does v ch k c b x.act r else []

-- Members

abbrev pub held_first : Service → Chart → Config → Bases → Fixed → List Item
held_first v ch c b p = flat_map (λ q. member_at (node_from v c p.key b) (member_of ch q)) (firsts p)

-- a configuration is reached
abbrev pub by_config : Service → Chart → ℕ → Config → Bases → List Item
by_config v ch k c b =
    flat_map (held_first v ch c b) (present v c) ++ flat_map (λ a. does_direct v ch k c b a a.target) (active_actions (present v c))

-- so many edges, from each set to the one beside it
abbrev pub side_by_side : ℕ → ℕ → ℕ → List Item
side_by_side u w zero = []
side_by_side u w (suc n) = item.Edge u w ∷ side_by_side (suc u) (suc w) n

abbrev pub smaller : ℕ → ℕ → ℕ
smaller a b = if nat_lt a b then a else b

-- The sets of an application stand in one order in each configuration, so that each object of it takes along what it holds.
-- Whoever leads to a scene keeps its application, so that both have as many.
abbrev pub taken_along : Bases → Bases → List Item
taken_along b e = side_by_side b.application e.application (smaller (b.scene - b.application) (e.scene - e.application))

abbrev pub passed : Bases → Config → Bases → List Item
passed b d e = if is_some d.scene then taken_along b e else []

-- a configuration leads to the one with this number
abbrev pub by_led : Bases → ℕ → Option (Config × Bases) → List Item
by_led b n None = []
by_led b n (Some e) = member 0 n ∷ passed b e.0 e.1

-- a variable holds a reference
abbrev pub by_variable : Service → Chart → ℕ → Config → Bases → ObjRef → Option ObjRef → List Item
by_variable v ch k c b w None = []
by_variable v ch k c b w (Some r) =
    if is_reference_in (present v c) w
    then flat_map (λ a. does_through v ch k c b w r a a.target) (active_actions (present v c)) else []

abbrev pub by_object : Service → Chart → ℕ → Config → Bases → Option ObjRef → Option Fixed → List Item
by_object v ch k c b r None = []
by_object v ch k c b r (Some p) = by_variable v ch k c b p.key r

-- All

abbrev pub opened_in : Service → Chart → ℕ → Set → List Item
opened_in v ch q set.Reached = option_map_or (λ e. by_config v ch q e.0 e.1) (slice_get ch.configs q) []
opened_in v ch q (set.Led k) = option_map_or (λ e. by_led e.1 q (slice_get ch.configs q)) (slice_get ch.configs k) []
opened_in v ch q (set.Held k j) =
    option_map_or (λ e. by_object v ch k e.0 e.1 (slice_get ch.members q) (slice_get (present v e.0) j)) (slice_get ch.configs k) []

abbrev pub opens : Service → Chart → Fact → List Item
opens v ch f = option_map_or (opened_in v ch f.member) (slice_get ch.sets f.node) []

abbrev pub wider : ℕ → ℕ → ℕ
wider a b = if nat_lt a b then b else a

abbrev pub system_of : Service → Chart → ConstraintSystem
system_of v ch = record {
  nodes = length ch.sets;
  width = wider (length ch.members) (length ch.configs);
  starts = member_at (Some 0) (config_number ch (starting v));
  opens = opens v ch;
}
