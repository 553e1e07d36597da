-- The nodes of a service: what each costs over other nodes, and what it stands for over effects. A node is priced once,
-- however often it is counted, so that prices stay small.
use Rattle.std.specs.Prelude.{◌≡◌, ℕ, zero, suc, Bool, true, false, ◌&&◌, not, if◌then◌else◌, List, [], reverse, Option, Some, None, pos}
use Rattle.std.specs.List.{list_any}
use Rattle.std.specs.Option.{option_map_or}
use Rattle.mh_base.specs.declared.obj_ref.ObjRef.{ObjRef}
use Rattle.mh_base.specs.declared.value.Value.{Value}
use Rattle.mh_base.specs.declared.event.EventType.{EventType}
use Rattle.mh_base.specs.declared.event.EventType.TheVariants as event
use Rattle.mh_base.specs.Event.{is_sync}
use Rattle.indexmap.specs.IndexSet.{insert_all}
use Rattle.mh_group.specs.declared.attribute.Attribute.TheVariants as attribute
use Rattle.mh_group.specs.Table.{is_group_class, is_link}
use Rattle.mh_model.specs.declared.config.Config.{Config}
use Rattle.mh_model.specs.declared.input.Input.TheVariants as input
use Rattle.mh_model.specs.declared.key.Key.TheVariants as pressed
use Rattle.mh_model.specs.declared.object.Fixed.{Fixed}
use Rattle.mh_model.specs.Configuration.{present, scene_parts}
use Rattle.mh_model.specs.Items.{hears_source, hears_type}
use Rattle.mh_model.specs.Property.{held, as_event, as_value}
use Rattle.mh_model.specs.Reference.{group_ref}
use Rattle.mh_model.specs.Service.{Service, part_at, group_parts, is_there}
use Rattle.mh_model.specs.Variables.{same_value}
use Rattle.mh_laws.specs.Active.{is_active}
use Rattle.mh_laws.specs.Costs as costs
use Rattle.mh_laws.specs.Each.{Among}
use Rattle.mh_laws.specs.Flow.{Flow, is_list_in, reached}
use Rattle.mh_laws.specs.Layers.{IsOn}
use Rattle.mh_laws.specs.Price.{Price, Nothing, One, Node, Plus, Most, sum_price, most_price, if_price}
use Rattle.mh_laws.specs.Safe.{exchanged}
use Rattle.mh_laws.specs.View as view
use Rattle.mh_laws.specs.View.{Around, Lists, View}
use Rattle.mh_laws.specs.Ways.{Told, Sure, Unsure}
use Rattle.mh_layers.specs.Inputs as inputs
use Rattle.mh_layers.specs.CostNode.{CostNode, Effect, Fired, Entry, Change, Leave, Enter, Taken, Hearing, Plain, With, Any}
use Rattle.mh_layers.specs.declared.bounds.InputKind.{InputKind}
use Rattle.mh_layers.specs.declared.bounds.InputKind.TheVariants as kind
use Rattle.mh_layers.specs.Grouped.{has, is_plain}

-- What is heard

-- a link that waits for such events of this source, whatever their data
abbrev pub waits_for : ObjRef → EventType → Fixed → Bool
waits_for r kind p =
    is_link p.class && hears_source (as_value (held attribute.EventSource p.properties)) r
    && hears_type (as_event (held attribute.EventType p.properties)) kind

abbrev pub data_of : Fixed → Option Value
data_of p = as_value (held attribute.EventData p.properties)

-- of each source and type of events what data links name that wait for them; nothing where no link does
abbrev pub Heard : Type 0
Heard = ObjRef → EventType → Option (List Value)

abbrev pub knows : Option (List Value) → Option Value → Bool
knows None d = false
knows (Some xs) None = true
knows (Some xs) (Some d) = list_any (same_value d) xs

-- each link is known that is present in a configuration that may be reached
pub record HearsAll (v : Service) (w : Flow) (h : Heard) : Type 0 where
  pub each :
      (c : Config) → reached w c ≡ true → (p : Fixed) → Among (present v c) p →
      (r : ObjRef) (kind : EventType) → waits_for r kind p ≡ true → knows (h r kind) (data_of p) ≡ true

-- what is known beforehand of an event's data, among those that are named
abbrev pub hearing : List Value → Told → Hearing
hearing xs (Sure None) = Plain
hearing xs (Sure (Some x)) = if list_any (same_value x) xs then With x else Plain
hearing xs Unsure = Any

abbrev pub told_by : Hearing → Told
told_by Plain = Sure None
told_by (With x) = Sure (Some x)
told_by Any = Unsure

-- A configuration where nodes are counted

-- what an event of this hearing sets going: each link has its data in one hearing
abbrev pub fired_at : Config → ObjRef → EventType → Hearing → Price CostNode
fired_at c r kind Plain = Node (Fired c r kind Plain)
fired_at c r kind (With x) = Plus (Node (Fired c r kind Plain)) (Node (Fired c r kind (With x)))
fired_at c r kind Any = Node (Fired c r kind Any)

abbrev pub fired_if_there : Service → Config → ObjRef → EventType → Hearing → Price CostNode
fired_if_there v c r kind g = if_price (is_there r (present v c)) (fired_at c r kind g)

-- an event is dealt with at once, or waits; where no link hears it, it is only taken
abbrev pub heard_with : Service → Config → ObjRef → EventType → Told → Option (List Value) → Price CostNode
heard_with v c r kind d None = if is_sync kind then Nothing else One
heard_with v c r kind d (Some xs) =
    if is_sync kind then fired_if_there v c r kind (hearing xs d) else Node (Entry r kind (hearing xs d))

abbrev pub effect : Config → ℕ → Fixed → Price CostNode
effect c n p = Node (Effect c p.key n)

abbrev pub objects : Service → Flow → Heard → Config → View CostNode
objects v w h c = record {
  part = λ r. part_at r (present v c);
  set = w.sets c;
  dealt_with = λ r kind d. heard_with v c r kind d (h r kind);
  slots = λ p. most_price (λ n. effect c n p) (costs.slot_numbers p);
}

-- a change has a node where it is a list's
abbrev pub lists : Service → Flow → Heard → Config → Lists CostNode
lists v w h c = record {
  view = objects v w h c;
  change = λ r. if is_list_in (present v c) r then Node (Change c r) else view.change (objects v w h c) r;
}

abbrev pub around_of : Service → Flow → Heard → Config → Around CostNode
around_of v w h c = record {
  lists = lists v w h c;
  leave = λ all. Node (Leave c all);
  exchange = λ g. Plus One (if_price (reached w (exchanged v c g)) (Node (Enter (exchanged v c g))));
}

-- an effect of a group of the configuration
abbrev pub group_effect : Service → Config → ℕ → List ℕ → Price CostNode
group_effect v c n g = if_price (is_there (group_ref g) (present v c)) (Node (Effect c (group_ref g) n))

-- What a node costs over other nodes

-- the links that wait for an event and whose data is so
abbrev pub links_with : Service → Config → ObjRef → EventType → (Option Value → Bool) → Price CostNode
links_with v c r kind is =
    sum_price (λ (p : Fixed). if_price (waits_for r kind p && is (data_of p)) (effect c costs.link_effect p)) (present v c)

abbrev pub values : Option (List Value) → List Value
values None = []
values (Some xs) = xs

abbrev pub fired_price : Service → Heard → Config → ObjRef → EventType → Hearing → Price CostNode
fired_price v h c r kind Plain = links_with v c r kind is_plain
fired_price v h c r kind (With x) = links_with v c r kind (has same_value x)
fired_price v h c r kind Any =
    Plus (Node (Fired c r kind Plain)) (most_price (λ x. Node (Fired c r kind (With x))) (values (h r kind)))

abbrev pub scene_closes : Service → Config → Price CostNode
scene_closes v c = option_map_or (group_effect v c costs.on_close_down) c.scene Nothing

abbrev pub leave_price : Service → Flow → Heard → Config → Bool → Price CostNode
leave_price v w h c false = view.leave_scene (lists v w h c) (scene_closes v c) (scene_parts v c.scene) (group_parts v c.app)
leave_price v w h c true =
    view.leave_all (lists v w h c) (scene_closes v c) (group_effect v c costs.on_close_down c.app) (scene_parts v c.scene) (group_parts v c.app)

-- what the links put that wait for such an event, whatever its data; nothing where none waits
abbrev pub fired_of : Config → ObjRef → EventType → Option (List Value) → Price CostNode
fired_of c r kind None = Nothing
fired_of c r kind (Some xs) = Node (Fired c r kind Any)

abbrev pub heard_key : Heard → Config → Option (List ℕ) → Price CostNode
heard_key h c None = Nothing
heard_key h c (Some g) = fired_of c (group_ref g) event.UserInput (h (group_ref g) event.UserInput)

-- all timers that can be set, each once, from the last on
abbrev pub every_timer : Service → Flow → List costs.TimerKey
every_timer v w = insert_all costs.same_timer [] (reverse (costs.set_timers v w))

-- what an input of this kind costs that is taken in the configuration; the start, in the one that is entered then
abbrev pub taken_price : Service → Flow → Heard → Config → InputKind → Price CostNode
taken_price v w h c kind.Start = Node (Enter c)
taken_price v w h c kind.Key =
    Plus One (Most (heard_key h c c.scene) (most_price (inputs.pressed (objects v w h c)) (present v c)))
taken_price v w h c kind.Tick =
    Plus One (sum_price (inputs.timer_due (objects v w h c) (costs.is_group_in c)) (every_timer v w))
taken_price v w h c kind.Stream = Plus One (sum_price (inputs.stream_told (objects v w h c)) (present v c))
taken_price v w h c kind.Engine =
    Plus One (fired_of c (group_ref c.app) event.EngineEvent (h (group_ref c.app) event.EngineEvent))
taken_price v w h c kind.Arrive =
    Plus One (Most (sum_price (inputs.content_told (objects v w h c)) (present v c))
    (most_price (inputs.scene_change (around_of v w h c)) (costs.late_scenes v w c)))

-- the group that is entered when a configuration is
abbrev pub entered : Config → Option (List ℕ) → List ℕ
entered c None = c.app
entered c (Some g) = g

-- an effect that is not active costs nothing
abbrev pub effect_of : Service → Flow → Heard → Config → ℕ → Fixed → Price CostNode
effect_of v w h c n p = if_price (is_active (present v c) p) (view.acts (around_of v w h c) (costs.effect_at p n))

abbrev pub price_of : Service → Flow → Heard → CostNode → Price CostNode
price_of v w h (Effect c r n) = option_map_or (effect_of v w h c n) (part_at r (present v c)) Nothing
price_of v w h (Fired c r kind g) = fired_price v h c r kind g
price_of v w h (Entry r kind g) = Plus One (most_price (λ c. fired_if_there v c r kind g) w.configs)
price_of v w h (Change c r) = view.change (objects v w h c) r
price_of v w h (Leave c all) = leave_price v w h c all
price_of v w h (Enter c) =
    view.enter (lists v w h c) (group_effect v c costs.on_start_up (entered c c.scene)) (group_ref (entered c c.scene))
    (group_parts v (entered c c.scene))
price_of v w h (Taken c k) = taken_price v w h c k

-- What a node stands for, over effects

abbrev pub bucket : Service → Config → ObjRef → EventType → Value → Price costs.Effect
bucket v c r kind x =
    sum_price (λ (p : Fixed). if_price (waits_for r kind p && has same_value x (data_of p)) (costs.effect c costs.link_effect p)) (present v c)

abbrev pub fires : Service → Config → ObjRef → EventType → Hearing → Price costs.Effect
fires v c r kind Plain = costs.fired v c r kind (Sure None)
fires v c r kind (With x) = bucket v c r kind x
fires v c r kind Any = costs.fired v c r kind Unsure

abbrev pub takes : Service → Flow → Config → InputKind → Price costs.Effect
takes v w c kind.Start = costs.enter v w c (entered c c.scene)
takes v w c kind.Key = costs.input_price v w c (input.Key pressed.Red)
takes v w c kind.Tick = costs.input_price v w c (input.Tick 0)
takes v w c kind.Stream = costs.input_price v w c (input.Stream (pos 0))
takes v w c kind.Engine = costs.input_price v w c (input.Engine (pos 0))
takes v w c kind.Arrive = costs.input_price v w c (input.Arrive (record { name = []; content = [] }))

abbrev pub stands_for : Service → Flow → CostNode → Price costs.Effect
stands_for v w (Effect c r n) = Node (record { config = c; object = r; number = n })
stands_for v w (Fired c r kind g) = fires v c r kind g
stands_for v w (Entry r kind g) = costs.entry v w r kind (told_by g)
stands_for v w (Change c r) = costs.change v w c r
stands_for v w (Leave c all) = costs.leaves v w c all
stands_for v w (Enter c) = costs.enter v w c (entered c c.scene)
stands_for v w (Taken c k) = takes v w c k

-- Which nodes are met

-- the hearing is one of those that are named
abbrev pub is_named : Option (List Value) → Hearing → Bool
is_named None g = false
is_named (Some xs) Plain = true
is_named (Some xs) (With x) = list_any (same_value x) xs
is_named (Some xs) Any = true

-- the effects by which something else goes on: those of groups and links, and slots
abbrev pub is_caused : ℕ → Fixed → Bool
is_caused zero p = is_group_class p.class
is_caused (suc zero) p = is_group_class p.class
is_caused (suc (suc zero)) p = is_link p.class
is_caused (suc (suc (suc n))) p = not (is_link p.class)

-- the groups of the configuration are there themselves

abbrev pub scene_there : Service → Config → Bool
scene_there v c = option_map_or (λ g. is_there (group_ref g) (present v c)) c.scene true

abbrev pub has_groups : Service → Config → Bool
has_groups v c = is_there (group_ref c.app) (present v c) && scene_there v c

-- what is counted by others is one of these: an active effect; what an event sets going whose source is there and for which
-- links wait, or its entry; a change of a list; what is done when a configuration is left or entered. And an input is met that
-- is taken where a configuration is whole.
abbrev pub IsMet : Service → Flow → Heard → CostNode → Type 0
IsMet v w h (Effect c r n) =
    IsOn v w (record { config = c; object = r; number = n }) × (option_map_or (is_caused n) (part_at r (present v c)) false ≡ true)
IsMet v w h (Fired c r kind g) =
    (reached w c ≡ true) × (is_there r (present v c) ≡ true) × (is_named (h r kind) g ≡ true)
IsMet v w h (Entry r kind g) = is_named (h r kind) g ≡ true
IsMet v w h (Change c r) = (reached w c ≡ true) × (is_list_in (present v c) r ≡ true)
IsMet v w h (Leave c all) = reached w c ≡ true
IsMet v w h (Enter c) = reached w c ≡ true
IsMet v w h (Taken c k) = (reached w c ≡ true) × (has_groups v c ≡ true)

-- and these may have a number: those, and any other effect of what is there
abbrev pub IsKept : Service → Flow → Heard → CostNode → Type 0
IsKept v w h (Effect c r n) = (reached w c ≡ true) × (is_there r (present v c) ≡ true)
IsKept v w h k = IsMet v w h k

-- LEVELS. A node counts those of lower levels alone; but an effect counts all.

abbrev pub hearing_level : Hearing → ℕ
hearing_level Plain = 1
hearing_level (With x) = 1
hearing_level Any = 2

abbrev pub level : CostNode → ℕ
level (Effect c r n) = 0
level (Fired c r kind g) = hearing_level g
level (Entry r kind g) = 3
level (Change c r) = 4
level (Leave c all) = 5
level (Enter c) = 5
level (Taken c k) = 6
