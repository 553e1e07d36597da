-- What items, entries and inputs cost in a configuration: prices, in which only the costs of effects are open. Of references,
-- events and lists the dearest that the flow has counts; whether an object is running or available is not asked.
use Rattle.std.specs.Prelude.{ℕ, ◌+◌, ◌==◌, Bool, true, false, ◌&&◌, ◌||◌, not, if◌then◌else◌, List, [], ◌∷◌, map, filter, length, get_or, Option, Some, None, ℤ}
use Rattle.std.specs.List.{flat_map, list_any, range_with_len}
use Rattle.std.specs.Option.{option_map_or}
use Rattle.std.specs.Ordering.{int_eq}
use Rattle.std.specs.Str.{bytes_eq}
use Rattle.mh_base.specs.declared.obj_ref.ObjRef.{ObjRef}
use Rattle.mh_base.specs.declared.value.Value.{Value}
use Rattle.mh_base.specs.declared.value.Value.TheVariants as value
use Rattle.mh_base.specs.declared.event.EventType.{EventType}
use Rattle.mh_base.specs.declared.event.EventType.TheVariants as event
use Rattle.mh_base.specs.Event.{is_sync}
use Rattle.mh_group.specs.declared.action_name.ActionName.{ActionName}
use Rattle.mh_group.specs.declared.action_name.ActionName.TheVariants as action
use Rattle.mh_group.specs.declared.attribute.Attribute.TheVariants as attribute
use Rattle.mh_group.specs.declared.class.Class.{Class}
use Rattle.mh_group.specs.declared.class.Class.TheVariants as class
use Rattle.mh_group.specs.Table.{is_link, is_stream, is_runnable, has_content}
use Rattle.mh_model.specs.declared.act.Act.{Act}
use Rattle.mh_model.specs.declared.act.Argument.{Argument}
use Rattle.mh_model.specs.declared.act.Argument.TheVariants as argument
use Rattle.mh_model.specs.declared.act.Target.{Target}
use Rattle.mh_model.specs.declared.act.Target.TheVariants as target
use Rattle.mh_model.specs.declared.config.Config.{Config}
use Rattle.mh_model.specs.declared.event.Event.{Event}
use Rattle.mh_model.specs.declared.input.Input.{Input}
use Rattle.mh_model.specs.declared.input.Input.TheVariants as input
use Rattle.mh_model.specs.declared.item.Item.{Item}
use Rattle.mh_model.specs.declared.item.Item.TheVariants as item
use Rattle.mh_model.specs.declared.object.Fixed.{Fixed}
use Rattle.mh_model.specs.Configuration.{present, scene_parts}
use Rattle.mh_model.specs.Groups.{is_shared}
use Rattle.mh_model.specs.Items.{hears_source, hears_type, hears_data}
use Rattle.mh_model.specs.Known.{class_at}
use Rattle.mh_model.specs.Late.{is_late_scene}
use Rattle.mh_model.specs.Property.{held, as_effect, as_event, as_value}
use Rattle.mh_model.specs.Reference.{group_ref, same_ref}
use Rattle.mh_model.specs.Service.{Service, part_at, group_parts, is_there}
use Rattle.mh_laws.specs.Active.{active_actions}
use Rattle.mh_laws.specs.Flow.{Flow, reached}
use Rattle.mh_laws.specs.Price.{Price, Nothing, One, Node, Plus, Most, sum_price, most_price, if_price, worth}
use Rattle.mh_laws.specs.Safe.{behind, exchanged}
use Rattle.mh_laws.specs.View as view
use Rattle.mh_laws.specs.View.{Around, Lists, View}
use Rattle.mh_laws.specs.Ways.{Told, Sure, Unsure, Share, slots_of}

-- Effects

-- an effect of an object in a configuration, by its number there
pub record Effect : Type 0 where
  pub config : Config
  pub object : ObjRef
  pub number : ℕ

-- what each effect costs
abbrev pub Costing : Type 0
Costing = Effect → ℕ

-- the numbers of effects
abbrev pub on_start_up : ℕ
on_start_up = 0

abbrev pub on_close_down : ℕ
on_close_down = 1

abbrev pub link_effect : ℕ
link_effect = 2

abbrev pub first_slot : ℕ
first_slot = 3

-- the effects of an object by their numbers: start-up, close-down, what a link does, and all slots as they are written
abbrev pub effects : Fixed → List (List Act)
effects p =
    as_effect (held attribute.OnStartUp p.properties) ∷ as_effect (held attribute.OnCloseDown p.properties)
    ∷ as_effect (held attribute.LinkEffect p.properties) ∷ slots_of p

abbrev pub effect_at : Fixed → ℕ → List Act
effect_at p n = get_or (effects p) n []

-- what an object's effect with this number costs
abbrev pub effect : Config → ℕ → Fixed → Price Effect
effect c n p = Node (record { config = c; object = p.key; number = n })

-- Events

-- a link that hears the event when it runs
abbrev pub can_hear : Event → Fixed → Bool
can_hear e p =
    is_link p.class && hears_source (as_value (held attribute.EventSource p.properties)) e.source
    && hears_type (as_event (held attribute.EventType p.properties)) e.kind
    && hears_data (as_value (held attribute.EventData p.properties)) e.data

abbrev pub event_from : ObjRef → EventType → Option Value → Event
event_from r kind m = record { source = r; kind = kind; «data» = m }

abbrev pub heard_by : Config → Event → List Fixed → Price Effect
heard_by c e ps = sum_price (λ p. if_price (can_hear e p) (effect c link_effect p)) ps

-- no data, and those that links name
abbrev pub named_data : List Fixed → List (Option Value)
named_data ps = None ∷ map (λ p. as_value (held attribute.EventData p.properties)) ps

-- the effects of the links that hear an event of this source; where its data is unsure, of those that cost most
abbrev pub fired : Service → Config → ObjRef → EventType → Told → Price Effect
fired v c r kind (Sure m) = heard_by c (event_from r kind m) (present v c)
fired v c r kind Unsure = most_price (λ m. heard_by c (event_from r kind m) (present v c)) (named_data (present v c))

abbrev pub fired_if_there : Service → Config → ObjRef → EventType → Told → Price Effect
fired_if_there v c r kind d = if_price (is_there r (present v c)) (fired v c r kind d)

-- an event that waits is taken in any of the configurations
abbrev pub entry : Service → Flow → ObjRef → EventType → Told → Price Effect
entry v w r kind d = Plus One (most_price (λ c. fired_if_there v c r kind d) w.configs)

-- A configuration where effects are counted

-- an event is dealt with at once, or waits
abbrev pub objects : Service → Flow → Config → View Effect
objects v w c = record {
  part = λ r. part_at r (present v c);
  set = w.sets c;
  dealt_with = λ r kind d. if is_sync kind then fired_if_there v c r kind d else entry v w r kind d;
  slots = λ p. most_price (λ n. effect c n p) (range_with_len first_slot (length (slots_of p)));
}

abbrev pub lists : Service → Flow → Config → Lists Effect
lists v w c = record { view = objects v w c; change = view.change (objects v w c) }

abbrev pub emit : Service → Flow → Config → ObjRef → EventType → Told → Price Effect
emit v w c r kind d = view.emit (objects v w c) r kind d

abbrev pub plain_emit : Service → Flow → Config → ObjRef → EventType → Price Effect
plain_emit v w c r kind = view.plain_emit (objects v w c) r kind

abbrev pub rise_of : Service → Flow → Config → ObjRef → Class → Price Effect
rise_of v w c r k = view.rise_of (objects v w c) r k

abbrev pub rise : Service → Flow → Config → ObjRef → Price Effect
rise v w c r = view.rise (objects v w c) r

abbrev pub prepare : Service → Flow → Config → ObjRef → Price Effect
prepare v w c r = view.prepare (objects v w c) r

abbrev pub run_alone : Service → Flow → Config → ObjRef → Price Effect
run_alone v w c r = view.run_alone (objects v w c) r

abbrev pub halt_alone : Service → Flow → Config → ObjRef → Price Effect
halt_alone v w c r = view.halt_alone (objects v w c) r

abbrev pub change : Service → Flow → Config → ObjRef → Price Effect
change v w c r = view.change (objects v w c) r

abbrev pub group_run : Service → Flow → Config → ObjRef → Fixed → Class → Price Effect
group_run v w c r p k = view.group_run (lists v w c) r p k

abbrev pub group_halt : Service → Flow → Config → ObjRef → Fixed → Class → Price Effect
group_halt v w c r p k = view.group_halt (lists v w c) r p k

abbrev pub run : Service → Flow → Config → ObjRef → Price Effect
run v w c r = view.run (lists v w c) r

abbrev pub halt : Service → Flow → Config → ObjRef → Price Effect
halt v w c r = view.halt (lists v w c) r

abbrev pub dropped : Service → Flow → Config → ObjRef → Price Effect
dropped v w c r = view.dropped (objects v w c) r

-- Groups

-- an effect of the group itself
abbrev pub group_effect : Service → Config → List ℕ → ℕ → Price Effect
group_effect v c g n = option_map_or (effect c n) (part_at (group_ref g) (group_parts v g)) Nothing

abbrev pub enter : Service → Flow → Config → List ℕ → Price Effect
enter v w c g = view.enter (lists v w c) (group_effect v c g on_start_up) (group_ref g) (group_parts v g)

abbrev pub exchange : Service → Flow → Config → List ℕ → Price Effect
exchange v w c g = Plus One (if_price (reached w (exchanged v c g)) (enter v w (exchanged v c g) g))

-- a configuration is left: what closes down, and what halts, in the order in which that is done

abbrev pub scene_closes : Service → Config → Price Effect
scene_closes v c = option_map_or (λ g. group_effect v c g on_close_down) c.scene Nothing

abbrev pub halts : Service → Flow → Config → (Fixed → Bool) → List Fixed → Price Effect
halts v w c is ps = view.halts (lists v w c) is ps

abbrev pub all_halt : Service → Flow → Config → List Fixed → Price Effect
all_halt v w c ps = halts v w c (λ p. is_runnable p.class) ps

abbrev pub unshared_halt : Service → Flow → Config → List Fixed → Price Effect
unshared_halt v w c ps = halts v w c (λ p. is_runnable p.class && not (is_shared p)) ps

abbrev pub leave_scene : Service → Flow → Config → Price Effect
leave_scene v w c = view.leave_scene (lists v w c) (scene_closes v c) (scene_parts v c.scene) (group_parts v c.app)

abbrev pub leave_all : Service → Flow → Config → Price Effect
leave_all v w c =
    view.leave_all (lists v w c) (scene_closes v c) (group_effect v c c.app on_close_down) (scene_parts v c.scene) (group_parts v c.app)

abbrev pub leaves : Service → Flow → Config → Bool → Price Effect
leaves v w c false = leave_scene v w c
leaves v w c true = leave_all v w c

abbrev pub around : Service → Flow → Config → Around Effect
around v w c = record { lists = lists v w c; leave = leaves v w c; exchange = exchange v w c }

-- Actions

-- the references to which a target may come
abbrev pub targets : Flow → Config → Target → List ObjRef
targets w c (target.Direct r) = r ∷ []
targets w c (target.Through x) = w.sets c x

-- and those to which an argument may
abbrev pub named : Flow → Config → Argument → List ObjRef
named w c (argument.Direct (value.Object q)) = q ∷ []
named w c (argument.Through x k) = w.sets c x
named w c _ = []

abbrev pub data_sent : List Argument → Told
data_sent xs = view.data_sent xs

abbrev pub sends : Service → Flow → Config → List Argument → Price Effect
sends v w c xs = view.sends (objects v w c) xs

abbrev pub slot_numbers : Fixed → List ℕ
slot_numbers p = range_with_len first_slot (length (slots_of p))

-- one of the slots; a link has none
abbrev pub slots : Config → Fixed → Price Effect
slots c p = if_price (not (is_link p.class)) (most_price (λ n. effect c n p) (slot_numbers p))

abbrev pub share : Service → Flow → Config → List Argument → ObjRef → Share → Price Effect
share v w c xs r x = view.share (lists v w c) xs r x

abbrev pub done_to : Service → Flow → Config → ActionName → List Argument → ObjRef → Price Effect
done_to v w c n xs r = view.done_to (around v w c) n xs r

abbrev pub act : Service → Flow → Config → Act → Price Effect
act v w c a = view.act (around v w c) a

-- Items

abbrev pub item_price : Service → Flow → Config → Item → Price Effect
item_price v w c (item.Act a) = act v w c a
item_price v w c (item.Prepare r) = prepare v w c r
item_price v w c (item.Run r) = run v w c r
item_price v w c (item.Halt r) = halt v w c r
item_price v w c (item.RunMember r) = run_alone v w c r
item_price v w c (item.HaltMember r) = halt_alone v w c r
item_price v w c (item.Drop r) = dropped v w c r
item_price v w c (item.Emit e) = emit v w c e.source e.kind (Sure e.data)
item_price v w c (item.Enter g) = enter v w c g
item_price v w c (item.Exchange g) = exchange v w c g
item_price v w c item.End = One

-- what a work list costs, each item in the configuration in which it will be done
abbrev pub work_cost : Service → Flow → Costing → Config → List Item → ℕ
work_cost v w f c [] = 0
work_cost v w f c (i ∷ is) = worth f (item_price v w c i) + work_cost v w f (behind v c i) is

-- the actions of an effect
abbrev pub acts_price : Service → Flow → Config → List Act → Price Effect
acts_price v w c e = sum_price (act v w c) e

-- What an effect comes to: its actions. (No two objects of a service that was read have one key; of such the dearer counts.)
abbrev pub effect_price : Service → Flow → Effect → Price Effect
effect_price v w x =
    most_price (λ (p : Fixed). acts_price v w x.config (effect_at p x.number))
    (filter (λ (p : Fixed). same_ref x.object p.key) (present v x.config))

-- Timers, each by its group and id

abbrev pub TimerKey : Type 0
TimerKey = List ℕ × ℤ

abbrev pub same_timer : TimerKey → TimerKey → Bool
same_timer x y = bytes_eq x.0 y.0 && int_eq x.1 y.1

-- those that an action sets: one of each group that it may be done to, with the id and a time as parameters
abbrev pub set_with : ActionName → List Argument → List ObjRef → List TimerKey
set_with action.SetTimer (argument.Direct (value.Int id) ∷ x ∷ more) rs = map (λ r. (r.group, id)) rs
set_with _ xs rs = []

abbrev pub set_by : Flow → Config → Act → List TimerKey
set_by w c a = set_with a.name a.arguments (targets w c a.target)

-- those that active actions of any configuration set
abbrev pub set_timers : Service → Flow → List TimerKey
set_timers v w = flat_map (λ c. flat_map (set_by w c) (active_actions (present v c))) w.configs

abbrev pub each_once : List TimerKey → List TimerKey
each_once [] = []
each_once (x ∷ xs) = if list_any (same_timer x) xs then each_once xs else x ∷ each_once xs

-- the group is the configuration's application or scene
abbrev pub is_group_in : Config → List ℕ → Bool
is_group_in c g = bytes_eq g c.app || option_map_or (bytes_eq g) c.scene false

-- the timers that there can be in a configuration
abbrev pub timers : Service → Flow → Config → List TimerKey
timers v w c = each_once (filter (λ x. is_group_in c x.0) (set_timers v w))

abbrev pub timer_entry : Service → Flow → TimerKey → Price Effect
timer_entry v w t = entry v w (group_ref t.0) event.TimerFired (Sure (Some (value.Int t.1)))

-- Late scenes

-- the transition leads to one
abbrev pub can_lead_to_late : Service → ActionName → ObjRef → Bool
can_lead_to_late v action.TransitionTo r = r.number == 0 && is_late_scene r.group v.late
can_lead_to_late v _ r = false

abbrev pub late_by : Service → Flow → Config → Act → List (List ℕ)
late_by v w c a = map (λ r. r.group) (filter (can_lead_to_late v a.name) (targets w c a.target))

-- those to which active actions of the configuration can lead
abbrev pub late_scenes : Service → Flow → Config → List (List ℕ)
late_scenes v w c = flat_map (late_by v w c) (active_actions (present v c))

-- what a transition to a scene puts
abbrev pub scene_change : Service → Flow → Config → List ℕ → Price Effect
scene_change v w c g = Plus (leave_scene v w c) (exchange v w c g)

-- Inputs

-- what a key makes an object of this class put that interacts
abbrev pub pressed : Service → Flow → Config → ObjRef → Class → Price Effect
pressed v w c r class.EntryField = Most (plain_emit v w c r event.EntryFieldFull) (plain_emit v w c r event.InteractionCompleted)
pressed v w c r class.PushButton = Most (plain_emit v w c r event.IsSelected) (plain_emit v w c r event.InteractionCompleted)
pressed v w c r _ = Nothing

-- what the links of the scene put that wait for keys
abbrev pub heard_key : Service → Config → Price Effect
heard_key v c = option_map_or (λ g. fired v c (group_ref g) event.UserInput Unsure) c.scene Nothing

-- what is there has content, and can wait for a file
abbrev pub is_reader : Option Class → Bool
is_reader k = option_map_or has_content k false

-- what is told of a content file by all that is there and can wait for one
abbrev pub content_entries : Service → Flow → Config → Price Effect
content_entries v w c =
    sum_price (λ (p : Fixed). if_price (is_reader (class_at p.key (present v c)))
    (entry v w p.key event.ContentAvailable (Sure None))) (present v c)

-- what a file costs that comes: a content file, or that of a scene, to which a transition may wait
abbrev pub arrival : Service → Flow → Config → Price Effect
arrival v w c = Plus One (Most (content_entries v w c) (most_price (scene_change v w c) (late_scenes v w c)))

-- what an input costs that is taken in the configuration, as far as its kind tells
abbrev pub input_price : Service → Flow → Config → Input → Price Effect
input_price v w c (input.Key k) =
    Plus One (Most (heard_key v c) (most_price (λ (p : Fixed). pressed v w c p.key p.class) (present v c)))
input_price v w c (input.Tick n) = Plus One (sum_price (timer_entry v w) (timers v w c))
input_price v w c (input.Stream n) =
    Plus One (sum_price (λ (p : Fixed). if_price (is_stream p.class) (entry v w p.key event.StreamEvent Unsure)) (present v c))
input_price v w c (input.Engine n) = Plus One (fired v c (group_ref c.app) event.EngineEvent Unsure)
input_price v w c (input.Arrive x) = arrival v w c
input_price v w c (input.Scene g x) = arrival v w c
