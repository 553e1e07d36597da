-- Who listens to what: for each source and each type of events the links that wait for them, and the data that they name.
-- All objects of a service and all sources that links name have numbers, so that nothing is searched for.
use Rattle.std.specs.Prelude.{◌≡◌, ◌↔◌, ℕ, suc, Bool, false, ◌&&◌, ◌==◌, if◌then◌else◌, List, [], ◌∷◌, ◌++◌, filter, fold, slice_get, position, unwrap_or, option_and_then, nat_eq, Option, Some, None, Result}
use Rattle.std.specs.List.{flat_map, list_any}
use Rattle.std.specs.Map.{lookup}
use Rattle.std.specs.Option.{is_some, option_eq, option_map, option_map_or, option_to_list}
use Rattle.indexmap.specs.IndexSet.{insert_key, insert_all}
use Rattle.mh_base.specs.declared.obj_ref.ObjRef.{ObjRef}
use Rattle.mh_base.specs.declared.value.Value.{Value}
use Rattle.mh_base.specs.declared.event.EventType.{EventType}
use Rattle.mh_base.specs.Event.{number_of}
use Rattle.mh_group.specs.declared.attribute.Attribute.TheVariants as attribute
use Rattle.mh_group.specs.Table.{is_link}
use Rattle.mh_model.specs.declared.config.Config.{Config}
use Rattle.mh_model.specs.declared.object.Fixed.{Fixed}
use Rattle.mh_model.specs.Configuration.{scene_parts}
use Rattle.mh_model.specs.Property.{held, as_event, as_reference, as_value}
use Rattle.mh_model.specs.Reference.{same_key}
use Rattle.mh_model.specs.Service.{Service, group_parts}
use Rattle.mh_model.specs.Variables.{same_value}
use Rattle.mh_laws.specs.Costs as costs
use Rattle.mh_laws.specs.Each.{Among}
use Rattle.mh_laws.specs.Flow.{Flow}
use Rattle.mh_laws.specs.Price.{Price, Node, Plus, sum_price}
use Rattle.mh_flow.specs.Chart.{all_parts}
use Rattle.mh_layers.specs.declared.numbered_node.NumberedNode.{NumberedNode}
use Rattle.mh_layers.specs.declared.listening.listener_slot.EventKey.{EventKey}
use Rattle.mh_layers.specs.declared.listening.listener_slot.Share.{Share}
use Rattle.mh_layers.specs.declared.listening.listener_slot.ListenerSlot.{ListenerSlot}
use Rattle.mh_layers.specs.CostNode.{CostNode, Effect}
use Rattle.mh_layers.specs.CostNodes.{Heard, HearsAll, data_of, links_with, waits_for}
use Rattle.mh_layers.specs.Known.{known_worth}

-- What is named

-- the data of a link is put to what is named, unless it was before
abbrev pub with_data : List Value → Option Value → List Value
with_data xs None = xs
with_data xs (Some x) = insert_key same_value xs x

-- the same where nothing may be named yet
abbrev pub with_more : Option Value → Option (List Value) → List Value
with_more d o = with_data (unwrap_or o []) d

-- what is named so far, and by one link more, if it waits
abbrev pub named_by : (Fixed → Bool) → Option (List Value) → Fixed → Option (List Value)
named_by waits o p = if waits p then Some (with_more (data_of p) o) else o

-- the data that those name that wait, each once; nothing where none waits
abbrev pub named : (Fixed → Bool) → Option (List Value) → List Fixed → Option (List Value)
named waits o ps = fold (named_by waits) o ps

-- Objects

-- the source for whose events a link waits
abbrev pub source_of : Fixed → Option ObjRef
source_of p = if is_link p.class then as_reference (as_value (held attribute.EventSource p.properties)) else None

-- an object, and the source that it names
abbrev pub mentioned : Fixed → List ObjRef
mentioned p = p.key ∷ option_to_list (source_of p)

-- those of all of these, each once
abbrev pub objects_of : List Fixed → List ObjRef
objects_of ps = insert_all same_key [] (flat_map mentioned ps)

-- Ears: a source, and a type of its events

abbrev pub same_ear : EventKey → EventKey → Bool
same_ear a b = a.source == b.source && a.kind == b.kind

abbrev pub ear_at : ℕ → EventType → EventKey
ear_at n kind = record { source = n; kind = number_of kind }

abbrev pub ear_with : List ObjRef → ObjRef → EventType → Option EventKey
ear_with os r kind = option_map (λ n. ear_at n kind) (position (same_key r) os)

-- the type of events for which a link waits
abbrev pub type_of : Fixed → Option EventType
type_of p = as_event (held attribute.EventType p.properties)

-- a link that names the source and the type of events
abbrev pub names_event : Fixed → Bool
names_event p = is_some (source_of p) && is_some (type_of p)

-- the events for which a link waits
abbrev pub ear_of : List ObjRef → Fixed → Option EventKey
ear_of os p = option_and_then (λ r. option_and_then (λ kind. ear_with os r kind) (type_of p)) (source_of p)

abbrev pub is_ear : EventKey → Option EventKey → Bool
is_ear q None = false
is_ear q (Some e) = same_ear e q

-- Places: the links of one group that wait for the same events, and have no data or the same

abbrev pub same_share : Share → Share → Bool
same_share a b = a.group == b.group && option_eq nat_eq a.value b.value

abbrev pub same_place : ListenerSlot → ListenerSlot → Bool
same_place a b = same_ear a.ear b.ear && same_share a.share b.share

abbrev pub place_at : EventKey → ℕ → Option ℕ → ListenerSlot
place_at e g n = record { ear = e; share = record { group = g; value = n } }

-- which of the values that are named the data of a link is: none, where it has no data, or the value with this number
abbrev pub number_in : Option (List Value) → Option Value → Option (Option ℕ)
number_in o None = Some None
number_in None (Some x) = None
number_in (Some xs) (Some x) = option_map Some (position (same_value x) xs)

-- the place of a link of the group with this number
abbrev pub place_of : List ObjRef → List (EventKey × List Value) → ℕ → Fixed → Option ListenerSlot
place_of os es g p =
    option_and_then (λ e. option_map (place_at e g) (number_in (lookup (same_ear e) es) (data_of p))) (ear_of os p)

abbrev pub is_place : ListenerSlot → Option ListenerSlot → Bool
is_place q None = false
is_place q (Some k) = same_place k q

-- the links at a place
abbrev pub listed : ListenerSlot → List (ListenerSlot × List Fixed) → List Fixed
listed q ls = unwrap_or (lookup (same_place q) ls) []

-- those of the group with this number
abbrev pub lists_in : List ObjRef → List (EventKey × List Value) → ListenerSlot → ℕ → List Fixed → List Fixed
lists_in os es q g ps = filter (λ p. is_place q (place_of os es g p)) ps

abbrev pub lists_at : List ObjRef → List (EventKey × List Value) → ListenerSlot → ℕ → Option (List ℕ × List Fixed) → List Fixed
lists_at os es q g None = []
lists_at os es q g (Some e) = lists_in os es q g e.1

-- those of these groups, of which the first has this number
abbrev pub lists_from : List ObjRef → List (EventKey × List Value) → ListenerSlot → ℕ → List (List ℕ × List Fixed) → List Fixed
lists_from os es q g [] = []
lists_from os es q g (e ∷ gs) = lists_in os es q g e.1 ++ lists_from os es q (suc g) gs

-- Who listens

pub record Listeners : Type 0 where
  -- all objects, and all sources that links name
  pub objects : List ObjRef
  -- the data that links name, by the events for which they wait
  pub ears : List (EventKey × List Value)
  -- the links, by their places
  pub lists : List (ListenerSlot × List Fixed)

-- these are the objects of the service, what its links name, and the links themselves
pub record IsListening (v : Service) (l : Listeners) : Type 0 where
  pub objects : l.objects ≡ objects_of (all_parts v)
  pub ears : (q : EventKey) → lookup (same_ear q) l.ears ≡ named (λ p. is_ear q (ear_of l.objects p)) None (all_parts v)
  pub lists : (q : ListenerSlot) → listed q l.lists ≡ lists_from l.objects l.ears q 0 v.groups

-- what data is named of the events of this type of a source
abbrev pub heard : Listeners → Heard
heard l r kind = option_and_then (λ e. lookup (same_ear e) l.ears) (ear_with l.objects r kind)

-- the place of the links of the group with this number
abbrev pub place_with : List ObjRef → Option ℕ → ObjRef → EventType → Option ℕ → Option ListenerSlot
place_with os g r kind n = option_and_then (λ e. option_map (λ h. place_at e h n) g) (ear_with os r kind)

-- the links of the group with this number that wait for such events, and have no data, or the value with this number
abbrev pub links_at : Listeners → Option ℕ → ObjRef → EventType → Option ℕ → List Fixed
links_at l g r kind n = option_map_or (λ q. listed q l.lists) (place_with l.objects g r kind n) []

-- Laws

-- what is heard is what links name that wait for such events
abbrev pub HeardIsNamed : Type 0
HeardIsNamed =
    (v : Service) (l : Listeners) → IsListening v l → (r : ObjRef) (kind : EventType) →
    heard l r kind ≡ named (waits_for r kind) None (all_parts v)

-- so that no link is left out, whatever flow
abbrev pub AllAreHeard : Type 0
AllAreHeard = (v : Service) (w : Flow) (l : Listeners) → IsListening v l → HearsAll v w (heard l)

-- objects and numbers are one for the other, and all objects have numbers, and all sources
pub record HaveNumbers (v : Service) (l : Listeners) : Type 0 where
  pub numbers : (n : ℕ) (r : ObjRef) → slice_get l.objects n ≡ Some r ↔ position (same_key r) l.objects ≡ Some n
  pub all :
      (p : Fixed) (r : ObjRef) → Among (all_parts v) p → Among (mentioned p) r →
      (n : ℕ) × (position (same_key r) l.objects ≡ Some n)

abbrev pub ObjectsAreNumbered : Type 0
ObjectsAreNumbered = (v : Service) (l : Listeners) → IsListening v l → HaveNumbers v l

-- the same of the data that is named
pub record TellValues (xs : List Value) : Type 0 where
  pub numbers : (n : ℕ) (x : Value) → slice_get xs n ≡ Some x ↔ position (same_value x) xs ≡ Some n
  pub found : (x : Value) → list_any (same_value x) xs ≡ is_some (position (same_value x) xs)

abbrev pub ValuesAreNumbered : Type 0
ValuesAreNumbered =
    (v : Service) (l : Listeners) → IsListening v l → (r : ObjRef) (kind : EventType) (xs : List Value) →
    heard l r kind ≡ Some xs → TellValues xs

-- the sum over the links of the application that wait, and then over those of the scene
abbrev pub link_node : Config → Fixed → Price CostNode
link_node c p = Node (Effect c p.key costs.link_effect)

abbrev pub waiting_links : Service → Config → (Fixed → Bool) → Price CostNode
waiting_links v c t =
    Plus (sum_price (link_node c) (filter t (group_parts v c.app))) (sum_price (link_node c) (filter t (scene_parts v c.scene)))

-- comes to what the sum over all that is present does, where the others add nothing
abbrev pub SumsOverLinks : Type 0
SumsOverLinks =
    (v : Service) (c : Config) (r : ObjRef) (kind : EventType) (is : Option Value → Bool) (k : CostNode → Result ℕ NumberedNode) →
    known_worth k (links_with v c r kind is) ≡ known_worth k (waiting_links v c (λ p. waits_for r kind p && is (data_of p)))
