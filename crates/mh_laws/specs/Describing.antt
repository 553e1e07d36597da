-- What an action can put and say, as far as its name tells: one line an action each. What follows from an action
-- beforehand, its causes and its costs, is read off here.
use Rattle.std.specs.Prelude.{◌≡◌, ◌⊎◌, ℕ, ◌==◌, Bool, true, false, List, [], ◌∷◌, ◌++◌, slice_get, Some}
use Rattle.std.specs.List.{Contains, list_all, list_any, flat_map}
use Rattle.mh_base.specs.declared.obj_ref.ObjRef.{ObjRef}
use Rattle.mh_base.specs.declared.value.Value.{Value}
use Rattle.mh_base.specs.declared.value.Value.TheVariants as value
use Rattle.mh_base.specs.declared.event.EventType.{EventType}
use Rattle.mh_base.specs.declared.event.EventType.TheVariants as event
use Rattle.mh_base.specs.Event.{number_of}
use Rattle.mh_group.specs.declared.action_name.ActionName.{ActionName}
use Rattle.mh_group.specs.declared.action_name.ActionName.TheVariants as action
use Rattle.mh_group.specs.declared.class.Class.{Class}
use Rattle.mh_group.specs.Table.{admits, may_emit}
use Rattle.mh_model.specs.declared.act.Argument.{Argument}
use Rattle.mh_model.specs.declared.file.File.{File}
use Rattle.mh_model.specs.declared.item.Item.{Item}
use Rattle.mh_model.specs.declared.item.Item.TheVariants as item
use Rattle.mh_model.specs.declared.object.Body.{Body}
use Rattle.mh_model.specs.declared.object.Fixed.{Fixed}
use Rattle.mh_model.specs.declared.object.Object.{Object}
use Rattle.mh_model.specs.declared.sort.Sort.{Sort}
use Rattle.mh_model.specs.declared.sort.Sort.TheVariants as sort
use Rattle.mh_model.specs.Arguments.{values}
use Rattle.mh_model.specs.Groups.{entering}
use Rattle.mh_model.specs.Lifecycle.{prepare_items, run_items, halt_items, drop_items}
use Rattle.mh_model.specs.Property.{value_held, as_reference}
use Rattle.mh_model.specs.Bodies.{changed_by}
use Rattle.mh_model.specs.Saying.{answers, put_items, load_items, call_items, interaction_items}
use Rattle.mh_model.specs.ListItems.{has_item}
use Rattle.mh_model.specs.Rules.{rule_by, is_begun, leads_to_late}
use Rattle.mh_model.specs.Sort.{sort_of}
use Rattle.mh_model.specs.Service.{object_at}
use Rattle.mh_model.specs.State.{State, all}
use Rattle.mh_model.specs.Tokens.{slot_actions}
use Rattle.mh_model.specs.Worked.{worked, is_interacting}

-- What an action puts

-- an item that an action can put: of what it is done to, or of what its first argument names
pub data Piece : Type 0 where
  Prepares : Piece
  Runs : Piece
  Halts : Piece
  Drops : Piece
  -- what it is done to emits an event of this type
  Tells : EventType → Piece
  -- what the first argument names emits an event of any type
  Sends : Piece
  -- an item of the list that it is done to, or that is put into it, runs or halts
  Lists : Piece
  -- an action of a slot of the group that it is done to
  Slots : Piece
  -- the group that it is done to is exchanged for what was there, and entered
  Enters : Piece
  -- the service ends
  Ends : Piece

abbrev pub is_sent : Piece → Bool
is_sent Sends = true
is_sent _ = false

abbrev pub is_list_piece : Piece → Bool
is_list_piece Lists = true
is_list_piece _ = false

-- it leads elsewhere
abbrev pub is_way_piece : Piece → Bool
is_way_piece Enters = true
is_way_piece Ends = true
is_way_piece _ = false

abbrev pub is_slot_piece : Piece → Bool
is_slot_piece Slots = true
is_slot_piece _ = false

-- what a change of a list can put
abbrev pub list_pieces : List Piece
list_pieces =
    Lists ∷ Tells event.FirstItemPresented ∷ Tells event.LastItemPresented ∷ Tells event.HeadItems
    ∷ Tells event.TailItems ∷ []

abbrev pub can_put : ActionName → List Piece
can_put action.Run = Runs ∷ []
can_put action.Stop = Halts ∷ []
can_put action.Preload = Prepares ∷ []
can_put action.Unload = Halts ∷ Drops ∷ []
can_put action.Activate = Runs ∷ []
can_put action.Deactivate = Halts ∷ []
can_put action.SendEvent = Sends ∷ []
can_put action.TestVariable = Tells event.TestEvent ∷ []
can_put action.SetData = Tells event.ContentAvailable ∷ []
can_put action.Fork = Tells event.AsyncStopped ∷ []
can_put action.SetInteractionStatus = Tells event.InteractionCompleted ∷ []
can_put action.SetHighlightStatus = Tells event.HighlightOn ∷ Tells event.HighlightOff ∷ []
can_put action.Select = Tells event.IsSelected ∷ []
can_put action.Deselect = Tells event.IsDeselected ∷ []
can_put action.Move = Tells event.TokenMovedFrom ∷ Tells event.TokenMovedTo ∷ []
can_put action.MoveTo = Tells event.TokenMovedFrom ∷ Tells event.TokenMovedTo ∷ []
can_put action.CallActionSlot = Slots ∷ []
can_put action.TransitionTo = Enters ∷ []
can_put action.Launch = Enters ∷ []
can_put action.Quit = Ends ∷ []
can_put action.AddItem = list_pieces
can_put action.DelItem = list_pieces
can_put action.ScrollItems = list_pieces
can_put action.SetFirstItem = list_pieces
can_put action.SelectItem = Tells event.ItemDeselected ∷ Tells event.ItemSelected ∷ []
can_put action.DeselectItem = Tells event.ItemDeselected ∷ []
can_put action.ToggleItem = Tells event.ItemDeselected ∷ Tells event.ItemSelected ∷ []
can_put _ = []

-- an object is an item of the list, or the one that is put into it
abbrev pub IsListed : List Value → Object → ObjRef → Type 0
IsListed vs o x = (has_item x o.body.list.entries ≡ true) ⊎ (slice_get vs 1 ≡ Some (value.Object x))

-- the item is of the piece, where the action is done with these values to this object at the reference
abbrev pub IsOf : ObjRef → List Value → Object → Piece → Item → Type 0
IsOf r vs o Prepares (item.Prepare x) = x ≡ r
IsOf r vs o Runs (item.Run x) = x ≡ r
IsOf r vs o Halts (item.Halt x) = x ≡ r
IsOf r vs o Drops (item.Drop x) = x ≡ r
IsOf r vs o (Tells kind) (item.Emit e) = (e.source ≡ r) × (e.kind ≡ kind)
IsOf r vs o Sends (item.Emit e) = slice_get vs 0 ≡ Some (value.Object e.source)
IsOf r vs o Lists (item.RunMember x) = IsListed vs o x
IsOf r vs o Lists (item.HaltMember x) = IsListed vs o x
IsOf r vs o Slots (item.Act a) = Contains (slot_actions o.fixed) a
IsOf r vs o Enters (item.Exchange g) = g ≡ r.group
IsOf r vs o Ends item.End = Unit {0}
IsOf r vs o p i = false ≡ true

abbrev pub IsOneOf : ObjRef → List Value → Object → List Piece → Item → Type 0
IsOneOf r vs o [] i = false ≡ true
IsOneOf r vs o (p ∷ ps) i = IsOf r vs o p i ⊎ IsOneOf r vs o ps i

-- each of the items is of one of the pieces
abbrev pub AreOf : ObjRef → List Value → Object → List Piece → List Item → Type 0
AreOf r vs o ps [] = Unit {0}
AreOf r vs o ps (i ∷ is) = IsOneOf r vs o ps i × AreOf r vs o ps is

-- of the two actions of interaction one asks
abbrev pub interact_items : ActionName → List Value → Bool → ObjRef → List Item
interact_items action.SetInteractionStatus vs interacts r = interaction_items vs interacts r
interact_items _ vs interacts r = []

-- where a transition leads, behind all that is left
abbrev pub way_in : ActionName → ObjRef → List Item
way_in action.TransitionTo r = item.Exchange r.group ∷ []
way_in action.Launch r = item.Exchange r.group ∷ []
way_in action.Quit r = item.End ∷ []
way_in _ r = []

-- all that the action puts, done to this object, where these files are there and it interacts or not, by what kind
-- of thing the action does; of a transition, where it leads
abbrev pub items_by : Sort → List File → Bool → ActionName → List Value → ObjRef → Object → List Item
items_by sort.Put fs interacts n vs r o = put_items n vs r o
items_by sort.Load fs interacts n vs r o = load_items fs vs r (Some o)
items_by sort.Call fs interacts n vs r o = call_items n r
items_by sort.Widget fs interacts n vs r o = (worked n vs r o.fixed o.body).items
items_by sort.Interact fs interacts n vs r o = interact_items n vs interacts r
items_by sort.Whole fs interacts n vs r o = way_in n r
items_by _ fs interacts n vs r o = []

abbrev pub items_put : List File → Bool → ActionName → List Value → ObjRef → Object → List Item
items_put fs interacts n vs r o = items_by (sort_of n) fs interacts n vs r o

-- what an action puts is of the pieces that it can put
abbrev pub PutsWhatItCan : Type 0
PutsWhatItCan =
    (fs : List File) (interacts : Bool) (n : ActionName) (vs : List Value) (r : ObjRef) (o : Object) →
    AreOf r vs o (can_put n) (items_put fs interacts n vs r o)

-- the types of the events among the items
abbrev pub kinds : List Item → List EventType
kinds [] = []
kinds (item.Emit e ∷ is) = e.kind ∷ kinds is
kinds (i ∷ is) = kinds is

-- That is what the rule puts

abbrev pub is_transition : ActionName → Bool
is_transition action.TransitionTo = true
is_transition action.Launch = true
is_transition action.Quit = true
is_transition _ = false

-- From the first of two states to the other an action puts these items: in front of what is to be done, or, where it leads elsewhere, last of what is done in place of all that, and then what comes before it
-- emits nothing itself. Where another transition has begun it puts nothing, nor where it waits for a scene that is late.
pub record ArePut (n : ActionName) (r : ObjRef) (s t : State) (is : List Item) : Type 0 where
  pub stays : is_transition n ≡ false → t.work ≡ is ++ s.work
  pub begun : is_transition n ≡ true → is_begun s.transition ≡ true → t.work ≡ s.work
  pub waits : leads_to_late n r s ≡ true → t.work ≡ s.work
  pub leads : is_transition n ≡ true → is_begun s.transition ≡ false → leads_to_late n r s ≡ false → (left : List Item) × (kinds left ≡ []) × (t.work ≡ left ++ is)

-- what is described of an action is what its rule puts, in each state in which the object stands at the reference
abbrev pub PutsByItsRule : Type 0
PutsByItsRule =
    (n : ActionName) (xs : List Argument) (r : ObjRef) (o : Object) (s : State) → object_at r (all s.objects) ≡ Some o →
    ArePut n r s (rule_by (sort_of n) n xs r s)
    (items_put s.files (is_interacting r s.interaction) n (values (all s.objects) xs) r o)

-- What an action says

-- an action can hand on a reference: the variable or the list that it is done to is given the argument with this
-- number
pub data Says : Type 0 where
  Hands : ℕ → Says

abbrev pub says : ActionName → List Says
says action.SetVariable = Hands 0 ∷ []
says action.AddItem = Hands 1 ∷ []
says _ = []

-- the reference is handed on, where the action is done with these values
abbrev pub IsSaid : List Value → List Says → ObjRef → Type 0
IsSaid vs [] q = false ≡ true
IsSaid vs (Hands n ∷ ss) q = (slice_get vs n ≡ Some (value.Object q)) ⊎ IsSaid vs ss q

-- what it is done to refers to what it referred to before, or to what was handed on
abbrev pub HandsOnWhatItSays : Type 0
HandsOnWhatItSays =
    (n : ActionName) (vs : List Value) (p : Fixed) (b : Body) (q : ObjRef) →
    as_reference (value_held p (changed_by n vs p b)) ≡ Some q →
    (as_reference (value_held p b) ≡ Some q) ⊎ IsSaid vs (says n) q

-- a list has the items that it had before, and what was handed on
abbrev pub ListsWhatItSays : Type 0
ListsWhatItSays =
    (n : ActionName) (vs : List Value) (r : ObjRef) (p : Fixed) (b : Body) (q : ObjRef) →
    has_item q (worked n vs r p b).body.list.entries ≡ true →
    (has_item q b.list.entries ≡ true) ⊎ IsSaid vs (says n) q

-- a reference that is answered is an item of the list that is asked
abbrev pub AnswersItems : Type 0
AnswersItems =
    (n : ActionName) (vs : List Value) (o : Object) (q : ObjRef) →
    Contains (answers n vs o) (value.Object q) → has_item q o.body.list.entries ≡ true

-- What is emitted

-- the events that the item's rule emits of this object; an exchange is followed by the entering of the group
abbrev pub emits_of : List File → ObjRef → Object → Item → List EventType
emits_of fs r o (item.Prepare x) = kinds (prepare_items fs r (Some o))
emits_of fs r o (item.Run x) = kinds (run_items fs r (Some o))
emits_of fs r o (item.Halt x) = kinds (halt_items r (Some o))
emits_of fs r o (item.Drop x) = kinds (drop_items r (Some o))
emits_of fs r o (item.Emit e) = e.kind ∷ []
emits_of fs r o (item.Exchange g) = kinds (entering g (o.fixed ∷ []))
emits_of fs r o i = []

-- the events that come of the action, done to this object
abbrev pub events_put : List File → Bool → ActionName → List Value → ObjRef → Object → List EventType
events_put fs interacts n vs r o = flat_map (emits_of fs r o) (items_put fs interacts n vs r o)

-- an event of this type is among these
abbrev pub is_listed : List EventType → EventType → Bool
is_listed es e = list_any (λ x. number_of x == number_of e) es

-- each event that comes of an action is one that the table lists for it
abbrev pub EmitsWhatIsListed : Type 0
EmitsWhatIsListed =
    (fs : List File) (interacts : Bool) (n : ActionName) (vs : List Value) (r : ObjRef) (o : Object) →
    admits o.fixed.class n ≡ true → list_all (is_listed (may_emit n o.fixed.class)) (events_put fs interacts n vs r o) ≡ true

-- with some values and some object of the class the event comes of the action
pub record IsEmitted (n : ActionName) (c : Class) (e : EventType) : Type 0 where
  pub values : List Value
  pub object : Object
  pub class : object.fixed.class ≡ c
  pub interacts : Bool
  pub comes : is_listed (events_put [] interacts n values object.fixed.key object) e ≡ true

-- each event that the table lists for an action comes of it
abbrev pub ListsWhatIsEmitted : Type 0
ListsWhatIsEmitted =
    (n : ActionName) (c : Class) (e : EventType) → is_listed (may_emit n c) e ≡ true → IsEmitted n c e
