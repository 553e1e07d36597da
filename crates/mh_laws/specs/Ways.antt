-- What an action can put, counted: it is put in one of some ways, each a list of shares, and each share is put once at
-- most, in their order. What an action can cost is read off here.
use Rattle.std.specs.Prelude.{◌≡◌, ◌⊎◌, ℕ, ◌+◌, ◌≤◌, Bool, true, false, List, [], ◌∷◌, ◌++◌, map, slice_get, Option, Some, None, pos}
use Rattle.mh_base.specs.declared.obj_ref.ObjRef.{ObjRef}
use Rattle.mh_base.specs.declared.value.Value.{Value}
use Rattle.mh_base.specs.declared.value.Value.TheVariants as value
use Rattle.mh_base.specs.declared.event.EventType.{EventType}
use Rattle.mh_base.specs.declared.event.EventType.TheVariants as event
use Rattle.mh_group.specs.declared.action_name.ActionName.{ActionName}
use Rattle.mh_group.specs.declared.action_name.ActionName.TheVariants as action
use Rattle.mh_model.specs.declared.act.Act.{Act}
use Rattle.mh_model.specs.declared.act.Argument.{Argument}
use Rattle.mh_model.specs.declared.act.Argument.TheVariants as argument
use Rattle.mh_model.specs.declared.file.File.{File}
use Rattle.mh_model.specs.declared.item.Item.{Item}
use Rattle.mh_model.specs.declared.item.Item.TheVariants as item
use Rattle.mh_model.specs.declared.object.member.Member.{Member}
use Rattle.mh_model.specs.declared.object.Fixed.{Fixed}
use Rattle.mh_model.specs.declared.object.Object.{Object}
use Rattle.mh_laws.specs.Describing.{is_transition, items_put}
use Rattle.mh_model.specs.Items.{acts}
use Rattle.mh_model.specs.Lists.{objects_of}
use Rattle.mh_model.specs.Reference.{same_ref}
use Rattle.mh_model.specs.Saying.{event_numbered}
use Rattle.mh_model.specs.Tokens.{members}
use Rattle.mh_model.specs.Arguments.{values}
use Rattle.std.specs.List.{flat_map}
use Rattle.mh_laws.specs.Each.{Among}

-- what is known beforehand of an event's data
pub data Told : Type 0 where
  Sure : Option Value → Told
  Unsure : Told

-- a share of what an action puts
pub data Share : Type 0 where
  Prepares : Share
  Runs : Share
  Halts : Share
  Drops : Share
  Tells : EventType → Told → Share
  -- what the first argument names emits an event: the one that the second names, with the third as data
  Sends : Share
  -- a list changes: items of it halt, items of it run, and it tells what is told otherwise
  Changes : Share
  -- one of the slots of the group that it is done to
  Slots : Share

abbrev pub plain : EventType → Share
plain kind = Tells kind (Sure None)

abbrev pub IsKnown : Told → Option Value → Type 0
IsKnown (Sure m) d = d ≡ m
IsKnown Unsure d = Unit {0}

-- how often the reference stands there
abbrev pub once : Bool → ℕ
once true = 1
once false = 0

abbrev pub count_of : ObjRef → List ObjRef → ℕ
count_of q [] = 0
count_of q (r ∷ rs) = once (same_ref q r) + count_of q rs

-- none stands there more often than here, one apart that is put into the list and did not stand here
abbrev pub IsNoMore : List Value → ℕ → ObjRef → ℕ → Type 0
IsNoMore vs now q n = (n ≤ now) ⊎ ((slice_get vs 1 ≡ Some (value.Object q)) × (n ≤ 1))

abbrev pub slots_of : Fixed → List (List Act)
slots_of p = flat_map (λ (m : Member). m.slots) (members p)

-- one item or none
abbrev pub IsTold : ObjRef → EventType → Told → List Item → Type 0
IsTold r kind d [] = Unit {0}
IsTold r kind d (item.Emit e ∷ []) = (e.source ≡ r) × (e.kind ≡ kind) × IsKnown d e.data
IsTold r kind d is = false ≡ true

abbrev pub list_tells : List Share
list_tells =
    Tells event.FirstItemPresented Unsure ∷ Tells event.LastItemPresented Unsure ∷ Tells event.HeadItems Unsure
    ∷ Tells event.TailItems Unsure ∷ []

-- the items are of the four events of a list
pub record AreListTold (r : ObjRef) (is : List Item) : Type 0 where
  pub first : List Item
  pub last : List Item
  pub head : List Item
  pub tail : List Item
  pub all : is ≡ first ++ last ++ head ++ tail
  pub first_told : IsTold r event.FirstItemPresented Unsure first
  pub last_told : IsTold r event.LastItemPresented Unsure last
  pub head_told : IsTold r event.HeadItems Unsure head
  pub tail_told : IsTold r event.TailItems Unsure tail

pub record IsChange (r : ObjRef) (vs : List Value) (o : Object) (is : List Item) : Type 0 where
  pub halted : List ObjRef
  pub run : List ObjRef
  pub events : List Item
  pub all : is ≡ map item.HaltMember halted ++ map item.RunMember run ++ events
  pub halted_listed : (q : ObjRef) → count_of q halted ≤ count_of q (objects_of o.body.list.entries)
  pub run_listed : (q : ObjRef) → IsNoMore vs (count_of q (objects_of o.body.list.entries)) q (count_of q run)
  pub told : AreListTold r events

-- an event that is sent, by these values
abbrev pub IsSent : List Value → List Item → Type 0
IsSent vs [] = Unit {0}
IsSent vs (item.Emit e ∷ []) =
    (k : ℕ) × (slice_get vs 0 ≡ Some (value.Object e.source)) × (slice_get vs 1 ≡ Some (value.Int (pos k)))
    × (event_numbered (pos k) ≡ Some e.kind) × (e.data ≡ slice_get vs 2)
IsSent vs is = false ≡ true

-- the items are of the share, where the action is done with these values to this object at the reference
abbrev pub IsBy : ObjRef → List Value → Object → Share → List Item → Type 0
IsBy r vs o Prepares is = is ≡ item.Prepare r ∷ []
IsBy r vs o Runs is = is ≡ item.Run r ∷ []
IsBy r vs o Halts is = is ≡ item.Halt r ∷ []
IsBy r vs o Drops is = is ≡ item.Drop r ∷ []
IsBy r vs o (Tells kind d) is = IsTold r kind d is
IsBy r vs o Sends is = IsSent vs is
IsBy r vs o Changes is = IsChange r vs o is
IsBy r vs o Slots is = (is ≡ []) ⊎ ((e : List Act) × (is ≡ acts e) × Among (slots_of o.fixed) e)

-- the items are of the shares, in their order
abbrev pub AreBy : ObjRef → List Value → Object → List Share → List Item → Type 0
AreBy r vs o [] is = is ≡ []
AreBy r vs o (p ∷ ps) is =
    (front : List Item) × (back : List Item) × (is ≡ front ++ back) × IsBy r vs o p front × AreBy r vs o ps back

-- of one of the ways; nothing is put in any way
abbrev pub IsWay : ObjRef → List Value → Object → List (List Share) → List Item → Type 0
IsWay r vs o [] is = is ≡ []
IsWay r vs o (ps ∷ pss) is = AreBy r vs o ps is ⊎ IsWay r vs o pss is

abbrev pub highlight_ways : List Argument → List (List Share)
highlight_ways (argument.Direct (value.Bool true) ∷ []) = (plain event.HighlightOn ∷ []) ∷ []
highlight_ways (argument.Direct (value.Bool false) ∷ []) = (plain event.HighlightOff ∷ []) ∷ []
highlight_ways _ = (plain event.HighlightOn ∷ []) ∷ (plain event.HighlightOff ∷ []) ∷ []

abbrev pub interaction_ways : List Argument → List (List Share)
interaction_ways (argument.Direct (value.Bool true) ∷ []) = []
interaction_ways _ = (plain event.InteractionCompleted ∷ []) ∷ []

-- the ways of an action with these arguments
abbrev pub ways : ActionName → List Argument → List (List Share)
ways action.Run xs = (Runs ∷ []) ∷ []
ways action.Stop xs = (Halts ∷ []) ∷ []
ways action.Preload xs = (Prepares ∷ []) ∷ []
ways action.Unload xs = (Halts ∷ Drops ∷ []) ∷ []
ways action.Activate xs = (Runs ∷ []) ∷ []
ways action.Deactivate xs = (Halts ∷ []) ∷ []
ways action.SendEvent xs = (Sends ∷ []) ∷ []
ways action.TestVariable xs = (Tells event.TestEvent Unsure ∷ []) ∷ []
ways action.SetData xs = (plain event.ContentAvailable ∷ []) ∷ []
ways action.Fork xs = (plain event.AsyncStopped ∷ []) ∷ []
ways action.SetInteractionStatus xs = interaction_ways xs
ways action.SetHighlightStatus xs = highlight_ways xs
ways action.Select xs = (plain event.IsSelected ∷ []) ∷ []
ways action.Deselect xs = (plain event.IsDeselected ∷ []) ∷ []
ways action.Move xs = (Tells event.TokenMovedFrom Unsure ∷ Tells event.TokenMovedTo Unsure ∷ []) ∷ []
ways action.MoveTo xs = (Tells event.TokenMovedFrom Unsure ∷ Tells event.TokenMovedTo Unsure ∷ []) ∷ []
ways action.CallActionSlot xs = (Slots ∷ []) ∷ []
ways action.AddItem xs = (Changes ∷ []) ∷ []
ways action.DelItem xs = (Changes ∷ []) ∷ []
ways action.ScrollItems xs = (Changes ∷ []) ∷ []
ways action.SetFirstItem xs = (Changes ∷ []) ∷ []
ways action.SelectItem xs = (Tells event.ItemDeselected Unsure ∷ Tells event.ItemSelected Unsure ∷ []) ∷ []
ways action.DeselectItem xs = (Tells event.ItemDeselected Unsure ∷ []) ∷ []
ways action.ToggleItem xs = (Tells event.ItemDeselected Unsure ∷ Tells event.ItemSelected Unsure ∷ []) ∷ []
ways _ xs = []

-- what an action puts is put in one of its ways; a transition puts nothing, but leads on
abbrev pub PutsAWay : Type 0
PutsAWay =
    (fs : List File) (interacts : Bool) (n : ActionName) (os : List Object) (xs : List Argument) (r : ObjRef) (o : Object) →
    is_transition n ≡ false → IsWay r (values os xs) o (ways n xs) (items_put fs interacts n (values os xs) r o)
