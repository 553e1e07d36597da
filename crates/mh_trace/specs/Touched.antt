-- Which objects an entry may change besides exchanging them all: what it is done to, and what receives its answers.
use Rattle.std.specs.Prelude.{Bool, true, false, List, [], ◌∷◌, ◌++◌, Option, Some, None}
use Rattle.std.specs.List.{flat_map}
use Rattle.std.specs.Option.{option_to_list}
use Rattle.mh_base.specs.declared.obj_ref.ObjRef.{ObjRef}
use Rattle.mh_model.specs.declared.act.Act.{Act}
use Rattle.mh_model.specs.declared.act.Argument.{Argument}
use Rattle.mh_model.specs.declared.act.Argument.TheVariants as argument
use Rattle.mh_model.specs.declared.input.Input.TheVariants as input
use Rattle.mh_model.specs.declared.input.Waiting.{Waiting}
use Rattle.mh_model.specs.declared.input.Waiting.TheVariants as waiting
use Rattle.mh_model.specs.declared.interaction.Interaction.{Interaction}
use Rattle.mh_model.specs.declared.item.Item.{Item}
use Rattle.mh_model.specs.declared.item.Item.TheVariants as item
use Rattle.mh_model.specs.declared.object.Object.{Object}
use Rattle.mh_model.specs.declared.sort.Sort.{Sort}
use Rattle.mh_model.specs.declared.sort.Sort.TheVariants as sort
use Rattle.mh_model.specs.Arguments.{referred}
use Rattle.mh_model.specs.Service.{object_at}
use Rattle.mh_model.specs.Sort.{sort_of}
use Rattle.mh_model.specs.State.{State, all}

-- the object at a reference, if it is present
abbrev pub found_at : List Object → ObjRef → List Object
found_at os r = option_to_list (object_at r os)

abbrev pub found_at_option : List Object → Option ObjRef → List Object
found_at_option os None = []
found_at_option os (Some r) = found_at os r

-- the variable that an argument may change: one that receives an answer, and where a program is called each that is passed
abbrev pub filled_through : Sort → ObjRef → Option ObjRef
filled_through sort.Call r = Some r
filled_through _ r = None

abbrev pub filled_by : Argument → Sort → Option ObjRef
filled_by (argument.Receiver r) s = Some r
filled_by (argument.Through r k) s = filled_through s r
filled_by (argument.Direct v) s = None

abbrev pub filled_object : List Object → Sort → Argument → List Object
filled_object os s x = found_at_option os (filled_by x s)

-- what an action may change: what it is done to, and then what it fills
abbrev pub act_touches : List Object → Act → List Object
act_touches os a =
    found_at_option os (referred a.target os) ++ flat_map (filled_object os (sort_of a.name)) a.arguments

abbrev pub item_touches : List Object → Item → List Object
item_touches os (item.Act a) = act_touches os a
item_touches os (item.Prepare r) = found_at os r
item_touches os (item.Run r) = found_at os r
item_touches os (item.Halt r) = found_at os r
item_touches os (item.RunMember r) = found_at os r
item_touches os (item.HaltMember r) = found_at os r
item_touches os (item.Drop r) = found_at os r
item_touches os i = []

-- a key may change the object that interacts
abbrev pub key_touches : List Object → Option Interaction → List Object
key_touches os None = []
key_touches os (Some i) = found_at os i.object

abbrev pub waiting_touches : List Object → Option Interaction → Waiting → List Object
waiting_touches os i (waiting.Input (input.Key k)) = key_touches os i
waiting_touches os i w = []

-- the objects that a step may change, as they are before it
abbrev pub touched : Option Item → Option Waiting → State → List Object
touched (Some i) w s = item_touches (all s.objects) i
touched None (Some w) s = waiting_touches (all s.objects) s.interaction w
touched None None s = []

-- whether an entry may change the display stack beside an object that becomes available

abbrev pub restacks_sort : Sort → Bool
restacks_sort sort.Order = true
restacks_sort _ = false

abbrev pub restacks : Option Item → Bool
restacks (Some (item.Act a)) = restacks_sort (sort_of a.name)
restacks (Some (item.Drop r)) = true
restacks i = false
