-- Why an item cannot be done.
use Rattle.std.specs.Prelude.{List, slice_get, Option, Some, None}
use Rattle.mh_base.specs.declared.obj_ref.ObjRef.{ObjRef}
use Rattle.mh_group.specs.declared.action_name.ActionName.{ActionName}
use Rattle.mh_group.specs.declared.action_name.ActionName.TheVariants as action
use Rattle.mh_group.specs.Table.{is_visible}
use Rattle.mh_model.specs.declared.fault.Fault.{Fault}
use Rattle.mh_model.specs.declared.item.Item.{Item}
use Rattle.mh_model.specs.declared.item.Item.TheVariants as item
use Rattle.mh_model.specs.declared.object.Object.{Object}
use Rattle.mh_model.specs.Faults.{object_wrongs, fault_by, fault_known}
use Rattle.mh_model.specs.Known.{class_at, known_in}
use Rattle.mh_model.specs.Service.{parts}
use Rattle.mh_model.specs.State.{State, all}

-- a member of a group of objects has to be there, and a visible
abbrev pub member_fault : ActionName → ObjRef → List Object → Option Fault
member_fault n r os = fault_by n (slice_get (object_wrongs is_visible None r (class_at r (parts os))) 0)

-- an action is stuck where something is wrong with it, and what is done to a member where that is absent or no
-- visible; no other item ever is
abbrev pub stuck : Item → State → Option Fault
stuck (item.Act a) s = fault_known (known_in s.service (all s.objects)) a
stuck (item.RunMember r) s = member_fault action.Run r (all s.objects)
stuck (item.HaltMember r) s = member_fault action.Stop r (all s.objects)
stuck _ s = None

abbrev pub fault_at : Option Item → State → Option Fault
fault_at None s = None
fault_at (Some i) s = stuck i s

-- what is wrong with the first item of the work list, if it is stuck
abbrev pub front_fault : State → Option Fault
front_fault s = fault_at (slice_get s.work 0) s
