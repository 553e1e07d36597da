-- A service that is known in part: what a step looks at of it.
use Rattle.std.specs.Prelude.{◌≡◌, ℕ, ◌==◌, true, List, slice_get, Option, Some}
use Rattle.mh_base.specs.declared.obj_ref.ObjRef.{ObjRef}
use Rattle.mh_model.specs.declared.item.Item.{Item}
use Rattle.mh_model.specs.declared.item.Item.TheVariants as item
use Rattle.mh_model.specs.Known.{class_at}
use Rattle.mh_model.specs.Picture.{shown}
use Rattle.mh_model.specs.Service.{Service, group_parts, with_parts}
use Rattle.mh_model.specs.State.{State}
use Rattle.mh_model.specs.Step.{step}
use Rattle.mh_model.specs.Stuck.{front_fault}

-- the same state, over another service
abbrev pub beside : Service → State → State
beside w s = record s { service = w }

-- the one service tells as the other of the programs, of which class each group is, and of the groups that are there
pub record AreAlike (w v : Service) (application : List ℕ) (scene : Option (List ℕ)) : Type 0 where
  pub programs : w.programs ≡ v.programs
  pub classes : (r : ObjRef) → (r.number == 0) ≡ true → class_at r (group_parts w r.group) ≡ class_at r (group_parts v r.group)
  pub own : group_parts w application ≡ group_parts v application
  pub others : with_parts w scene ≡ with_parts v scene

abbrev pub IsAlike : Service → State → Type 0
IsAlike w s = AreAlike w s.service s.application s.scene

-- and of the group that an item brings
abbrev pub TellsOf : Service → Service → Option Item → Type 0
TellsOf w v (Some (item.Enter g)) = group_parts w g ≡ group_parts v g
TellsOf w v (Some (item.Exchange g)) = group_parts w g ≡ group_parts v g
TellsOf w v _ = Unit {0}

-- A step looks at nothing else of the service, and what is there behind it is told alike.
abbrev pub NotLookedAt : Type 0
NotLookedAt = (w : Service) (s : State) → IsAlike w s → TellsOf w s.service (slice_get s.work 0) → (step (beside w s) ≡ beside w (step s)) × IsAlike w (step s)

-- what is stuck is stuck for the same reason
abbrev pub StuckAlike : Type 0
StuckAlike = (w : Service) (s : State) → IsAlike w s → front_fault (beside w s) ≡ front_fault s

-- the picture tells nothing of it
abbrev pub ShownAlike : Type 0
ShownAlike = (w : Service) (s : State) → shown (beside w s) ≡ shown s
