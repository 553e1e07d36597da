-- What is known of a refusal.
use Rattle.std.specs.Prelude.{ℕ, List, Option}
use Rattle.mh_base.specs.declared.obj_ref.ObjRef.{ObjRef}
use Rattle.mh_group.specs.declared.action_name.ActionName.{ActionName}

pub record Refused : Type 0 where
  -- the number of its kind
  pub number : ℕ
  -- the object in which the action is written, and the number of the action there; 0 for the members of the object
  pub group : List ℕ
  pub object : ℕ
  pub index : ℕ
  -- none for the members
  pub action : Option ActionName
  -- the reference that is wrong
  pub at : ObjRef
  -- the variable or the list that may hold it, if it is not written there
  pub holder : Option ObjRef
