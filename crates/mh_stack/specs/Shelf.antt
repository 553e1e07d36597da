-- A display stack, as a contract sees it.
use Rattle.std.specs.Prelude.{ℕ, List}
use Rattle.mh_base.specs.declared.obj_ref.ObjRef.{ObjRef}

-- the references on it, the bottom first, and for how many more there is room
pub record Shelf : Type 0 where
  pub places : List ObjRef
  pub room : ℕ
