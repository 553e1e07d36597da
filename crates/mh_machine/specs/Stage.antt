-- The stage: the objects that are present, the display stack, and which cells of the picture are still to be
-- painted.
use Rattle.std.specs.Prelude.{ℕ, List}
use Rattle.mh_base.specs.declared.obj_ref.ObjRef.{ObjRef}
use Rattle.mh_model.specs.State.{Objects}

pub record Staged : Type 0 where
  pub objects : Objects
  pub stack : List ObjRef
  -- for how many more references the stack has room
  pub room : ℕ
  -- 0 for each cell that is right
  pub marks : List ℕ
