-- The tokens of a file, and the objects that they name.
use Rattle.std.specs.Prelude.{ℕ, List, Option, Some, None, Vec}
use Rattle.std.specs.List.{find}
use Rattle.std.specs.Str.{bytes_eq}
use Rattle.std.specs.declared.alloc.Global.{Global}
use Rattle.mh_base.specs.declared.obj_ref.ObjRef.{ObjRef}
use Rattle.mh_edit.specs.declared.walk.Spot.{Spot}
use Rattle.mh_edit.specs.Objects.{object_of, spot_over}
use Rattle.mh_edit.specs.Walk.{spots}
use Rattle.mh_edit.specs.Words.{words}

-- the name of a group, and the text of its file
abbrev pub Source : Type 0
Source = List ℕ × Vec ℕ Global

-- the tokens of a text with what each stands in
abbrev pub spots_in : List ℕ → List Spot
spots_in bs = spots bs (words bs)

-- the file of this group
abbrev pub file_named : List ℕ → List Source → Option Source
file_named name fs = find (λ (f : Source). bytes_eq f.0 name) fs

abbrev pub object_by : Source → Option Spot → Option ObjRef
object_by f None = None
object_by f (Some s) = object_of f.0 f.1.items s.role

abbrev pub object_over : Source → List Spot → ℕ → Option ObjRef
object_over f ss n = object_by f (spot_over ss n)

-- the object that is named at a place of a file
unfoldable pub object_at : Source → ℕ → Option ObjRef
object_at f n = object_over f (spots_in f.1.items) n
