-- The carousel, as a contract sees it.
use Rattle.std.specs.Prelude.{ℕ, List, [], filter, map}
use Rattle.std.specs.Str.{bytes_eq}
use Rattle.indexmap.specs.IndexSet.{insert_all}
use Rattle.mh_base.specs.declared.obj_ref.ObjRef.{ObjRef}
use Rattle.mh_model.specs.declared.file.File.{File}
use Rattle.mh_model.specs.declared.file.Wait.{Wait}

-- the files that are there and the objects that wait for one, and for how many more of each there is room
pub record Carried : Type 0 where
  pub files : List File
  pub waits : List Wait
  pub file_room : ℕ
  pub room : ℕ

-- what a table has under its keys

abbrev pub file_of : (List ℕ × List ℕ) → File
file_of e = record { name = e.0; content = e.1 }

abbrev pub files_of : List (List ℕ × List ℕ) → List File
files_of es = map file_of es

-- the objects that wait for the file of this name
abbrev pub waiting_for : List ℕ → List Wait → List ObjRef
waiting_for name ws = map (λ w. w.object) (filter (λ w. bytes_eq w.name name) ws)

-- the names of the files that these wait for, each once, in the order in which an object came to wait for one
abbrev pub awaited_names : List Wait → List (List ℕ)
awaited_names ws = insert_all bytes_eq [] (map (λ w. w.name) ws)
