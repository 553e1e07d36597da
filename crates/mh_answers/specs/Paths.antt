-- Files by their paths: a folder, a slash, and the name of the group.
use Rattle.std.specs.Prelude.{ℕ, ◌==◌, Bool, false, if◌then◌else◌, List, [], ◌∷◌, ◌++◌, Option, Some, None, codes}
use Rattle.std.specs.Str.{bytes_eq}
use Rattle.std.specs.Str.Lossy.{utf8_lossy}
use Rattle.mh_protocol.specs.Uris.{escaped}

abbrev pub path_of : List ℕ → List ℕ → List ℕ
path_of folder name = folder ++ 47 ∷ [] ++ name

abbrev pub uri_of_path : List ℕ → List ℕ
uri_of_path path = utf8_lossy (codes "file://" ++ escaped path)

-- the name by which an editor knows the file
abbrev pub uri_of : List ℕ → List ℕ → List ℕ
uri_of folder name = uri_of_path (path_of folder name)

abbrev pub behind_slash : List ℕ → Option (List ℕ)
behind_slash [] = None
behind_slash (b ∷ bs) = if b == 47 then Some bs else None

-- what stands in a path behind the folder and a slash
abbrev pub name_in : List ℕ → List ℕ → Option (List ℕ)
name_in [] path = behind_slash path
name_in (b ∷ folder) [] = None
name_in (b ∷ folder) (c ∷ path) = if c == b then name_in folder path else None

abbrev pub is_name : List ℕ → Option (List ℕ) → Bool
is_name name None = false
is_name name (Some found) = bytes_eq found name

-- it is the path of the file with this name in the folder
abbrev pub is_path_of : List ℕ → List ℕ → List ℕ → Bool
is_path_of folder name path = is_name name (name_in folder path)
