-- What is found of a service, told file by file.
use Rattle.std.specs.Prelude.{◌≡◌, ℕ, ◌+◌, Bool, true, false, if◌then◌else◌, List, [], ◌∷◌, ◌++◌, map, codes}
use Rattle.std.specs.List.{filter, list_any}
use Rattle.std.specs.Str.{bytes_eq}
use Rattle.serde_json.specs.Data.{Data, array, string, object, member, no_members}
use Rattle.serde_json.specs.View.{items_of}
use Rattle.mh_answers.specs.Objects.{Source}
use Rattle.mh_answers.specs.Paths.{uri_of_path}
use Rattle.mh_findings.specs.declared.finding.Finding.{Finding}
use Rattle.mh_protocol.specs.declared.position.Unit.{Unit}
use Rattle.mh_protocol.specs.Answers.{notice_data}
use Rattle.mh_served.specs.declared.session.Told.{Told}
use Rattle.mh_served.specs.Diagnostics.{diagnostics_at}

-- PATHS

abbrev pub has_path : List ℕ → List (List ℕ) → Bool
has_path p ps = list_any (λ q. bytes_eq q p) ps

-- with one more, unless it is there
abbrev pub with_path : List (List ℕ) → List ℕ → List (List ℕ)
with_path ps p = if has_path p ps then ps else ps ++ p ∷ []

abbrev pub with_files : List (List ℕ) → List Finding → List (List ℕ)
with_files ps [] = ps
with_files ps (f ∷ fs) = with_files (with_path ps f.at.file) fs

abbrev pub with_told_by : Bool → List (List ℕ) → List ℕ → List (List ℕ)
with_told_by true ps p = with_path ps p
with_told_by false ps p = ps

abbrev pub with_told : List ℕ → List (List ℕ) → List Told → List (List ℕ)
with_told folder ps [] = ps
with_told folder ps (t ∷ ts) = with_told folder (with_told_by (bytes_eq t.folder.items folder) ps t.path.items) ts

-- the paths that are told of: that of the text, those at which something is found, and those at which something was
abbrev pub paths_to_tell : List ℕ → List Finding → List Told → List ℕ → List (List ℕ)
paths_to_tell path fs ts folder = with_told folder (with_files (path ∷ []) fs) ts

-- NOTICES

-- what is told of the file at a path: those findings that stand there
unfoldable pub params_at : Unit → List ℕ → List Source → List Finding → List ℕ → Data
params_at u folder files fs path =
    object (member (codes "diagnostics") (array (items_of (diagnostics_at u folder files path fs)))
    (member (codes "uri") (string (uri_of_path path)) no_members))

abbrev pub notice_at : Unit → List ℕ → List Source → List Finding → List ℕ → Data
notice_at u folder files fs path = notice_data (codes "textDocument/publishDiagnostics") (params_at u folder files fs path)

-- one of each path
abbrev pub notices : Unit → List ℕ → List Source → List Finding → List Told → List ℕ → List Data
notices u folder files fs ts path = map (notice_at u folder files fs) (paths_to_tell path fs ts folder)

-- THE LAW

abbrev pub one_if : Bool → ℕ
one_if true = 1
one_if false = 0

abbrev pub occurs : List ℕ → List (List ℕ) → ℕ
occurs q [] = 0
occurs q (p ∷ ps) = one_if (bytes_eq p q) + occurs q ps

-- whatever else is found, and whatever was told, the path of a finding is told of once
abbrev pub EachFindingIsToldOnce : Type 0
EachFindingIsToldOnce =
    (path : List ℕ) (before : List Finding) (f : Finding) (behind : List Finding) (ts : List Told) (folder : List ℕ)
    → occurs f.at.file (paths_to_tell path (before ++ f ∷ behind) ts folder) ≡ 1
