-- The files that a caller hands in, and how they are kept.
use Rattle.std.specs.Prelude.{◌≡◌, ℕ, Bool, List, Vec, map}
use Rattle.std.specs.List.{list_all}
use Rattle.std.specs.declared.alloc.Global.{Global}
use Rattle.mh_base.specs.Path.{is_path}
use Rattle.mh_crossing.specs.declared.source.Source.{Source}

-- a file as it is kept: its path and its bytes
abbrev pub File : Type 0
File = List ℕ × Vec ℕ Global

-- the name of each is a path
abbrev pub have_paths : List Source → Bool
have_paths sources = list_all (λ s. is_path s.name.now) sources

-- a name and bytes, as they are handed in and as they are kept
abbrev pub handed : Source → List ℕ × List ℕ
handed s = (s.name.now, s.content.now)

abbrev pub kept : File → List ℕ × List ℕ
kept f = (f.0, f.1.items)

-- these are the files that were handed in
abbrev pub AreHanded : List Source → List File → Type 0
AreHanded sources files = map kept files ≡ map handed sources
