-- The files that will be there when all that waits is taken, by their names.
use Rattle.std.specs.Prelude.{ℕ, ◌+◌, Bool, false, if◌then◌else◌, List, length, Option, None}
use Rattle.std.specs.List.{list_any}
use Rattle.std.specs.Option.{option_map_or}
use Rattle.mh_model.specs.declared.file.File.{File}
use Rattle.mh_model.specs.declared.input.Waiting.{Waiting}
use Rattle.mh_model.specs.Files.{is_named}
use Rattle.mh_model.specs.Step.{file_in}

-- a file of this name is among them
abbrev pub has : List ℕ → List File → Bool
has name fs = list_any (is_named name) fs

-- a file of this name is brought
abbrev pub is_for : List ℕ → Option File → Bool
is_for name f = option_map_or (is_named name) f false

abbrev pub brings : List ℕ → Waiting → Bool
brings name w = is_for name (file_in w)

-- how many files there are with one that is brought
abbrev pub number_with : Option File → List File → ℕ
number_with f fs = option_map_or (λ g. if has g.name fs then length fs else length fs + 1) f (length fs)

-- the file that is brought by what was found
abbrev pub file_at : Option Waiting → Option File
file_at w = option_map_or file_in w None
