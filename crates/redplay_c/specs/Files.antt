-- The files that a caller hands in, and what they are read as.
use Rattle.std.specs.Prelude.{◌≡◌, ℕ, ◌<◌, Bool, List, Option, Some, None, Result, Err, map}
use Rattle.std.specs.List.{list_all}
use Rattle.mh_base.specs.Path.{is_path}
use Rattle.mh_codec.specs.Tags.{profile}
use Rattle.mh_model.specs.Service.{Service}
use Rattle.mh_told.specs.declared.unplayable.Unplayable.{Unplayable}
use Rattle.mh_told.specs.declared.unplayable.Unplayable.TheVariants as unplayable
use Rattle.mh_told.specs.Reading.{Source as File, service_read}
use Rattle.redplay_c.specs.declared.crossing.Source.{Source}

-- the name of each is a path
abbrev pub have_paths : List Source → Bool
have_paths sources = list_all (λ s. is_path s.name.now) sources

-- a name and bytes, as they are handed in and as they are kept
abbrev pub handed : Source → List ℕ × List ℕ
handed s = (s.name.now, s.content.now)

abbrev pub kept : File → List ℕ × List ℕ
kept f = (f.0, f.1.items)

-- these are the files that were handed in
abbrev pub AreHanded : List Source → List File → Type 0
AreHanded sources files = map kept files ≡ map handed sources

-- what is chosen beside the files: the name of the application to start with, the file that names late scenes, a name a line,
-- the modified Julian day, and whether the verifier is not asked
pub record Choice : Type 0 where
  pub start : List ℕ
  pub late : List ℕ
  pub day : ℕ
  pub lenient : Bool

abbrev pub choice_of : List ℕ → List ℕ → ℕ → Bool → Choice
choice_of start late day lenient = record { start = start; late = late; day = day; lenient = lenient }

-- the service that the files make, with the tags of the profile, or the first thing that cannot be read
abbrev pub chosen_service : List ℕ → List ℕ → List File → Result Service Unplayable
chosen_service start late files = service_read profile start (Some late) files

-- the number under which it is told that files cannot be read; a script is not read here, and has none
abbrev pub reading_number : Unplayable → Option ℕ
reading_number (unplayable.File name number offset) = Some number
reading_number (unplayable.Service number group) = Some number
reading_number (unplayable.Tags number place) = Some number
reading_number (unplayable.Script line) = None
reading_number unplayable.NoMemory = None

-- The files make no service, for the reason of this number, which is none of the library's own.
pub record IsUnreadable (r : Result Service Unplayable) (number : ℕ) : Type 0 where
  pub why : Unplayable
  pub read : r ≡ Err why
  pub told : reading_number why ≡ Some number
  pub some : 0 < number
  pub small : number < 100
