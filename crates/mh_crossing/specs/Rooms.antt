-- What stands in the room that a caller lends for a text.
use Rattle.std.specs.Prelude.{◌≡◌, ℕ, ◌⊎◌, false, true, List, ◌++◌, length, take, drop}
use Rattle.mh_crossing.specs.declared.source.Source.{Source}
use Rattle.mh_crossing.specs.Answers.{no_memory, no_path}
use Rattle.mh_crossing.specs.Files.{AreHanded, File, have_paths}

-- as much of a text stands in the room as there is place for, and its whole length is told
abbrev pub IsPut : List ℕ → List ℕ → List ℕ → ℕ → Type 0
IsPut text before after count = (count ≡ length text) × (after ≡ take (length before) text ++ drop (length text) before)

-- nothing was written
abbrev pub IsUnput : List ℕ → List ℕ → ℕ → ℕ → Type 0
IsUnput before after old new = (after ≡ before) × (new ≡ old)

-- A text that is meant of the files that were handed in, and its number.
pub record AreMeant (Means : List File → List ℕ → ℕ → Type 0) (sources : List Source) (text : List ℕ) (n : ℕ) : Type 0 where
  pub paths : have_paths sources ≡ true
  pub files : List File
  pub same : AreHanded sources files
  pub meant : Means files text n

-- It stands in the room, and its number is answered.
pub record IsAnswered (Means : List File → List ℕ → ℕ → Type 0) (sources : List Source) (before after : List ℕ) (count n : ℕ) : Type 0 where
  pub text : List ℕ
  pub told : AreMeant Means sources text n
  pub put : IsPut text before after count

-- there is none, since memory was refused, or a name is no path
abbrev pub IsUnanswered : List Source → ℕ → Type 0
IsUnanswered sources n = (n ≡ no_memory) ⊎ ((n ≡ no_path) × (have_paths sources ≡ false))

-- WHAT A CALL ON FILES ANSWERS
abbrev pub Answers : (List File → List ℕ → ℕ → Type 0) → List Source → List ℕ → List ℕ → ℕ → ℕ → ℕ → Type 0
Answers Means sources before after old new n =
    IsAnswered Means sources before after new n ⊎ (IsUnanswered sources n × IsUnput before after old new)

-- WHAT A CALL WITHOUT FILES ANSWERS: a text that is meant stands in the room, or memory was refused
pub record IsHandedOut (Means : List ℕ → ℕ → Type 0) (before after : List ℕ) (count n : ℕ) : Type 0 where
  pub text : List ℕ
  pub meant : Means text n
  pub put : IsPut text before after count

abbrev pub HandsOut : (List ℕ → ℕ → Type 0) → List ℕ → List ℕ → ℕ → ℕ → ℕ → Type 0
HandsOut Means before after old new n =
    IsHandedOut Means before after new n ⊎ ((n ≡ no_memory) × IsUnput before after old new)
