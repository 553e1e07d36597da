-- What is told of a service that is checked: the lines that `redplay check` prints, and the number that is answered with them.
use Rattle.std.specs.Prelude.{◌≡◌, ℕ, ◌<◌, ◌⊎◌, Bool, true, false, List, [], ◌++◌, length, take, drop, Option, Some, None, Result, Ok, Err}
use Rattle.mh_model.specs.Service.{Service}
use Rattle.mh_told.specs.declared.unplayable.Unplayable.{Unplayable}
use Rattle.mh_told.specs.Reading.{Source as File}
use Rattle.mh_verdict.specs.Lines.{accepted_lines, complaint, refusal_lines}
use Rattle.mh_verify.specs.declared.refusal.Refusal.{Refusal}
use Rattle.mh_verify.specs.Free.{IsVerified, Verified}
use Rattle.mh_verify.specs.Order.{Names}
use Rattle.redplay_c.specs.declared.crossing.Source.{Source}
use Rattle.redplay_c.specs.Answers.{good, no_memory, no_path, unaccepted}
use Rattle.redplay_c.specs.Files.{AreHanded, chosen_service, have_paths, reading_number}

-- of what files were read as these lines are told, with this number
pub data Checks : Result Service Unplayable → List ℕ → ℕ → Type 0 where
  check_unreadable : (e : Unplayable) (n : ℕ) → reading_number e ≡ Some n → 0 < n → n < 100 → Checks (Err e) (complaint e) n
  check_refused : (s : Service) (r : Refusal) → Names s [] r → Checks (Ok s) (refusal_lines r) unaccepted
  check_accepted : (a : Verified) → IsVerified a → Checks (Ok a.service) (accepted_lines a.bounds) good

-- as much of a text stands in the room as there is place for, and its whole length is told
abbrev pub IsPut : List ℕ → List ℕ → List ℕ → ℕ → Type 0
IsPut text before after count = (count ≡ length text) × (after ≡ take (length before) text ++ drop (length text) before)

-- nothing was written
abbrev pub IsUnput : List ℕ → List ℕ → ℕ → ℕ → Type 0
IsUnput before after old new = (after ≡ before) × (new ≡ old)

-- these are the lines on the files that were handed in, with their number
pub record AreChecked (sources : List Source) (start late text : List ℕ) (n : ℕ) : Type 0 where
  pub paths : have_paths sources ≡ true
  pub files : List File
  pub same : AreHanded sources files
  pub meant : Checks (chosen_service start late files) text n

-- and they stand in the room
pub record IsChecked (sources : List Source) (start late before after : List ℕ) (count n : ℕ) : Type 0 where
  pub text : List ℕ
  pub checked : AreChecked sources start late text n
  pub put : IsPut text before after count

-- there are none, since memory was refused, or a name is no path
abbrev pub IsUnchecked : List Source → ℕ → Type 0
IsUnchecked sources n = (n ≡ no_memory) ⊎ ((n ≡ no_path) × (have_paths sources ≡ false))
