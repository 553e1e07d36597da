-- What a sink has taken, and how its failures are counted.
use Rattle.std.specs.Prelude.{◌≡◌, ℕ, ◌+◌, ◌==◌, if◌then◌else◌, List, ◌++◌, Option, unwrap_or}
use Rattle.std.specs.Io.KnownBytes.{Appends}

-- how many bytes a write took
abbrev pub taken_of : Option ℕ → ℕ
taken_of answer = unwrap_or answer 0

-- a write that took nothing has failed
abbrev pub failures_after : Option ℕ → ℕ → ℕ
failures_after answer n = if taken_of answer == 0 then n + 1 else n

-- a beginning of these bytes was taken, and no more
pub record IsBeginning (before after : Option (List ℕ)) (bytes : List ℕ) : Type 0 where
  pub front : List ℕ
  pub back : List ℕ
  pub parts : front ++ back ≡ bytes
  pub taken : Appends before after front
