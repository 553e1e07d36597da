-- What a call answers: 0, or a number that says why not. Numbers below 100 are an archive's own.
use Rattle.std.specs.Prelude.{◌≡◌, ℕ, ◌<◌}
use Rattle.mh_base.specs.declared.name_error.NameError.{NameError}
use Rattle.mh_base.specs.declared.name_error.NameError.TheVariants as unnamed

abbrev pub good : ℕ
good = 0

abbrev pub no_memory : ℕ
no_memory = 100

abbrev pub no_session : ℕ
no_session = 101

abbrev pub no_path : ℕ
no_path = 105

abbrev pub in_use : ℕ
in_use = 106

abbrev pub out_of_range : ℕ
out_of_range = 107

abbrev pub no_script : ℕ
no_script = 108

-- the number under which it is told that a name is no path
abbrev pub name_number : NameError → ℕ
name_number unnamed.BadName = no_path
name_number unnamed.NoMemory = no_memory

-- 0 is answered, and the one holds; or memory was refused, and the other does
abbrev pub IsDone : ℕ → Type 0 → Type 0 → Type 0
IsDone n P Q = (n ≡ good → P) × (0 < n → (n ≡ no_memory) × Q)
