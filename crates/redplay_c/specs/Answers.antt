-- What a call answers: 0, the number under which a refusal is told everywhere, or a number of the library's own.
use Rattle.std.specs.Prelude.{◌≡◌, ℕ, ◌<◌, unwrap_or}
use Rattle.mh_base.specs.declared.name_error.NameError.{NameError}
use Rattle.mh_base.specs.declared.name_error.NameError.TheVariants as unnamed
use Rattle.mh_machine.specs.Refusal.{refusal_number}
use Rattle.mh_machine.specs.declared.refusal.RefusedWhy.{RefusedWhy}
use Rattle.mh_model.specs.declared.rest.Rest.{Rest}
use Rattle.mh_model.specs.declared.rest.Rest.TheVariants as rest
use Rattle.redplay_c.specs.declared.start_refusal.StartRefusal.{StartRefusal}
use Rattle.redplay_c.specs.declared.start_refusal.StartRefusal.TheVariants as unstarted

abbrev pub good : ℕ
good = 0

abbrev pub no_memory : ℕ
no_memory = 100

abbrev pub no_session : ℕ
no_session = 101

abbrev pub unaccepted : ℕ
unaccepted = 102

abbrev pub no_key : ℕ
no_key = 104

abbrev pub no_path : ℕ
no_path = 105

abbrev pub in_use : ℕ
in_use = 106

abbrev pub out_of_range : ℕ
out_of_range = 107

-- the number under which a refusal is told; the engine has none for want of memory
abbrev pub why_number : RefusedWhy → ℕ
why_number why = unwrap_or (refusal_number why) no_memory

-- the number under which it is told that a name is no path
abbrev pub name_number : NameError → ℕ
name_number unnamed.BadName = no_path
name_number unnamed.NoMemory = no_memory

-- and that there is no session
abbrev pub start_number : StartRefusal → ℕ
start_number unstarted.NoMemory = no_memory
start_number unstarted.NoDay = out_of_range
start_number unstarted.NoPath = no_path
start_number (unstarted.Unreadable number) = number
start_number unstarted.Unaccepted = unaccepted
start_number (unstarted.Unset why) = why_number why

-- why there is no session where the names of files are not all paths
abbrev pub of_name : NameError → StartRefusal
of_name unnamed.BadName = unstarted.NoPath
of_name unnamed.NoMemory = unstarted.NoMemory

-- what is left to do
abbrev pub rest_number : Rest → ℕ
rest_number rest.More = 0
rest_number rest.Idle = 1
rest_number rest.Ended = 2

-- 0 is answered, and the one holds; or memory was refused, and the other does
abbrev pub IsDone : ℕ → Type 0 → Type 0 → Type 0
IsDone n P Q = (n ≡ good → P) × (0 < n → (n ≡ no_memory) × Q)
