-- How steps are told, and which.
use Rattle.std.specs.Prelude.{ℕ, ◌-◌, ◌==◌, Bool, ◌&&◌, ◌||◌, nat_le}
use Rattle.mh_trace.specs.declared.form.Form.TheVariants as form
use Rattle.mh_trace.specs.declared.form.Telling.{Telling}

abbrev pub telling_nothing : Telling
telling_nothing = record { form = form.Text; from = 1; until = 0 }

-- the step with this number is told
abbrev pub tells : Telling → ℕ → Bool
tells t n = nat_le t.from n && nat_le n t.until

-- so is what is done behind so many steps: behind one that is told, or before the first
abbrev pub tells_behind : Telling → ℕ → Bool
tells_behind t n = tells t n || (t.from - 1) == n
