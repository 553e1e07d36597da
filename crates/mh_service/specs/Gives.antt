-- What resolving gives.
use Rattle.std.specs.Prelude.{◌≡◌, Bool, true, false, Result, Ok, Err}
use Rattle.mh_base.specs.declared.name_error.NameError.{NameError}
use Rattle.mh_base.specs.declared.name_error.NameError.TheVariants as error

-- this value, where each name leads to a path; where one does not, `BadName`; memory may be refused
abbrev pub Gives : {X Y : Type 0} → (X → Y) → Result X NameError → Y → Bool → Type 0
Gives view (Ok x) y leads = (view x ≡ y) × (leads ≡ true)
Gives view (Err e) y leads = e ≡ error.BadName → leads ≡ false
