-- What may be wrong with the first items of the next steps.
use Rattle.std.specs.Prelude.{ℕ, zero, suc, Option}
use Rattle.mh_model.specs.declared.fault.Fault.{Fault}
use Rattle.mh_model.specs.Stuck.{front_fault}
use Rattle.mh_model.specs.State.{State}
use Rattle.mh_model.specs.Step.{stepped}

-- so it is before each of so many steps
unfoldable pub AreAllowed : (Option Fault → Type 0) → ℕ → State → Type 0
AreAllowed allows zero s = Unit {0}
AreAllowed allows (suc n) s = allows (front_fault s) × AreAllowed allows n (stepped s)
