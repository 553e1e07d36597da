-- What may come of a call of the program that is found.
use Rattle.std.specs.Prelude.{◌≡◌, List, Option, Some, Result, IfOk}
use Rattle.std.proofs.Common.{subst}
use Rattle.mh_base.specs.declared.value.Value.{Value}
use Rattle.mh_model.specs.declared.program.Call.{Call}
use Rattle.mh_model.specs.declared.program.Now.{Now}
use Rattle.mh_model.specs.declared.program.Outcome.{Outcome}
use Rattle.mh_resident.specs.Coming.{MayComeOf}

pub comes_of : {P E : Type 0} (may : P → Now → List Value → Outcome → Type 0) (p : P) (found : Option P) (c : Call) (r : Result Outcome E) → Some p ≡ found
    → IfOk r (λ o. may p c.time c.values o) → IfOk r (λ o. MayComeOf may found c o)
comes_of {P} {E} may p found c r is so = subst (λ (x : Option P). IfOk r (λ o. MayComeOf may x c o)) is so
