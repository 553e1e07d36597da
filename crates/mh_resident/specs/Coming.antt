-- What may come of a call of a program that a receiver adds.
use Rattle.std.specs.Prelude.{◌≡◌, List, Option, Some, None}
use Rattle.std.specs.List.{find}
use Rattle.std.specs.Str.{bytes_eq}
use Rattle.mh_base.specs.declared.value.Value.{Value}
use Rattle.mh_model.specs.declared.program.Call.{Call}
use Rattle.mh_model.specs.declared.program.Now.{Now}
use Rattle.mh_model.specs.declared.program.Outcome.{Outcome}
use Rattle.mh_model.specs.declared.program.Outcome.TheVariants as outcome
use Rattle.mh_model.specs.declared.program.Signature.{Signature}

abbrev pub MayComeOf : {P : Type 0} → (P → Now → List Value → Outcome → Type 0) → Option P → Call → Outcome → Type 0
MayComeOf may None c o = o ≡ outcome.Failed
MayComeOf may (Some p) c o = may p c.time c.values o

-- the first program of the name may answer so; where there is none, the call fails
abbrev pub MayCome : {P : Type 0} → (P → Signature) → (P → Now → List Value → Outcome → Type 0) → List P → Call → Outcome → Type 0
MayCome signature may ps c o = MayComeOf may (find (λ p. bytes_eq c.name (signature p).name) ps) c o
