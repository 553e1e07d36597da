-- The programs of the receiver that the tests have.
use Rattle.std.specs.Prelude.{◌≡◌, ℕ, List, [], ◌∷◌, ℤ, ◌+ℤ◌, FitsSigned}
use Rattle.std.specs.Int.{w32}
use Rattle.mh_base.specs.declared.value.Value.{Value}
use Rattle.mh_base.specs.declared.value.Value.TheVariants as value
use Rattle.mh_model.specs.declared.program.Outcome.{Outcome}
use Rattle.mh_model.specs.declared.program.Outcome.TheVariants as outcome
use Rattle.mh_model.specs.declared.program.Param.TheVariants as param
use Rattle.mh_model.specs.declared.program.Plain.TheVariants as plain
use Rattle.mh_model.specs.declared.program.Signature.{Signature}

-- a number in, and a number out
abbrev pub numbers : List ℕ → Signature
numbers name = record { name = name; params = param.In plain.Int ∷ param.Out plain.Int ∷ [] }

-- the double alone where it is a number of 32 bits, and a failure only where it is not
abbrev pub IsDouble : ℤ → Outcome → Type 0
IsDouble n (outcome.Answered vs) = FitsSigned w32 (n +ℤ n) × (vs ≡ value.Int (n +ℤ n) ∷ [])
IsDouble n outcome.Failed = FitsSigned w32 (n +ℤ n) → ⊥

abbrev pub MayDouble : List Value → Outcome → Type 0
MayDouble (value.Int n ∷ []) o = IsDouble n o
MayDouble vs o = o ≡ outcome.Failed
