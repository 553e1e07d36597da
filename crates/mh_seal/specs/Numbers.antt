-- The numbers of refusals.
use Rattle.std.specs.Prelude.{ℕ, Option, Some, None}
use Rattle.mh_seal.specs.declared.seal_error.SealError.{SealError}
use Rattle.mh_seal.specs.declared.seal_error.SealError.TheVariants as error

abbrev pub error_number : SealError → Option ℕ
error_number (error.Line n) = Some 70
error_number error.Version = Some 71
error_number error.NoMemory = None
