-- What a program has said of a call.
use Rattle.std.specs.Prelude.{◌≡◌, Option, Some, None}
use Rattle.mh_model.specs.declared.program.Call.{Call}
use Rattle.mh_model.specs.declared.program.Outcome.{Outcome}

-- where there is a call, something that may come of it, and else nothing
abbrev pub IsTold : (Call → Outcome → Type 0) → Option Call → Option Outcome → Type 0
IsTold may None said = said ≡ None
IsTold may (Some c) said = (o : Outcome) × may c o × (said ≡ Some o)
