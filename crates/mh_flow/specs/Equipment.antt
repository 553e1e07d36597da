-- A service with the programs that the receiver has for it.
use Rattle.std.specs.Prelude.{List}
use Rattle.mh_model.specs.declared.program.Signature.{Signature}
use Rattle.mh_model.specs.Service.{Service}

abbrev pub equipped : Service → List Signature → Service
equipped s programs = record s { programs = programs }
