-- The kinds of the values that a program takes, and of those that it answers.
use Rattle.std.specs.Prelude.{List, [], ◌∷◌, map}
use Rattle.mh_base.specs.declared.value.Kind.{Kind}
use Rattle.mh_base.specs.declared.value.Value.{Value}
use Rattle.mh_model.specs.declared.program.Builtin.{Builtin}
use Rattle.mh_model.specs.declared.program.Param.{Param}
use Rattle.mh_model.specs.declared.program.Param.TheVariants as param
use Rattle.mh_model.specs.declared.program.Signature.{Signature}
use Rattle.mh_model.specs.Programs.{kind_in, word, params_of}
use Rattle.mh_model.specs.Variables.{kind_of}

abbrev pub kinds_of : List Value → List Kind
kinds_of vs = map kind_of vs

abbrev pub taken : List Param → List Kind
taken [] = []
taken (param.In p ∷ ps) = kind_in p ∷ taken ps
taken (param.Out p ∷ ps) = taken ps

abbrev pub answered : List Param → List Kind
answered [] = []
answered (param.In p ∷ ps) = answered ps
answered (param.Out p ∷ ps) = kind_in p ∷ answered ps

-- the name of a built-in program, and its parameters
abbrev pub signature_in : Builtin → Signature
signature_in b = record { name = word b; params = params_of b }
