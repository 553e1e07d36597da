-- What is refused in octets, and what the readers' errors tell of it.
use Rattle.std.specs.Prelude.{Option, Some, None, Result, Ok, Err}
use Rattle.mh_base.specs.Reading as base
use Rattle.mh_base.specs.Reading.{refused}
use Rattle.mh_der.specs.declared.der_error.DerError.{DerError}
use Rattle.mh_codec.specs.declared.codec_error.Why.{Why}
use Rattle.mh_codec.specs.declared.codec_error.Why.TheVariants.{Der}
use Rattle.mh_codec.specs.declared.codec_error.CodecError.{CodecError}
use Rattle.mh_codec.specs.declared.codec_error.CodecError.TheVariants.{At, NoMemory}

-- why octets are refused, and where
abbrev pub Refusal : Type 0
Refusal = base.Refusal Why

-- what an error tells of the reading: nothing, where memory ran out
abbrev pub told : CodecError → Option Refusal
told NoMemory = None
told (At why offset) = Some (record { why = why; offset = offset })

-- what an element's own reading says
abbrev pub der : {A : Type 0} → Result A DerError → Result A Refusal
der (Ok x) = Ok x
der (Err e) = refused (Der e.why) e.offset

-- the error is the refusal of the reading, unless memory ran out
abbrev pub Fails : {Y : Type 0} → CodecError → Result Y Refusal → Type 0
Fails e read = base.Fails (told e) read

-- what a function returned, seen by view, is what the reading gives, unless memory ran out
abbrev pub Gives : {X Y : Type 0} → (X → Y) → Result X CodecError → Result Y Refusal → Type 0
Gives view result read = base.Gives told view result read
