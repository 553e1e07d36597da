-- What is refused in a text, and what the readers' errors tell of it.
use Rattle.std.specs.Prelude.{Option, Some, None, Result}
use Rattle.mh_base.specs.Reading as base
use Rattle.mh_text.specs.declared.text_error.Why.{Why}
use Rattle.mh_text.specs.declared.text_error.TextError.{TextError}
use Rattle.mh_text.specs.declared.text_error.TextError.TheVariants.{At, NoMemory}

-- why a text is refused, and where
abbrev pub Refusal : Type 0
Refusal = base.Refusal Why

-- what an error tells of the reading: nothing, where memory ran out
abbrev pub told : TextError → Option Refusal
told NoMemory = None
told (At why offset) = Some (record { why = why; offset = offset })

-- the error is the refusal of the reading, unless memory ran out
abbrev pub Fails : {Y : Type 0} → TextError → Result Y Refusal → Type 0
Fails e read = base.Fails (told e) read

-- what a function returned, seen by view, is what the reading gives, unless memory ran out
abbrev pub Gives : {X Y : Type 0} → (X → Y) → Result X TextError → Result Y Refusal → Type 0
Gives view result read = base.Gives told view result read
