-- What the carousel refuses, want of memory aside.
use Rattle.std.specs.Prelude.{ℕ, List, Option, Some, None, if◌then◌else◌}
use Rattle.mh_model.specs.declared.file.File.{File}
use Rattle.mh_model.specs.Files.{is_too_large, is_too_many}
use Rattle.mh_carousel.specs.declared.refusal.ArrivalError.{ArrivalError}
use Rattle.mh_carousel.specs.declared.refusal.ArrivalError.TheVariants as refused

-- why a file does not come to these, if it does not: the first of these
abbrev pub arrival_refusal : File → List File → Option ArrivalError
arrival_refusal f fs =
    if is_too_large f then Some refused.TooLarge
    else (if is_too_many f fs then Some refused.TooMany else None)

-- Numbers of refusals. Want of memory has none.
abbrev pub arrival_number : ArrivalError → Option ℕ
arrival_number refused.NoMemory = None
arrival_number refused.TooLarge = Some 40
arrival_number refused.TooMany = Some 41
