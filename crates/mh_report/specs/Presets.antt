-- The content files that are put there before the first move, one after the other, and what a play begins with.
use Rattle.std.specs.Prelude.{ℕ, List, [], ◌∷◌, Option, Some, None, Result, Ok, Err}
use Rattle.mh_model.specs.declared.file.File.{File}
use Rattle.mh_model.specs.declared.input.Obstacle.{Obstacle}
use Rattle.mh_model.specs.Service.{Service}
use Rattle.mh_model.specs.State.{State, begun}
use Rattle.mh_model.specs.Step.{preset, preset_obstacle}
use Rattle.mh_machine.specs.Refusal.{refusal_for, refusal_number}
use Rattle.mh_machine.specs.declared.refusal.RefusedWhy.{RefusedWhy}
use Rattle.mh_seal.specs.declared.seal.Seal.{Seal}
use Rattle.mh_told.specs.declared.unplayable.Unplayable.{Unplayable}
use Rattle.mh_told.specs.declared.unplayable.Unplayable.TheVariants as unplayable
use Rattle.mh_told.specs.Reading.{◌>>=◌}
use Rattle.mh_report.specs.Report.{Session, opening}

-- what is said of a file that is refused, by the number of why; want of memory has none

abbrev pub unset_by : Option ℕ → File → Unplayable
unset_by (Some number) f = unplayable.File f.name number 0
unset_by None f = unplayable.NoMemory

abbrev pub unset : RefusedWhy → File → Unplayable
unset why f = unset_by (refusal_number why) f

abbrev pub tried_by : Option Obstacle → File → State → Result State Unplayable
tried_by None f s = Ok (preset f s)
tried_by (Some o) f s = Err (unset (refusal_for o) f)

-- the state with the file there, or that it is refused
abbrev pub tried : File → State → Result State Unplayable
tried f s = tried_by (preset_obstacle f s) f s

-- the state with all of the files there, or the first of them that is refused
abbrev pub presets : List File → State → Result State Unplayable
presets [] s = Ok s
presets (f ∷ fs) s = tried f s >>= (λ (t : State). presets fs t)

-- the session of an engine that goes by this seal, or by none, and that begins in a state, if there is one
abbrev pub begins : Option Seal → Result State Unplayable → Result Session Unplayable
begins k (Ok s) = Ok (opening k s)
begins k (Err e) = Err e

-- what a play begins with: the service has begun on this day, and then the files were put there
unfoldable pub opened : Service → ℕ → List File → Result Session Unplayable
opened service mjd files = begins None (presets files (begun service mjd))
