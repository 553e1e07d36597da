-- Where a script leads: the run of the machine, and what is to hold where it ends.
use Rattle.std.specs.Prelude.{◌≡◌, ℕ, Bool, true, List, [], ◌∷◌, Result, Ok}
use Rattle.mh_codec.specs.Tags.{Tags}
use Rattle.mh_find.specs.declared.goal.Goal.{Goal}
use Rattle.mh_find.specs.Goal.{is_led}
use Rattle.mh_model.specs.declared.file.File.{File as Content}
use Rattle.mh_model.specs.State.{State, begun}
use Rattle.mh_model.specs.Service.{Service}
use Rattle.mh_model.specs.Step.{preset_obstacle}
use Rattle.mh_script.specs.declared.script.Command.{Command}
use Rattle.mh_script.specs.Contents.{contents}
use Rattle.mh_told.specs.declared.unplayable.Unplayable.{Unplayable}
use Rattle.mh_told.specs.Reading.{◌>>=◌, Source, table_of}
use Rattle.mh_trace.specs.Run.{commanded_all}
use Rattle.mh_trace.specs.Trace.{preset_unless}
use Rattle.mh_try.specs.declared.tried.Chosen.{Chosen}
use Rattle.mh_try.specs.Tried.{commands_of, service_with, tags_of}

-- content files are there before the first command, unless something is in the way
abbrev pub preset_one : Content → State → State
preset_one f s = preset_unless (preset_obstacle f s) f s

abbrev pub preset_all : List Content → State → State
preset_all [] s = s
preset_all (f ∷ fs) s = preset_all fs (preset_one f s)

-- a machine with the built-in programs alone, that begins on a day
abbrev pub beginning : Service → ℕ → State
beginning v mjd = begun (record v { programs = [] }) mjd

-- where the content files and the commands lead
abbrev pub run_of : List Content → List Command → State → State
run_of fs cs s = commanded_all cs (preset_all fs s)

-- where a script leads that is played with these tags; or the first thing that cannot be read
unfoldable pub run_with : Chosen → List Source → List ℕ → Tags → Result State Unplayable
run_with c files script tags = do
  service ← service_with c files tags
  found ← commands_of tags service.files script
  Ok (run_of (contents tags service files) found (beginning service c.mjd))

unfoldable pub leads : Goal → Chosen → List Source → List ℕ → Tags → Result Bool Unplayable
leads goal c files script tags = do
  end ← run_with c files script tags
  Ok (is_led goal end)

-- THE SCRIPT LEADS THE SERVICE TO THE GOAL
abbrev pub LeadsTo : Goal → Chosen → List Source → List ℕ → Type 0
LeadsTo goal c files script = (table_of (tags_of c) >>= leads goal c files script) ≡ Ok true
