-- What a contract sees of a session, what it begins with, and what commands make of it.
use Rattle.std.specs.Prelude.{◌≡◌, ℕ, ◌<◌, ◌⊎◌, Bool, true, List, [], ◌∷◌, ◌++◌, length, Option, Some, None, Result, Ok, Err}
use Rattle.mh_codec.specs.Tags.{Tags, profile}
use Rattle.mh_crossing.specs.Answers.{good, no_memory, no_path, no_script, out_of_range}
use Rattle.mh_crossing.specs.Files.{AreHanded, File, have_paths}
use Rattle.mh_crossing.specs.declared.source.Source.{Source}
use Rattle.mh_machine.specs.Rest.{rest_of}
use Rattle.mh_model.specs.State.{State}
use Rattle.mh_model.specs.declared.file.File.{File as Content}
use Rattle.mh_model.specs.declared.rest.Rest.{Rest}
use Rattle.mh_model.specs.declared.rest.Rest.TheVariants as rest
use Rattle.mh_script.specs.Contents.{contents}
use Rattle.mh_script.specs.declared.script.Command.{Command}
use Rattle.mh_told.specs.declared.unplayable.Unplayable.{Unplayable}
use Rattle.mh_told.specs.Reading.{◌>>=◌}
use Rattle.mh_trace.specs.Trace.{Tracing, command_text, preset_all, presets_text, traced, traced_all}
use Rattle.mh_trace.specs.declared.form.Telling.{Telling}
use Rattle.mh_try.specs.Directory.{directory_of}
use Rattle.mh_try.specs.Tried.{beginning, commands_of, service_with}
use Rattle.mh_try.specs.declared.tried.Chosen.{Chosen}
use Rattle.redplay_page.specs.Chosen.{IsChosen}
use Rattle.redplay_page.specs.Tried.{telling_all}
use Rattle.redplay_page.specs.declared.opening.Unopened.{Unopened}
use Rattle.redplay_page.specs.declared.opening.Unopened.TheVariants as unopened
use Rattle.redplay_page.specs.declared.session.Counts.{Counts}

-- what is traced, how it is told, and the lines since they were fetched
pub record Playing : Type 0 where
  pub tracing : Tracing
  pub telling : Telling
  pub told : List ℕ

abbrev pub rest_number : Rest → ℕ
rest_number rest.More = 0
rest_number rest.Idle = 1
rest_number rest.Ended = 2

abbrev pub counts_of : State → Counts
counts_of s = record { taken = s.taken; faults = length s.faults; rest = rest_number (rest_of s) }

-- HOW A SESSION BEGINS

-- with these content files there, and a line for each that is refused
abbrev pub preset_session : Telling → List Content → Tracing → Playing
preset_session t fs p = record { tracing = preset_all fs p; telling = t; told = presets_text t fs p }

unfoldable pub opened_with : Telling → Chosen → List File → Tags → Result Playing Unplayable
opened_with t c files tags = do
  service ← service_with c files tags
  Ok (preset_session t (contents tags service files) (beginning (directory_of files) service c.mjd))

-- of files that were handed in
pub record IsOpened (sources : List Source) (start late : List ℕ) (day : ℕ) (objects : Bool) (s : Playing) : Type 0 where
  pub paths : have_paths sources ≡ true
  pub files : List File
  pub same : AreHanded sources files
  pub chosen : Chosen
  pub is : IsChosen start late day chosen
  pub opened : opened_with (telling_all objects) chosen files profile ≡ Ok s

abbrev pub HasOpened : List Source → List ℕ → List ℕ → ℕ → Bool → Option Playing → Type 0
HasOpened sources start late day objects None = ⊥
HasOpened sources start late day objects (Some s) = IsOpened sources start late day objects s

-- the last modified Julian day on which a play may begin
abbrev pub last_day : ℕ
last_day = 1000000

-- the number under which it is told that there is none
abbrev pub unopened_number : Unopened → ℕ
unopened_number unopened.NoMemory = no_memory
unopened_number unopened.NoDay = out_of_range
unopened_number unopened.NoPath = no_path
unopened_number unopened.Unread = 2

-- COMMANDS

-- what is told of them, in order
abbrev pub commands_text : Telling → List Command → Tracing → List ℕ
commands_text t [] p = []
commands_text t (c ∷ cs) p = command_text t c p ++ commands_text t cs (traced c p)

-- the session behind them
abbrev pub obeyed : List Command → Playing → Playing
obeyed cs s = record s { tracing = traced_all cs s.tracing; told = s.told ++ commands_text s.telling cs s.tracing }

-- a script that is done from here: its commands, unless memory was refused; or a line of it says none, and nothing is done
abbrev pub ObeysBy : Result (List Command) Unplayable → Playing → Playing → ℕ → Type 0
ObeysBy (Ok cs) s t n = (n ≡ good → t ≡ obeyed cs s) × (0 < n → n ≡ no_memory)
ObeysBy (Err why) s t n = ((n ≡ no_script) ⊎ (n ≡ no_memory)) × (t ≡ s)

abbrev pub IsObeyed : List ℕ → Playing → Playing → ℕ → Type 0
IsObeyed script s t n = ObeysBy (commands_of profile s.tracing.state.service.files script) s t n
