-- What is told of the state behind some steps of a script, as a function of the files, the script and what is chosen.
use Rattle.std.specs.Prelude.{ℕ, List, [], Result, Ok}
use Rattle.mh_codec.specs.Tags.{Tags}
use Rattle.mh_model.specs.declared.file.File.{File as Content}
use Rattle.mh_model.specs.State.{State, all}
use Rattle.mh_script.specs.declared.script.Command.{Command}
use Rattle.mh_script.specs.Contents.{contents}
use Rattle.mh_state.specs.Cell.{cell_text}
use Rattle.mh_state.specs.Object.{object_text}
use Rattle.mh_state.specs.State.{state_text}
use Rattle.mh_told.specs.declared.unplayable.Unplayable.{Unplayable}
use Rattle.mh_told.specs.Reading.{◌>>=◌, Source, table_of}
use Rattle.mh_trace.specs.Run.{all_until}
use Rattle.mh_trace.specs.Trace.{Tracing, preset_all}
use Rattle.mh_try.specs.Tried.{beginning, commands_of, service_with, tags_of}
use Rattle.mh_try.specs.declared.standing.Part.{Part}
use Rattle.mh_try.specs.declared.standing.Part.TheVariants as part
use Rattle.mh_try.specs.declared.tried.Chosen.{Chosen}

abbrev pub told_of : Part → State → List ℕ
told_of part.All s = state_text s
told_of (part.Object r) s = object_text (all s.objects) r
told_of (part.Cell c) s = cell_text s c

-- behind so many steps of these commands, with these content files there
abbrev pub told_behind : ℕ → Part → List Content → List Command → Tracing → List ℕ
told_behind n q fs cs p = told_of q (all_until n cs (preset_all fs p)).state

unfoldable pub state_with : ℕ → Part → Chosen → List Source → List ℕ → Tags → Result (List ℕ) Unplayable
state_with n q c files script tags = do
  service ← service_with c files tags
  found ← commands_of tags service.files script
  Ok (told_behind n q (contents tags service files) found (beginning [] service c.mjd))

-- THE STATE BEHIND SO MANY STEPS OF A SCRIPT; or the first thing that cannot be read
unfoldable pub state_read : ℕ → Part → Chosen → List Source → List ℕ → Result (List ℕ) Unplayable
state_read n q c files script = do
  tags ← table_of (tags_of c)
  text ← state_with n q c files script tags
  Ok text
