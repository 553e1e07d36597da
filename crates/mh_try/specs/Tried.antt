-- What is told of scripts that are played on a service, as functions of the files, the scripts and what is chosen.
use Rattle.std.specs.Prelude.{ℕ, Bool, List, [], ◌∷◌, ◌++◌, Option, Some, None, Result, Ok, Err}
use Rattle.std.specs.Option.{option_map}
use Rattle.mh_base.specs.declared.obj_ref.ObjRef.{ObjRef}
use Rattle.mh_codec.specs.Tags.{Tags}
use Rattle.mh_model.specs.declared.file.File.{File as Content}
use Rattle.mh_model.specs.Service.{Service}
use Rattle.mh_model.specs.State.{begun}
use Rattle.mh_script.specs.declared.script.Command.{Command}
use Rattle.mh_script.specs.Contents.{contents}
use Rattle.mh_script.specs.Script.{commands, first_wrong, lines}
use Rattle.mh_service.specs.Refusals.{File}
use Rattle.mh_told.specs.declared.unplayable.Unplayable.{Unplayable}
use Rattle.mh_told.specs.declared.unplayable.Unplayable.TheVariants as unplayable
use Rattle.mh_told.specs.Reading.{◌>>=◌, Source, service_read, table_of}
use Rattle.mh_trace.specs.Cover.{Covering, cover_text, covered_by, uncovered}
use Rattle.mh_trace.specs.Form.{telling_nothing}
use Rattle.mh_trace.specs.declared.form.Telling.{Telling}
use Rattle.mh_trace.specs.Directory.{Directory}
use Rattle.mh_trace.specs.Trace.{Tracing, preset_all, presets_text, trace_text, traced_all, untraced}
use Rattle.mh_try.specs.Directory.{directory_of}
use Rattle.mh_try.specs.Naming.{narrowed}
use Rattle.mh_try.specs.declared.tried.Chosen.{Chosen}

abbrev pub late_of : Chosen → Option (List ℕ)
late_of c = option_map (λ bytes. bytes.items) c.late

abbrev pub tags_of : Chosen → Option (List ℕ)
tags_of c = option_map (λ bytes. bytes.items) c.tags

-- the service of the files with these tags, with the start and the late scenes that are chosen
abbrev pub service_with : Chosen → List Source → Tags → Result Service Unplayable
service_with c files tags = service_read tags c.start.items (late_of c) files

abbrev pub unless_wrong : {A : Type 0} → Option ℕ → A → Result A Unplayable
unless_wrong None x = Ok x
unless_wrong (Some line) x = Err (unplayable.Script line)

-- the commands of a script that is played on a service with these files
unfoldable pub commands_of : Tags → List File → List ℕ → Result (List Command) Unplayable
commands_of tags files script = unless_wrong (first_wrong tags files 1 (lines script)) (commands tags files (lines script))

-- what a play begins with: the service, with the built-in programs alone, on a day
abbrev pub beginning : Directory → Service → ℕ → Tracing
beginning ws v mjd = untraced ws (begun (record v { programs = [] }) mjd)

-- what is told of the content files and the commands, and what was traced then
abbrev pub told : Telling → List Content → List Command → Tracing → List ℕ × Tracing
told t fs cs p = (presets_text t fs p ++ trace_text t cs (preset_all fs p), traced_all cs (preset_all fs p))

-- a play with these tags, and what is told of it; or the first thing that cannot be read
unfoldable pub played_as : Telling → Chosen → List Source → List ℕ → Tags → Result (List ℕ × Tracing) Unplayable
played_as t c files script tags = do
  service ← service_with c files tags
  found ← commands_of tags service.files script
  Ok (told t (contents tags service files) found (beginning (directory_of files) service c.mjd))

-- one of which no step is told
abbrev pub played_with : Chosen → List Source → List ℕ → Tags → Result (List ℕ × Tracing) Unplayable
played_with c files script tags = played_as telling_nothing c files script tags

-- what is told of it
unfoldable pub told_with : Telling → Chosen → List Source → List ℕ → Tags → Result (List ℕ) Unplayable
told_with t c files script tags = do
  found ← played_as t c files script tags
  Ok found.0

-- THE TRACE OF A SCRIPT, or its lines that name an object; or the first thing that cannot be read, of which the file of tags
-- is the first
unfoldable pub trace_read : Telling → Chosen → Option ObjRef → List Source → List ℕ → Result (List ℕ) Unplayable
trace_read t c only files script = do
  tags ← table_of (tags_of c)
  text ← told_with t c files script tags
  Ok (narrowed t.form only text)

-- what a script more has done and entered
unfoldable pub cover_one : Chosen → List Source → Tags → List ℕ → Covering → Result Covering Unplayable
cover_one c files tags script x = do
  found ← played_with c files script tags
  Ok (covered_by found.1 x)

abbrev pub cover_all : Chosen → List Source → Tags → List (List ℕ) → Covering → Result Covering Unplayable
cover_all c files tags [] x = Ok x
cover_all c files tags (s ∷ ss) x = cover_one c files tags s x >>= (λ (y : Covering). cover_all c files tags ss y)

-- THE COVERAGE BY SCRIPTS; or the first thing that cannot be read
unfoldable pub cover_read : Bool → Chosen → List Source → List (List ℕ) → Result (List ℕ) Unplayable
cover_read tap c files scripts = do
  tags ← table_of (tags_of c)
  covered ← cover_all c files tags scripts uncovered
  service ← service_with c files tags
  Ok (cover_text tap (directory_of files) covered service)
