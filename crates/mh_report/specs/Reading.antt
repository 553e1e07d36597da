-- What files and a script are read as: a service, content files and commands, or the first of them that cannot be
-- read.
use Rattle.std.specs.Prelude.{ℕ, Bool, ◌&&◌, not, if◌then◌else◌, List, Option, Some, None, Result, Ok, Err, option_map}
use Rattle.std.specs.List.{filter_map}
use Rattle.mh_model.specs.declared.file.File.{File as Content}
use Rattle.mh_model.specs.Service.{Service}
use Rattle.mh_service.specs.Contents.{names_file}
use Rattle.mh_service.specs.Refusals.{File}
use Rattle.mh_told.specs.declared.unplayable.Unplayable.{Unplayable}
use Rattle.mh_told.specs.declared.unplayable.Unplayable.TheVariants as unplayable
use Rattle.mh_codec.specs.Tags.{Tags}
use Rattle.mh_told.specs.Reading.{◌>>=◌, Source, is_group_file, service_read, service_tagged, table_of}
use Rattle.mh_report.specs.declared.material.Material.{Material}
use Rattle.mh_report.specs.declared.options.Options.{Options}
use Rattle.mh_script.specs.declared.script.Command.{Command}
use Rattle.mh_script.specs.Contents.{contents}
use Rattle.mh_script.specs.Script.{lines, first_wrong, commands}

abbrev pub unless_wrong : {A : Type 0} → Option ℕ → A → Result A Unplayable
unless_wrong None x = Ok x
unless_wrong (Some line) x = Err (unplayable.Script line)

-- the commands of a script that is played on a service with these files
unfoldable pub commands_of : Tags → List File → List ℕ → Result (List Command) Unplayable
commands_of tags files script = unless_wrong (first_wrong tags files 1 (lines script)) (commands tags files (lines script))

-- the bytes of the file that names late scenes, if there is one
abbrev pub late_of : Options → Option (List ℕ)
late_of options = option_map (λ bytes. bytes.items) options.late

-- the bytes of the file that gives tags, if there is one
abbrev pub tags_of : Options → Option (List ℕ)
tags_of options = option_map (λ bytes. bytes.items) options.tags

-- the service of the files with these tags, with the start and the late scenes that are chosen
abbrev pub service_with : Options → List Source → Tags → Result Service Unplayable
service_with options files tags = service_read tags options.start.items (late_of options) files

-- the service that is chosen; or the first thing that cannot be read, of which the file of tags is the first
abbrev pub chosen_service : Options → List Source → Result Service Unplayable
chosen_service options files = service_tagged (tags_of options) options.start.items (late_of options) files

-- what is to be played with these tags: a service, the content files that it names, and commands
unfoldable pub readied_with : Options → List Source → List ℕ → Tags → Result Material Unplayable
readied_with options files script tags = do
  service ← service_with options files tags
  found ← commands_of tags service.files script
  Ok (record { service = service; files = contents tags service files; commands = found })

-- what is to be played; or the first thing that cannot be read, of which the file of tags is the first
unfoldable pub readied : Options → List Source → List ℕ → Result Material Unplayable
readied options files script = table_of (tags_of options) >>= readied_with options files script
