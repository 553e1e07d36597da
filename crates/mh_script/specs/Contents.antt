-- The content files among the files of a service: those that are no group, and that a group of the service names.
use Rattle.std.specs.Prelude.{ℕ, Bool, ◌&&◌, not, if◌then◌else◌, List, Option, Some, None}
use Rattle.std.specs.List.{filter_map}
use Rattle.mh_model.specs.declared.file.File.{File as Content}
use Rattle.mh_model.specs.Service.{Service}
use Rattle.mh_service.specs.Contents.{names_file}
use Rattle.mh_codec.specs.Tags.{Tags}
use Rattle.mh_told.specs.Reading.{Source, is_group_file}

-- a file that is no group, and that a group of the service names
abbrev pub is_content : Tags → Service → Source → Bool
is_content tags service f = not (is_group_file tags f.1.items) && names_file service f.0

-- a file as content
abbrev pub content_of : Source → Content
content_of f = record { name = f.0; content = f.1.items }

abbrev pub content_in : Tags → Service → Source → Option Content
content_in tags service f = if is_content tags service f then Some (content_of f) else None

-- the content files that the service names, in order
abbrev pub contents : Tags → Service → List Source → List Content
contents tags service files = filter_map (content_in tags service) files
