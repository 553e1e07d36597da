-- What is read of files beside a seal: the groups that are here from the start, and the content files.
use Rattle.std.specs.Prelude.{ℕ, Bool, ◌&&◌, not, List, [], filter, map, Result}
use Rattle.std.specs.List.{list_any}
use Rattle.std.specs.Str.{bytes_eq}
use Rattle.mh_codec.specs.Tags.{Tags}
use Rattle.mh_model.specs.declared.file.File.{File as Content}
use Rattle.mh_service.specs.Refusals.{File}
use Rattle.mh_seal.specs.declared.seal.Seal.{Seal}
use Rattle.mh_told.specs.declared.unplayable.Unplayable.{Unplayable}
use Rattle.mh_told.specs.Reading.{Source, is_group_file, read_files}

-- the file is that of a group which is here from the start
abbrev pub is_here : Seal → Source → Bool
is_here s f = list_any (λ g. not g.is_late && bytes_eq g.name f.0) s.groups

-- the groups that are here; other files are not looked at
abbrev pub groups_here : Seal → Tags → List Source → Result (List File) Unplayable
groups_here s tags files = read_files tags [] (filter (is_here s) files)

-- the content files that are there, as the seal names them

abbrev pub is_content : Seal → Tags → Source → Bool
is_content s tags f = not (is_group_file tags f.1.items) && list_any (bytes_eq f.0) s.contents

abbrev pub content_of : Source → Content
content_of f = record { name = f.0; content = f.1.items }

abbrev pub contents_by : Seal → Tags → List Source → List Content
contents_by s tags files = map content_of (filter (is_content s tags) files)
