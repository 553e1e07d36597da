-- Where actions are written, as it is told behind their places: a table from places to texts.
use Rattle.std.specs.Prelude.{ℕ, List, [], ◌++◌, codes, Option, Some, None}
use Rattle.std.specs.Map.{lookup}
use Rattle.indexmap.specs.IndexMap.{insert_entry}
use Rattle.mh_trace.specs.declared.site.Site.{Site}
use Rattle.mh_trace.specs.Json.{more_text}
use Rattle.mh_trace.specs.Sites.{same_site}

abbrev pub Directory : Type 0
Directory = List (Site × List ℕ)

-- with one entry more
abbrev pub with_entry : Site → List ℕ → Directory → Directory
with_entry x text ws = insert_entry same_site ws x text

abbrev pub written_note : Option (List ℕ) → List ℕ
written_note None = []
written_note (Some text) = codes " at " ++ text

abbrev pub written_json : Option (List ℕ) → List ℕ
written_json None = []
written_json (Some text) = more_text (codes "at") text

-- where an action is written, if the directory has it
unfoldable pub written_at : Directory → Site → List ℕ
written_at ws x = written_note (lookup (same_site x) ws)
