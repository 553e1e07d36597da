-- Where in the files of a folder something stands. A path is the folder, as the caller called it, and the file's path in it.
use Rattle.std.specs.Prelude.{◌≡◌, ℕ, ◌-◌, ◌==◌, Bool, false, if◌then◌else◌, List, [], ◌∷◌, ◌++◌, codes, drop, length, slice_get, Option, Some, None, option_map, option_and_then}
use Rattle.std.specs.Option.{option_map_or}
use Rattle.std.specs.Str.Lossy.{utf8_lossy}
use Rattle.mh_base.specs.declared.obj_ref.ObjRef.{ObjRef}
use Rattle.mh_cause.specs.declared.detail.Detail.{Detail}
use Rattle.mh_findings.specs.declared.finding.Site.{Site}
use Rattle.mh_places.specs.declared.span.Span.{Span}
use Rattle.mh_places.specs.Directory.{action_span, file_of, object_span}
use Rattle.mh_places.specs.Spans.{span_at}
use Rattle.mh_text.specs.Marks.{mark_of, marks}
use Rattle.mh_text.specs.declared.mark.Mark.{Mark}
use Rattle.mh_told.specs.Reading.{Source as File}
use Rattle.mh_verify.specs.declared.refusal.Place.{Place}
use Rattle.mh_why.specs.Sources.{token_size}
use Rattle.mh_why.specs.Values.{detail_in, value_size}

-- SPANS

-- the token that begins there
unfoldable pub token_span : List ℕ → ℕ → Span
token_span bs start = span_at bs start (token_size (drop start bs))

-- what is left of the text begins with the value that is meant; where nothing is left, the action is meant
abbrev pub rest_span : List ℕ → Mark → List ℕ → Span
rest_span bs m [] = span_at bs m.start m.length
rest_span bs m (b ∷ rest) = span_at bs (length bs - length (b ∷ rest)) (value_size (b ∷ rest))

unfoldable pub detail_span : Detail → List ℕ → Mark → Span
detail_span d bs m = rest_span bs m (detail_in d (drop m.start bs))

-- this part of an action, or else the action; with the index 0, of the list of members
unfoldable pub part_span : Place → Detail → List ℕ → Option Span
part_span p d bs = option_map (detail_span d bs) (mark_of (marks bs) p.object p.index)

-- these are the marks of the text
abbrev pub IsMarked : List ℕ → List Mark → Type 0
IsMarked bs ms = ms ≡ marks bs

-- the action of an object with this number, from 1 on, or with 0 the object itself
abbrev pub numbered_span : List File → ObjRef → ℕ → Option Span
numbered_span fs r index = if index == 0 then object_span fs r else action_span fs r (index - 1)

-- SITES

-- the beginning of a file
abbrev pub beginning : Span
beginning = record { start = record { byte = 0; line = 1; column = 1 }; end = record { byte = 0; line = 1; column = 1 } }

abbrev pub span_or_beginning : Option Span → Span
span_or_beginning None = beginning
span_or_beginning (Some s) = s

abbrev pub ends_in_slash : List ℕ → Bool
ends_in_slash bs = option_map_or (λ b. b == 47) (slice_get bs (length bs - 1)) false

abbrev pub slash_behind : List ℕ → List ℕ
slash_behind folder = if ends_in_slash folder then [] else codes "/"

unfoldable pub path_of : List ℕ → List ℕ → List ℕ
path_of folder name = folder ++ slash_behind folder ++ name

-- in the file of this name; where nothing in it is known, its beginning
unfoldable pub site_at : List ℕ → List ℕ → Option Span → Site
site_at folder name span = record { file = utf8_lossy (path_of folder name); span = span_or_beginning span }

unfoldable pub object_site : List ℕ → List File → ObjRef → Site
object_site folder fs r = site_at folder r.group (object_span fs r)

unfoldable pub numbered_site : List ℕ → List File → ObjRef → ℕ → Site
numbered_site folder fs r index = site_at folder r.group (numbered_span fs r index)

-- a part of an action that the verifier names

abbrev pub part_in : List File → Place → Detail → Option Span
part_in fs p d = option_and_then (λ (f : File). part_span p d f.1.items) (file_of fs p.group)

-- the same by the marks of the file
abbrev pub part_by : Place → Detail → Option File → Option (List Mark) → Option Span
part_by p d (Some f) (Some ms) = option_map (detail_span d f.1.items) (mark_of ms p.object p.index)
part_by p d _ _ = None

unfoldable pub part_site : List ℕ → List File → Place → Detail → Site
part_site folder fs p d = site_at folder p.group (part_in fs p d)
