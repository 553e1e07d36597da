-- What is found of files that make no service.
use Rattle.std.specs.Prelude.{ℕ, if◌then◌else◌, List, [], ◌∷◌, ◌++◌, ◌==◌, codes, Option, None, option_map, option_and_then}
use Rattle.std.specs.Fmt.{decimal}
use Rattle.std.specs.Str.Lossy.{utf8_lossy}
use Rattle.mh_findings.specs.declared.finding.Finding.{Finding}
use Rattle.mh_findings.specs.declared.finding.Grade.TheVariants as grade
use Rattle.mh_places.specs.declared.span.Span.{Span}
use Rattle.mh_places.specs.Directory.{file_of}
use Rattle.mh_places.specs.Spans.{span_at}
use Rattle.mh_text.specs.Landmarks.{Landmark, landmarks}
use Rattle.mh_told.specs.Reading.{Source as File}
use Rattle.mh_told.specs.declared.unplayable.Unplayable.{Unplayable}
use Rattle.mh_told.specs.declared.unplayable.Unplayable.TheVariants as unplayable
use Rattle.mh_why.specs.Advice.{readings, services, tags}
use Rattle.mh_why.specs.Services.{landmark_for}
use Rattle.mh_judged.specs.Advised.{advice_in, found_as}
use Rattle.mh_judged.specs.Mistakes.{from_named, from_told}
use Rattle.mh_judged.specs.Places.{beginning, site_at}

-- what the number leads to in the text of a group
abbrev pub span_for : List ℕ → List ℕ → List ℕ → Option Span
span_for number group bs = option_map (λ (l : Landmark). span_at bs l.start l.length) (landmark_for number group (landmarks bs))

-- in the file of the group, if it is there
abbrev pub span_in : List ℕ → List File → List ℕ → Option Span
span_in number fs group = option_and_then (λ (f : File). span_for number f.0 f.1.items) (file_of fs group)

-- a group with which the files make no service
unfoldable pub service_finding : List ℕ → List File → ℕ → List ℕ → Finding
service_finding folder fs number group =
    found_as grade.Unread (decimal number) (site_at folder group (span_in (decimal number) fs group))
    (advice_in services (group ++ codes ": ") (decimal number)) []

-- a line of the file that gives tags, or a context in which a tag stands twice; what is told stands at the beginning of the file
abbrev pub tag_front : ℕ → ℕ → List ℕ
tag_front number place = (if number == 60 then codes "line " else codes "context ") ++ decimal place ++ codes ": "

unfoldable pub tags_finding : List ℕ → ℕ → ℕ → Finding
tags_finding file number place =
    found_as grade.Unread (decimal number) (record { file = utf8_lossy file; span = beginning })
    (advice_in tags (tag_front number place) (decimal number)) []

-- a file that has no bytes to be read
unfoldable pub path_finding : List ℕ → List ℕ → Finding
path_finding folder name =
    found_as grade.Unread (codes "read") (site_at folder name None) (advice_in readings [] (codes "read")) []

-- by why the files make no service, where tags are given by a file of this path
abbrev pub unread_findings : List ℕ → List ℕ → List File → Unplayable → List Finding
unread_findings given folder fs (unplayable.File name number offset) = from_told folder number offset (from_named name fs)
unread_findings given folder fs (unplayable.Service number group) = service_finding folder fs number group ∷ []
unread_findings given folder fs (unplayable.Tags number place) = tags_finding given number place ∷ []
unread_findings given folder fs (unplayable.Script line) = []
unread_findings given folder fs unplayable.NoMemory = []
