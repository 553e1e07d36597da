-- What is found, as it is told to an editor.
use Rattle.std.specs.Prelude.{ℕ, Bool, List, [], ◌∷◌, ◌++◌, map, Option, Some, None, codes}
use Rattle.std.specs.List.{filter, find}
use Rattle.std.specs.Str.{bytes_eq}
use Rattle.serde_json.specs.Data.{Data, array, number, string, object, unsigned, member, no_members}
use Rattle.serde_json.specs.View.{items_of}
use Rattle.mh_answers.specs.Objects.{Source}
use Rattle.mh_answers.specs.Paths.{is_path_of, uri_of_path}
use Rattle.mh_findings.specs.declared.finding.Finding.{Finding}
use Rattle.mh_findings.specs.declared.finding.Grade.{Grade}
use Rattle.mh_findings.specs.declared.finding.Grade.TheVariants as grade
use Rattle.mh_findings.specs.declared.finding.Related.{Related}
use Rattle.mh_findings.specs.declared.finding.Site.{Site}
use Rattle.mh_places.specs.declared.span.Span.{Span}
use Rattle.mh_protocol.specs.declared.edit.Range.{Range}
use Rattle.mh_protocol.specs.declared.position.Unit.{Unit}
use Rattle.mh_protocol.specs.Answers.{range_data}
use Rattle.mh_protocol.specs.Positions.{position_in}

-- RANGES

abbrev pub file_at : List ℕ → List Source → List ℕ → Option Source
file_at folder fs path = find (λ (f : Source). is_path_of folder f.0 path) fs

abbrev pub text_of : Option Source → List ℕ
text_of None = []
text_of (Some f) = f.1.items

-- the text of the file at a path; none at all where there is no such file
abbrev pub text_at : List ℕ → List Source → List ℕ → List ℕ
text_at folder fs path = text_of (file_at folder fs path)

-- the range of the bytes of a span
abbrev pub span_range : Unit → List ℕ → Span → Range
span_range u bs s = record { start = position_in u s.start.byte bs; end = position_in u s.end.byte bs }

abbrev pub site_range : Unit → List ℕ → List Source → Site → Data
site_range u folder fs s = range_data (span_range u (text_at folder fs s.file) s.span)

unfoldable pub site_data : Unit → List ℕ → List Source → Site → Data
site_data u folder fs s =
    object (member (codes "range") (site_range u folder fs s) (member (codes "uri") (string (uri_of_path s.file)) no_members))

-- A FINDING

abbrev pub severity_of : Grade → ℕ
severity_of grade.Unread = 1
severity_of grade.Refused = 1
severity_of grade.Fault = 1
severity_of grade.Never = 2
severity_of grade.Note = 3

abbrev pub mend_text : Option (List ℕ) → List ℕ
mend_text None = []
mend_text (Some mend) = codes "; " ++ mend

abbrev pub words_data : List ℕ → Data
words_data words = string words

-- what is wrong, and the mend if there is one
unfoldable pub message_data : Finding → Data
message_data f = string (f.what ++ mend_text f.mend)

unfoldable pub related_data : Unit → List ℕ → List Source → Related → Data
related_data u folder fs r =
    object (member (codes "location") (site_data u folder fs r.at) (member (codes "message") (string r.what) no_members))

unfoldable pub diagnostic_data : Unit → List ℕ → List Source → Finding → Data
diagnostic_data u folder fs f =
    object (member (codes "code") (words_data f.rule) (member (codes "message") (message_data f)
    (member (codes "range") (site_range u folder fs f.at)
    (member (codes "relatedInformation") (array (items_of (map (related_data u folder fs) f.related)))
    (member (codes "severity") (number (unsigned (severity_of f.grade)))
    (member (codes "source") (string (codes "redlook")) no_members))))))

-- A FILE

-- the finding stands in the file at the path
abbrev pub is_at : List ℕ → Finding → Bool
is_at path f = bytes_eq f.at.file path

-- what is found of the file at a path: those findings that stand there, in their order
abbrev pub diagnostics_at : Unit → List ℕ → List Source → List ℕ → List Finding → List Data
diagnostics_at u folder fs path found = map (diagnostic_data u folder fs) (filter (is_at path) found)
