-- The JSON value of a finding, and the finding that a JSON value holds. The members stand in the order of their names.
use Rattle.std.specs.Prelude.{◌≡◌, ℕ, if◌then◌else◌, List, [], ◌∷◌, ◌++◌, Option, Some, None, codes, map, option_and_then, option_map}
use Rattle.std.specs.Str.{bytes_eq}
use Rattle.serde_json.specs.Data.{Data, null, boolean, number, string, array, object, unsigned, Items, no_items, item, no_members, member}
use Rattle.serde_json.specs.Find.{get, as_number, as_array, as_str, as_u64}
use Rattle.serde_json.specs.Read.{read}
use Rattle.serde_json.specs.View.{items_of}
use Rattle.serde_json.specs.Written.{compact_text}
use Rattle.mh_findings.specs.declared.finding.Finding.{Finding}
use Rattle.mh_findings.specs.declared.finding.Grade.{Grade}
use Rattle.mh_findings.specs.declared.finding.Grade.TheVariants as grade
use Rattle.mh_places.specs.declared.span.Point.{Point}
use Rattle.mh_findings.specs.declared.finding.Related.{Related}
use Rattle.mh_findings.specs.declared.finding.Site.{Site}
use Rattle.mh_places.specs.declared.span.Span.{Span}
use Rattle.mh_findings.specs.Messages.{grade_word}

-- WHAT IS WRITTEN

unfoldable pub point_data : Point → Data
point_data p =
    object (member (codes "byte") (number (unsigned p.byte)) (member (codes "column") (number (unsigned p.column))
    (member (codes "line") (number (unsigned p.line)) no_members)))

unfoldable pub span_data : Span → Data
span_data s = object (member (codes "end") (point_data s.end) (member (codes "start") (point_data s.start) no_members))

unfoldable pub site_data : Site → Data
site_data s = object (member (codes "file") (string s.file) (member (codes "span") (span_data s.span) no_members))

unfoldable pub related_data : Related → Data
related_data r = object (member (codes "at") (site_data r.at) (member (codes "what") (string r.what) no_members))

abbrev pub related_items : List Related → Items
related_items rs = items_of (map related_data rs)

unfoldable pub mend_data : Option (List ℕ) → Data
mend_data None = null
mend_data (Some mend) = string mend

unfoldable pub finding_data : Finding → Data
finding_data f =
    object (member (codes "at") (site_data f.at) (member (codes "grade") (string (grade_word f.grade))
    (member (codes "mend") (mend_data f.mend) (member (codes "related") (array (related_items f.related))
    (member (codes "rule") (string f.rule) (member (codes "what") (string f.what) no_members))))))

-- the object, and a line feed
unfoldable pub json_line : Finding → List ℕ
json_line f = compact_text (finding_data f) ++ 10 ∷ []

-- WHAT IS READ

-- the member of this name, read in this way
abbrev pub within : {A : Type 0} → List ℕ → (Data → Option A) → Data → Option A
within name reading d = option_and_then reading (get name d)

abbrev pub number_in : Data → Option ℕ
number_in d = option_and_then as_u64 (as_number d)

unfoldable pub point_in : Data → Option Point
point_in d =
    option_and_then (λ (byte : ℕ). option_and_then (λ (line : ℕ).
    option_map (λ (column : ℕ). record { byte = byte; line = line; column = column })
    (within (codes "column") number_in d)) (within (codes "line") number_in d)) (within (codes "byte") number_in d)

unfoldable pub span_in : Data → Option Span
span_in d =
    option_and_then (λ (start : Point). option_map (λ (end : Point). record { start = start; end = end })
    (within (codes "end") point_in d)) (within (codes "start") point_in d)

unfoldable pub site_in : Data → Option Site
site_in d =
    option_and_then (λ (file : List ℕ). option_map (λ (span : Span). record { file = file; span = span })
    (within (codes "span") span_in d)) (within (codes "file") as_str d)

unfoldable pub related_in : Data → Option Related
related_in d =
    option_and_then (λ (at : Site). option_map (λ (what : List ℕ). record { at = at; what = what })
    (within (codes "what") as_str d)) (within (codes "at") site_in d)

-- each of these, if each is one
abbrev pub all_related_in : Items → Option (List Related)
all_related_in no_items = Some []
all_related_in (item d ds) = option_and_then (λ (r : Related). option_map (λ (rs : List Related). r ∷ rs) (all_related_in ds)) (related_in d)

abbrev pub related_among : Data → Option (List Related)
related_among d = option_and_then all_related_in (as_array d)

-- nothing, or a text
abbrev pub mend_in : Data → Option (Option (List ℕ))
mend_in null = Some None
mend_in (boolean b) = None
mend_in (number n) = None
mend_in (string mend) = Some (Some mend)
mend_in (array ds) = None
mend_in (object ms) = None

abbrev pub grade_named : List ℕ → Option Grade
grade_named word =
    if bytes_eq word (codes "unread") then Some grade.Unread
    else (if bytes_eq word (codes "refused") then Some grade.Refused
    else (if bytes_eq word (codes "fault") then Some grade.Fault
    else (if bytes_eq word (codes "never") then Some grade.Never
    else (if bytes_eq word (codes "note") then Some grade.Note else None))))

abbrev pub grade_in : Data → Option Grade
grade_in d = option_and_then grade_named (as_str d)

abbrev pub found_as : Grade → List ℕ → Site → List ℕ → Option (List ℕ) → List Related → Finding
found_as grade rule at what mend related = record { grade = grade; rule = rule; at = at; what = what; mend = mend; related = related }

unfoldable pub finding_in : Data → Option Finding
finding_in d =
    option_and_then (λ (grade : Grade). option_and_then (λ (rule : List ℕ). option_and_then (λ (at : Site).
    option_and_then (λ (what : List ℕ). option_and_then (λ (mend : Option (List ℕ)). option_map (found_as grade rule at what mend)
    (within (codes "related") related_among d)) (within (codes "mend") mend_in d)) (within (codes "what") as_str d))
    (within (codes "at") site_in d)) (within (codes "rule") as_str d)) (within (codes "grade") grade_in d)

-- THE LAW

-- what is written of a finding holds that finding
abbrev pub FindingsReadBack : Type 0
FindingsReadBack = (f : Finding) → finding_in (finding_data f) ≡ Some f

-- the finding that a text writes
abbrev pub finding_of : List ℕ → Option Finding
finding_of text = option_and_then finding_in (read text)
