-- A finding as an annotation of a workflow: `::error file=F,line=L,endLine=L,col=C,endColumn=C,title=T::MESSAGE`. What is meant
-- ends in front of the last column that is told.
use Rattle.std.specs.Prelude.{◌≡◌, ℕ, ◌==◌, ◌<◌, ◌^◌, if◌then◌else◌, List, [], ◌∷◌, ◌++◌, codes}
use Rattle.std.specs.Fmt.{decimal}
use Rattle.std.specs.List.{count_by, flat_map}
use Rattle.mh_findings.specs.declared.finding.Finding.{Finding}
use Rattle.mh_findings.specs.declared.finding.Grade.{Grade}
use Rattle.mh_findings.specs.declared.finding.Grade.TheVariants as grade
use Rattle.mh_places.specs.declared.span.Point.{Point}
use Rattle.mh_places.specs.declared.span.Span.{Span}
use Rattle.mh_findings.specs.Messages.{message, title}
use Rattle.mh_findings.specs.Short.{is_feed}

unfoldable pub level_word : Grade → List ℕ
level_word grade.Unread = codes "error"
level_word grade.Refused = codes "error"
level_word grade.Fault = codes "error"
level_word grade.Never = codes "warning"
level_word grade.Note = codes "notice"

-- a byte of a message
unfoldable pub escape : ℕ → List ℕ
escape b = if b == 37 then codes "%25" else (if b == 13 then codes "%0D" else (if b == 10 then codes "%0A" else b ∷ []))

-- a byte of a property, which a comma ends
unfoldable pub escape_property : ℕ → List ℕ
escape_property b = if b == 58 then codes "%3A" else (if b == 44 then codes "%2C" else escape b)

abbrev pub escaped : List ℕ → List ℕ
escaped bs = flat_map escape bs

abbrev pub property : List ℕ → List ℕ
property bs = flat_map escape_property bs

unfoldable pub span_words : Span → List ℕ
span_words s =
    codes ",line=" ++ decimal s.start.line ++ codes ",endLine=" ++ decimal s.end.line ++ codes ",col=" ++ decimal s.start.column
    ++ codes ",endColumn=" ++ decimal s.end.column

unfoldable pub annotation : Finding → List ℕ
annotation f =
    codes "::" ++ level_word f.grade ++ codes " file=" ++ property f.at.file ++ span_words f.at.span ++ codes ",title="
    ++ property (title f) ++ codes "::" ++ escaped (message f) ++ 10 ∷ []

-- THE LAW

-- the numbers are those that a place can have
abbrev pub AreNumbers : Point → Type 0
AreNumbers p = (p.line < 2 ^ 64) × (p.column < 2 ^ 64)

abbrev pub IsPlaced : Finding → Type 0
IsPlaced f = AreNumbers f.at.span.start × AreNumbers f.at.span.end

-- an annotation is one line
abbrev pub EachHasAnAnnotation : Type 0
EachHasAnAnnotation = (f : Finding) → IsPlaced f → count_by is_feed (annotation f) ≡ 1
