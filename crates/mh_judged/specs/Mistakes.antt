-- What is found of a text that is not read: a finding for each mistake, at the token where it was met.
use Rattle.std.specs.Prelude.{ℕ, ◌-◌, if◌then◌else◌, List, [], ◌∷◌, ◌++◌, drop, length, map, Option, Some, None}
use Rattle.std.specs.Fmt.{decimal}
use Rattle.std.specs.Option.{option_map_or}
use Rattle.std.specs.Str.{bytes_eq}
use Rattle.mh_findings.specs.declared.finding.Finding.{Finding}
use Rattle.mh_findings.specs.declared.finding.Grade.TheVariants as grade
use Rattle.mh_misread.specs.declared.misread.Misread.{Misread}
use Rattle.mh_misread.specs.declared.mistake.Mistake.{Mistake}
use Rattle.mh_misread.specs.Mending as mending
use Rattle.mh_misread.specs.Misreads.{misread_of}
use Rattle.mh_misread.specs.Resuming.{mistakes, text_from}
use Rattle.mh_misread.specs.Telling as telling
use Rattle.mh_text.specs.Lexing.{begins_group}
use Rattle.mh_told.specs.Reading.{Source as File}
use Rattle.mh_why.specs.Advice.{files}
use Rattle.mh_judged.specs.declared.advice.Advice.{Advice}
use Rattle.mh_judged.specs.Advised.{advice_in, advised, found_as}
use Rattle.mh_judged.specs.Places.{site_at, token_span}

-- the most mistakes that are told
abbrev pub most : ℕ
most = 20

-- the case that was met in a text, if one is known; a file in octets has none
abbrev pub case_at : List ℕ → Mistake → Option Misread
case_at bs m = if begins_group bs then misread_of (text_from bs m.from) m.offset m.number else None

abbrev pub case_advised : List ℕ → ℕ → Misread → Advice
case_advised text offset c = advised (telling.cause text offset c) (mending.mend text offset c)

unfoldable pub mistake_advice : List ℕ → Mistake → Advice
mistake_advice bs m =
    option_map_or (case_advised (text_from bs m.from) m.offset) (case_at bs m) (advice_in files [] (decimal m.number))

unfoldable pub mistake_finding : List ℕ → File → Mistake → Finding
mistake_finding folder f m =
    found_as grade.Unread (decimal m.number) (site_at folder f.0 (Some (token_span f.1.items m.place))) (mistake_advice f.1.items m) []

-- the first mistakes of a file, if it is a text, at most so many
abbrev pub mistakes_in : ℕ → List ℕ → List Mistake
mistakes_in n bs = if begins_group bs then mistakes n bs else []

-- of these files, at most so many
abbrev pub of_files : List ℕ → ℕ → List File → List Finding
of_files folder n [] = []
of_files folder n (f ∷ fs) =
    map (mistake_finding folder f) (mistakes_in n f.1.items) ++ of_files folder (n - length (mistakes_in n f.1.items)) fs

-- the mistake that is told of a file
abbrev pub told : ℕ → ℕ → Mistake
told number offset = record { from = 0; offset = offset; place = offset; number = number; next = None }

-- the file of this name and those behind it
abbrev pub from_named : List ℕ → List File → List File
from_named name [] = []
from_named name (f ∷ fs) = if bytes_eq f.0 name then f ∷ fs else from_named name fs

-- the mistakes behind the first of a file, and those of the files behind it
abbrev pub behind_told : List ℕ → File → List File → List Finding
behind_told folder f fs =
    map (mistake_finding folder f) (drop 1 (mistakes_in most f.1.items)) ++ of_files folder (most - length (mistakes_in most f.1.items)) fs

-- the mistake that is told comes first, then those behind it in its file, and those of the files behind that
unfoldable pub from_told : List ℕ → ℕ → ℕ → List File → List Finding
from_told folder number offset [] = []
from_told folder number offset (f ∷ fs) = mistake_finding folder f (told number offset) ∷ behind_told folder f fs
