-- What is told of a file that is not read: of a text the case that was met, and of another file what its number stands for.
use Rattle.std.specs.Prelude.{ℕ, if◌then◌else◌, List, ◌++◌, codes, Option, Some, None}
use Rattle.std.specs.Option.{option_map_or}
use Rattle.mh_misread.specs.declared.misread.Misread.{Misread}
use Rattle.mh_misread.specs.Misreads.{misread_of}
use Rattle.mh_misread.specs.Mending as mending
use Rattle.mh_misread.specs.Telling as telling
use Rattle.mh_why.specs.Advice.{advice, files}
use Rattle.mh_why.specs.LineWords.{number_in}
use Rattle.mh_why.specs.Sources.{Source, source_named}
use Rattle.mh_why.specs.Spots.{Spot}
use Rattle.mh_why.specs.Wrapping.{paragraph}

-- the cause and the mend of a case
unfoldable pub case_text : List ℕ → ℕ → Misread → List ℕ
case_text text offset m =
    paragraph (codes "  Cause: " ++ telling.cause text offset m ++ codes ".")
    ++ paragraph (codes "  Mend: " ++ mending.mend text offset m ++ codes ".")

-- the case, if the file is a text and one is known
abbrev pub case_in : Source → ℕ → ℕ → Option Misread
case_in s offset number = if s.is_written then misread_of s.text offset number else None

-- or what is told otherwise

abbrev pub case_or : List ℕ → ℕ → ℕ → Source → List ℕ
case_or other offset number s = option_map_or (case_text s.text offset) (case_in s offset number) other

abbrev pub named_case_or : List ℕ → List Source → List ℕ → ℕ → ℕ → List ℕ
named_case_or other ss name offset number = option_map_or (case_or other offset number) (source_named ss name) other

abbrev pub told_or : List ℕ → List Source → List ℕ → Option ℕ → Option ℕ → List ℕ
told_or other ss name (Some offset) (Some number) = named_case_or other ss name offset number
told_or other ss name _ _ = other

-- of the file of a line, by its offset and its number
unfoldable pub file_advice : List Source → Spot → List ℕ
file_advice ss s = told_or (advice files s.object) ss s.group (number_in s.index) (number_in s.object)
