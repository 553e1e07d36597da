-- What is told of the mistakes behind the first one in files that are not read.
use Rattle.std.specs.Prelude.{ℕ, ◌-◌, ◌==◌, ◌&&◌, if◌then◌else◌, List, [], ◌∷◌, ◌++◌, length, Option, Some}
use Rattle.std.specs.Fmt.{decimal}
use Rattle.std.specs.List.{flat_map}
use Rattle.std.specs.Option.{option_map_or}
use Rattle.std.specs.Str.{bytes_eq}
use Rattle.mh_misread.specs.declared.mistake.Mistake.{Mistake}
use Rattle.mh_misread.specs.Misreads.{misread_of}
use Rattle.mh_misread.specs.Resuming.{mistakes, text_from}
use Rattle.mh_why.specs.declared.explanation.unread.further.TheConstants.{READ_ON}
use Rattle.mh_why.specs.Advice.{advice, files}
use Rattle.mh_why.specs.LineWords.{number_in}
use Rattle.mh_why.specs.Misreading.{case_text}
use Rattle.mh_why.specs.Sources.{Source, shown_byte}
use Rattle.mh_why.specs.Spots.{Spot}
use Rattle.mh_why.specs.Wrapping.{paragraph}

-- the cause and the mend of a mistake, in the text in which it was met
unfoldable pub mistake_advice : List ℕ → Mistake → List ℕ
mistake_advice text m = option_map_or (case_text text m.offset) (misread_of text m.offset m.number) (advice files (decimal m.number))

unfoldable pub mistake_text : Source → Mistake → List ℕ
mistake_text s m = shown_byte m.place s ++ mistake_advice (text_from s.text m.from) m

-- the first mistakes of a file, if it is a text, at most so many
abbrev pub mistakes_in : ℕ → Source → List Mistake
mistakes_in most s = if s.is_written then mistakes most s.text else []

abbrev pub files_text : ℕ → List Source → List ℕ
files_text most [] = []
files_text most (s ∷ ss) = flat_map (mistake_text s) (mistakes_in most s) ++ files_text (most - length (mistakes_in most s)) ss

-- the file of this name and those behind it
abbrev pub from_named : List ℕ → List Source → List Source
from_named name [] = []
from_named name (s ∷ ss) = if bytes_eq s.name name then s ∷ ss else from_named name ss

-- those behind the first, if that is the one with this place and number
abbrev pub behind_first_of : ℕ → ℕ → Source → List Source → List Mistake → List ℕ
behind_first_of place number s ss [] = []
behind_first_of place number s ss (m ∷ ms) =
    if m.place == place && m.number == number then flat_map (mistake_text s) ms ++ files_text (20 - length (m ∷ ms)) ss else []

unfoldable pub behind_at : ℕ → ℕ → List Source → List ℕ
behind_at place number [] = []
behind_at place number (s ∷ ss) = behind_first_of place number s ss (mistakes_in 20 s)

abbrev pub with_notice : List ℕ → List ℕ
with_notice [] = []
with_notice (b ∷ bs) = paragraph READ_ON.now ++ b ∷ bs

abbrev pub further_by : List Source → List ℕ → Option ℕ → Option ℕ → List ℕ
further_by ss name (Some place) (Some number) = with_notice (behind_at place number (from_named name ss))
further_by ss name p n = []

-- what is told behind the first mistake, whose line has the file, the offset and the number
unfoldable pub further : List Source → Spot → List ℕ
further ss s = further_by ss s.group (number_in s.index) (number_in s.object)
