-- A text that the editor changes, piece by piece or as a whole.
use Rattle.std.specs.Prelude.{ℕ, List, [], ◌∷◌, Option, Some, None, codes, option_and_then}
use Rattle.serde_json.specs.Data.{Data}
use Rattle.serde_json.specs.Find.{pointer}
use Rattle.mh_protocol.specs.declared.edit.Range.{Range}
use Rattle.mh_protocol.specs.declared.position.Unit.{Unit}
use Rattle.mh_protocol.specs.Asked.{range_of, text_at}
use Rattle.mh_protocol.specs.Edits.{edited}

abbrev pub replaced : Unit → List ℕ → Option Range → List ℕ → List ℕ
replaced u bs None new = new
replaced u bs (Some r) new = edited u r new bs

-- the range that is replaced; the whole text where none is told
abbrev pub range_in : Data → Option Range
range_in d = option_and_then range_of (pointer (codes "/range") d)

abbrev pub with_text : Unit → List ℕ → Option Range → Option (List ℕ) → List ℕ
with_text u bs r None = bs
with_text u bs r (Some new) = replaced u bs r new

-- one that tells no text changes nothing
unfoldable pub changed_by : Unit → List ℕ → Data → List ℕ
changed_by u bs d = with_text u bs (range_in d) (text_at (codes "/text") d)

-- one after the other
abbrev pub changed : Unit → List ℕ → List Data → List ℕ
changed u bs [] = bs
changed u bs (d ∷ ds) = changed u (changed_by u bs d) ds
