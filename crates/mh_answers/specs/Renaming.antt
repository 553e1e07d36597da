-- A new number for an object: the edits of all files.
use Rattle.std.specs.Prelude.{ℕ, ◌==◌, if◌then◌else◌, List, [], ◌∷◌, length, map, codes, decimal}
use Rattle.serde_json.specs.Data.{Data, array, string, object, Members, member, no_members, put}
use Rattle.serde_json.specs.View.{items_of}
use Rattle.mh_base.specs.declared.obj_ref.ObjRef.{ObjRef}
use Rattle.mh_edit.specs.declared.word.Extent.{Extent}
use Rattle.mh_edit.specs.Objects.{uses}
use Rattle.mh_protocol.specs.declared.edit.Range.{Range}
use Rattle.mh_protocol.specs.declared.position.Unit.{Unit}
use Rattle.mh_protocol.specs.Answers.{range_data}
use Rattle.mh_protocol.specs.Counting.{range_in}
use Rattle.mh_answers.specs.Objects.{Source, spots_in}
use Rattle.mh_answers.specs.Paths.{uri_of}

-- a text in place of what stands in a range
unfoldable pub edit_data : Range → List ℕ → Data
edit_data r text = object (member (codes "newText") (string text) (member (codes "range") (range_data r) no_members))

-- a text in place of so many bytes of another, in which places are counted so
abbrev pub written_at : List ℕ → Unit × List ℕ → Extent → Data
written_at text p e = edit_data (range_in p.0 e.start e.length p.1) text

-- the number in place of each token
abbrev pub edits : Unit → List ℕ → ℕ → List Extent → Data
edits u bs n es = array (items_of (map (written_at (decimal n) (u, bs)) es))

-- the tokens of a file that are the number of the object, and no others
unfoldable pub numbers_in : Source → ObjRef → List Extent
numbers_in f o = uses f.0 f.1.items o (spots_in f.1.items)

-- a file without any has no edits
abbrev pub with_edits_of : Unit → List ℕ → ℕ → Source → List Extent → Members → Members
with_edits_of u folder n f es ms = if length es == 0 then ms else put (uri_of folder f.0) (edits u f.1.items n es) ms

abbrev pub with_edits : Unit → List ℕ → ObjRef → ℕ → Source → Members → Members
with_edits u folder o n f ms = with_edits_of u folder n f (numbers_in f o) ms

abbrev pub changes_behind : Unit → List ℕ → ObjRef → ℕ → Members → List Source → Members
changes_behind u folder o n ms [] = ms
changes_behind u folder o n ms (f ∷ fs) = changes_behind u folder o n (with_edits u folder o n f ms) fs

unfoldable pub changes : Unit → List ℕ → ObjRef → ℕ → List Source → Data
changes u folder o n fs = object (changes_behind u folder o n no_members fs)

-- the edits that give the object this number
unfoldable pub renamed : Unit → List ℕ → List Source → ObjRef → ℕ → Data
renamed u folder fs o n = object (member (codes "changes") (changes u folder o n fs) no_members)
