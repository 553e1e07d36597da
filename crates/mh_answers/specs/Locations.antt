-- Where objects are defined and named.
use Rattle.std.specs.Prelude.{ℕ, Bool, true, false, ◌||◌, not, List, [], ◌∷◌, ◌++◌, map, Option, Some, None, codes}
use Rattle.std.specs.List.{filter, find, flat_map}
use Rattle.serde_json.specs.Data.{Data, null, array, string, object, member, no_members}
use Rattle.serde_json.specs.View.{items_of}
use Rattle.mh_base.specs.declared.obj_ref.ObjRef.{ObjRef}
use Rattle.mh_edit.specs.declared.walk.Role.{Role}
use Rattle.mh_edit.specs.declared.walk.Role.TheVariants as role
use Rattle.mh_edit.specs.declared.walk.Spot.{Spot}
use Rattle.mh_edit.specs.declared.word.Extent.{Extent}
use Rattle.mh_edit.specs.Objects.{defines, uses}
use Rattle.mh_protocol.specs.declared.edit.Range.{Range}
use Rattle.mh_protocol.specs.declared.position.Unit.{Unit}
use Rattle.mh_protocol.specs.Answers.{range_data}
use Rattle.mh_protocol.specs.Counting.{range_in}
use Rattle.mh_answers.specs.Objects.{Source, file_named, object_at, spots_in}
use Rattle.mh_answers.specs.Paths.{uri_of}

unfoldable pub location_data : List ℕ → Range → Data
location_data uri r = object (member (codes "range") (range_data r) (member (codes "uri") (string uri) no_members))

-- so many bytes of a text, in which places are counted so
abbrev pub ranged : List ℕ → Unit × List ℕ → Extent → Data
ranged uri p e = location_data uri (range_in p.0 e.start e.length p.1)

-- a token of a file
abbrev pub located : Unit → List ℕ → Source → Extent → Data
located u folder f = ranged (uri_of folder f.0) (u, f.1.items)

-- DEFINITIONS

abbrev pub defined_by : Unit → List ℕ → Source → Option Spot → Data
defined_by u folder f None = null
defined_by u folder f (Some s) = located u folder f s.at

-- where the object with this number is defined in a file
unfoldable pub definition_within : Unit → List ℕ → Source → ℕ → Data
definition_within u folder f n = defined_by u folder f (find (defines n) (spots_in f.1.items))

abbrev pub definition_in_file : Unit → List ℕ → ℕ → Option Source → Data
definition_in_file u folder n None = null
definition_in_file u folder n (Some f) = definition_within u folder f n

abbrev pub definition_of : Unit → List ℕ → List Source → ObjRef → Data
definition_of u folder fs o = definition_in_file u folder o.number (file_named o.group fs)

abbrev pub definition_if : Unit → List ℕ → List Source → Option ObjRef → Data
definition_if u folder fs None = null
definition_if u folder fs (Some o) = definition_of u folder fs o

-- where the object is defined that is named at a place
abbrev pub definition_at : Unit → List ℕ → List Source → Source → ℕ → Data
definition_at u folder fs f n = definition_if u folder fs (object_at f n)

-- REFERENCES

abbrev pub is_definition : Role → Bool
is_definition (role.Defines n) = true
is_definition _ = false

abbrev pub is_wanted : Bool → Spot → Bool
is_wanted all s = all || not (is_definition s.role)

-- the tokens of a file that are the number of the object, but for that of its definition if that is not asked for
unfoldable pub named_in : Source → ObjRef → Bool → List Extent
named_in f o all = uses f.0 f.1.items o (filter (is_wanted all) (spots_in f.1.items))

unfoldable pub references_in : Unit → List ℕ → ObjRef → Bool → Source → List Data
references_in u folder o all f = map (located u folder f) (named_in f o all)

-- file by file
abbrev pub references : Unit → List ℕ → ObjRef → Bool → List Source → List Data
references u folder o all fs = flat_map (references_in u folder o all) fs

unfoldable pub references_to : Unit → List ℕ → List Source → ObjRef → Bool → Data
references_to u folder fs o all = array (items_of (references u folder o all fs))
