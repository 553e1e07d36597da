-- Where objects are defined and named.
use Rattle.std.specs.Prelude.{ℕ, ◌-◌, ◌==◌, nat_le, nat_lt, Bool, true, false, ◌&&◌, if◌then◌else◌, List, [], ◌∷◌, ◌++◌, Option, Some, None}
use Rattle.std.specs.List.{find}
use Rattle.std.specs.Str.{bytes_eq}
use Rattle.mh_base.specs.Path.{is_path, led_to}
use Rattle.mh_base.specs.declared.obj_ref.ObjRef.{ObjRef}
use Rattle.mh_edit.specs.declared.word.Extent.{Extent}
use Rattle.mh_edit.specs.declared.walk.Role.{Role}
use Rattle.mh_edit.specs.declared.walk.Role.TheVariants as role
use Rattle.mh_edit.specs.declared.walk.Spot.{Spot}
use Rattle.mh_edit.specs.Words.{text_of}

-- AT A PLACE

abbrev pub is_over : ℕ → Spot → Bool
is_over n s = nat_le s.at.start n && nat_lt (n - s.at.start) s.at.length

abbrev pub ends_at : ℕ → Spot → Bool
ends_at n s = nat_le s.at.start n && n - s.at.start == s.at.length

abbrev pub or_else : Option Spot → Option Spot → Option Spot
or_else (Some s) t = Some s
or_else None t = t

-- the token in which the place is, or else the one that ends there
abbrev pub spot_over : List Spot → ℕ → Option Spot
spot_over ss n = or_else (find (is_over n) ss) (find (ends_at n) ss)

-- OBJECTS

abbrev pub object_here : List ℕ → ℕ → Option ObjRef
object_here from n = Some (record { number = n; group = from })

-- the object in the group to which a name leads that this group writes
abbrev pub object_in : List ℕ → List ℕ → ℕ → Option ObjRef
object_in from name n = if is_path (led_to from name) then Some (record { number = n; group = led_to from name }) else None

-- the object that a token of a group is the number of, or the group whose name it is
unfoldable pub object_of : List ℕ → List ℕ → Role → Option ObjRef
object_of from bs (role.Defines n) = object_here from n
object_of from bs (role.Names n) = object_here from n
object_of from bs (role.NamesIn name n) = object_in from (text_of bs name) n
object_of from bs (role.Group name) = object_in from (text_of bs name) 0
object_of from bs _ = None

-- USES

abbrev pub is_here : List ℕ → ObjRef → ℕ → Bool
is_here from o n = n == o.number && bytes_eq from o.group

abbrev pub leads_to : List ℕ → List ℕ → List ℕ → Bool
leads_to from name group = is_path (led_to from name) && bytes_eq (led_to from name) group

abbrev pub is_there : List ℕ → List ℕ → ObjRef → ℕ → Bool
is_there from name o n = n == o.number && leads_to from name o.group

-- the token is the number of this object
unfoldable pub is_use : List ℕ → List ℕ → ObjRef → Role → Bool
is_use from bs o (role.Defines n) = is_here from o n
is_use from bs o (role.Names n) = is_here from o n
is_use from bs o (role.NamesIn name n) = is_there from (text_of bs name) o n
is_use from bs o _ = false

-- where the tokens of a group are that are the number of this object
abbrev pub uses : List ℕ → List ℕ → ObjRef → List Spot → List Extent
uses from bs o [] = []
uses from bs o (s ∷ ss) = (if is_use from bs o s.role then s.at ∷ [] else []) ++ uses from bs o ss

-- the token is the number with which this object is defined
abbrev pub defines_by : ℕ → Role → Bool
defines_by n (role.Defines m) = m == n
defines_by n _ = false

abbrev pub defines : ℕ → Spot → Bool
defines n s = defines_by n s.role
