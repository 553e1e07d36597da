-- What the tokens of a text stand in, and which numbers name objects.
use Rattle.std.specs.Prelude.{ℕ, zero, suc, ◌+◌, ◌-◌, ◌^◌, ◌==◌, min, nat_le, Bool, true, false, ◌&&◌, if◌then◌else◌, List, [], ◌∷◌, slice_get, Option, Some, None, unwrap_or}
use Rattle.mh_base.specs.declared.value.Kind.TheVariants as kind
use Rattle.mh_group.specs.declared.class.Class.{Class}
use Rattle.mh_group.specs.declared.attribute.Attribute.{Attribute}
use Rattle.mh_group.specs.declared.attribute.Attribute.TheVariants as attribute
use Rattle.mh_group.specs.declared.action_name.ActionName.{ActionName}
use Rattle.mh_group.specs.declared.shape.Shape.{Shape}
use Rattle.mh_group.specs.declared.shape.Shape.TheVariants as shape
use Rattle.mh_group.specs.declared.shape.Need.{Need}
use Rattle.mh_group.specs.declared.shape.Need.TheVariants as need
use Rattle.mh_group.specs.Table.{needs_of, shape_of}
use Rattle.mh_edit.specs.declared.word.Extent.{Extent}
use Rattle.mh_edit.specs.declared.word.Word.{Word}
use Rattle.mh_edit.specs.declared.sense.Sense.{Sense}
use Rattle.mh_edit.specs.declared.sense.Sense.TheVariants as sense
use Rattle.mh_edit.specs.declared.walk.Doing.{Doing}
use Rattle.mh_edit.specs.declared.walk.Front.{Front}
use Rattle.mh_edit.specs.declared.walk.Front.TheVariants as front
use Rattle.mh_edit.specs.declared.walk.Role.{Role}
use Rattle.mh_edit.specs.declared.walk.Role.TheVariants as role
use Rattle.mh_edit.specs.declared.walk.Spot.{Spot}
use Rattle.mh_edit.specs.declared.walk.Stand.{Stand}
use Rattle.mh_edit.specs.Senses.{sense_of}

abbrev pub at_first : Stand
at_first = record { group = None; class = None; object = 0; field = None; doing = None; front = front.Other }

-- WHAT THE NEXT TOKEN STANDS IN

abbrev pub open_behind : Front → Front
open_behind front.Content = front.ContentOpen
open_behind _ = front.Open

abbrev pub text_behind : Front → Extent → Front
text_behind front.Open inner = front.Name inner
text_behind _ inner = front.Other

abbrev pub front_behind : Front → Sense → Front
front_behind f (sense.Class c) = front.Class
front_behind f sense.IndirectRef = front.Reference
front_behind f (sense.Kind kind.Object) = front.Reference
front_behind f sense.ContentRef = front.Content
front_behind f sense.Open = open_behind f
front_behind f (sense.Text inner) = text_behind f inner
front_behind f _ = front.Other

-- numbers stay at the largest
abbrev pub more : ℕ → ℕ
more n = min (n + 1) (2 ^ 64 - 1)

-- a value at depth 1 is whole
abbrev pub valued : Doing → Doing
valued d = if d.depth == 1 then record d { place = more d.place } else d

abbrev pub closed : Doing → Option Doing
closed d = if nat_le d.depth 1 then None else Some (valued (record d { depth = d.depth - 1 }))

unfoldable pub doing_behind : Option Doing → Sense → Option Doing
doing_behind d (sense.Action a) = Some (record { action = a; depth = 0; place = 0 })
doing_behind (Some d) sense.Open = Some (record d { depth = more d.depth })
doing_behind (Some d) sense.Close = closed d
doing_behind (Some d) (sense.Number n) = Some (valued d)
doing_behind (Some d) (sense.Text inner) = Some (valued d)
doing_behind (Some d) sense.Value = Some (valued d)
doing_behind d _ = d

-- a brace closes an object, and what is behind it is the group's
unfoldable pub stand_behind : Stand → Sense → Stand
stand_behind s sense.CloseBrace = record s { class = s.group; object = 0; field = None; doing = None; front = front.Other }
stand_behind s (sense.Attribute a) = record s { field = Some a; doing = None; front = front.Other }
stand_behind s x = record s { doing = doing_behind s.doing x; front = front_behind s.front x }

-- what a token itself stands in: a class and a number are of the object that they begin
abbrev pub entered : Stand → Sense → Stand
entered s (sense.Class c) = record s { class = Some c; group = Some (unwrap_or s.group c) }
entered s (sense.Number n) = begun s.front
  where
    begun : Front → Stand
    begun front.Class = record s { object = n }
    begun _ = s
entered s _ = s

-- WHICH NUMBERS NAME OBJECTS

abbrev pub is_reference_shape : Shape → Bool
is_reference_shape shape.Ref = true
is_reference_shape shape.Members = true
is_reference_shape shape.ListItems = true
is_reference_shape _ = false

unfoldable pub is_reference_field : Option Class → Option Attribute → Bool
is_reference_field (Some c) (Some a) = is_reference_shape (shape_of c a)
is_reference_field _ _ = false

abbrev pub is_reference : Option Need → Bool
is_reference (Some need.Ref) = true
is_reference (Some (need.Receiver k)) = true
is_reference _ = false

unfoldable pub need_at : ActionName → ℕ → Option Need
need_at a n = slice_get (needs_of a) n

-- the first value of an action is its target
unfoldable pub takes_reference : ActionName → ℕ → Bool
takes_reference a place = if place == 0 then true else is_reference (need_at a (place - 1))

unfoldable pub wants_reference : Stand → Bool
wants_reference s = by s.doing
  where
    by : Option Doing → Bool
    by (Some d) = d.depth == 1 && takes_reference d.action d.place
    by None = is_reference_field s.class s.field

-- ROLES

abbrev pub bare_role : Stand → ℕ → Role
bare_role s n = if wants_reference s then role.Names n else role.Other

-- in front of all fields it is the number of the group itself, and of scenes that may come next it is how likely they are
abbrev pub named_role : Option Attribute → Extent → ℕ → Role
named_role None name n = role.Defines n
named_role (Some attribute.NextScenes) name n = role.Other
named_role (Some a) name n = role.NamesIn name n

unfoldable pub number_role : Stand → ℕ → Role
number_role s n = by s.front
  where
    by : Front → Role
    by front.Class = role.Defines n
    by front.Reference = role.Names n
    by (front.Name name) = named_role s.field name n
    by front.Content = role.Other
    by front.ContentOpen = role.Other
    by _ = bare_role s n

abbrev pub text_role : Front → Extent → Role
text_role front.ContentOpen inner = role.Content inner
text_role front.Open inner = role.Group inner
text_role _ inner = role.Other

unfoldable pub role_in : Stand → Sense → Role
role_in s (sense.Class c) = role.Class c
role_in s (sense.Attribute a) = role.Attribute a
role_in s (sense.Action a) = role.Action a
role_in s (sense.Number n) = number_role s n
role_in s (sense.Text inner) = text_role s.front inner
role_in s _ = role.Other

abbrev pub spot_at : Stand → Extent → Sense → Spot
spot_at s at x = record { at = at; role = role_in s x; sense = x; class = s.class; object = s.object }

abbrev pub spots_from : List ℕ → Stand → List Word → List Spot
spots_from bs s [] = []
spots_from bs s (w ∷ ws) =
    let x = sense_of bs w in let here = entered s x in
    spot_at here w.at x ∷ spots_from bs (stand_behind here x) ws

-- the tokens with their roles
abbrev pub spots : List ℕ → List Word → List Spot
spots bs ws = spots_from bs at_first ws

-- what a token that begins at this place stands in
abbrev pub stand_before : List ℕ → ℕ → Stand → List Word → Stand
stand_before bs n s [] = s
stand_before bs n s (w ∷ ws) =
    if nat_le n w.at.start then s
    else (let x = sense_of bs w in stand_before bs n (stand_behind (entered s x) x) ws)
