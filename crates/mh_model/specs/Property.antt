-- What an object holds under an attribute: what was changed, else what was written, else the default of the
-- tables.
use Rattle.std.specs.Prelude.{ℕ, Bool, ◌==◌, if◌then◌else◌, List, [], Option, Some, None, ℤ, pos}
use Rattle.std.specs.List.{find}
use Rattle.std.specs.Option.{option_map, option_or}
use Rattle.std.specs.Ordering.{int_eq}
use Rattle.mh_base.specs.declared.obj_ref.ObjRef.{ObjRef}
use Rattle.mh_base.specs.declared.value.Value.{Value}
use Rattle.mh_base.specs.declared.value.Value.TheVariants as value
use Rattle.mh_base.specs.declared.colour.Colour.{Colour}
use Rattle.mh_base.specs.declared.event.EventType.{EventType}
use Rattle.mh_group.specs.declared.attribute.Attribute.{Attribute}
use Rattle.mh_group.specs.declared.attribute.Attribute.TheVariants as attribute
use Rattle.mh_group.specs.declared.justification.Justification.{Justification}
use Rattle.mh_group.specs.declared.justification.Justification.TheVariants as justification
use Rattle.mh_group.specs.Table.{attribute_number}
use Rattle.mh_group.specs.declared.written.Position.{Position}
use Rattle.mh_model.specs.declared.act.Act.{Act}
use Rattle.mh_model.specs.declared.held.Held.{Held}
use Rattle.mh_model.specs.declared.held.Held.TheVariants as of
use Rattle.mh_model.specs.declared.held.Property.{Property}
use Rattle.mh_model.specs.declared.object.member.Member.{Member}
use Rattle.mh_model.specs.declared.object.Body.{Body}
use Rattle.mh_model.specs.declared.object.Fixed.{Fixed}
use Rattle.mh_model.specs.declared.object.Object.{Object}
use Rattle.mh_model.specs.First.{put_first}

abbrev pub is_of : Attribute → Property → Bool
is_of a p = attribute_number p.attribute == attribute_number a

-- what is held under the attribute, if anything is
abbrev pub held : Attribute → List Property → Option Held
held a ps = option_map (λ p. p.held) (find (is_of a) ps)

-- the properties with this held under the attribute
abbrev pub with_held : Attribute → Held → List Property → List Property
with_held a h ps = put_first (is_of a) (record { attribute = a; held = h }) ps

-- what is read of an object: what was changed, else what was written
abbrev pub read_of : Attribute → Fixed → Body → Option Held
read_of a p b = option_or (held a b.changes) (held a p.properties)

abbrev pub read : Attribute → Object → Option Held
read a o = read_of a o.fixed o.body

abbrev pub as_value : Option Held → Option Value
as_value (Some (of.Value v)) = Some v
as_value _ = None

-- the value that a variable holds: what it was given, else its original value
abbrev pub value_held : Fixed → Body → Option Value
value_held p b = option_or b.value (as_value (held attribute.OrigValue p.properties))

abbrev pub as_number : Option Value → ℤ
as_number (Some (value.Int n)) = n
as_number _ = pos 0

abbrev pub as_octets : Option Value → List ℕ
as_octets (Some (value.Octets os)) = os
as_octets _ = []

abbrev pub as_reference : Option Value → Option ObjRef
as_reference (Some (value.Object r)) = Some r
as_reference _ = None

abbrev pub as_bool : Bool → Option Held → Bool
as_bool d (Some (of.Value (value.Bool b))) = b
as_bool d _ = d

abbrev pub as_int : ℤ → Option Held → ℤ
as_int d (Some (of.Value (value.Int n))) = n
as_int d _ = d

abbrev pub as_pair : Option Held → ℤ × ℤ
as_pair (Some (of.Pair a b)) = (a, b)
as_pair _ = (pos 0, pos 0)

abbrev pub as_colour : Colour → Option Held → Colour
as_colour d (Some (of.Colour c)) = c
as_colour d _ = d

-- a justification is held as its number
abbrev pub justified : ℤ → Justification
justified n =
    if int_eq n (pos 2) then justification.End
    else (if int_eq n (pos 3) then justification.Centre else justification.Start)

abbrev pub as_justification : Option Held → Justification
as_justification (Some (of.Value (value.Int n))) = justified n
as_justification _ = justification.Start

abbrev pub as_members : Option Held → List Member
as_members (Some (of.Members ms)) = ms
as_members _ = []

abbrev pub as_rows : Option Held → List (List ℤ)
as_rows (Some (of.Rows rows)) = rows
as_rows _ = []

abbrev pub as_positions : Option Held → List Position
as_positions (Some (of.Positions ps)) = ps
as_positions _ = []

abbrev pub as_effect : Option Held → List Act
as_effect (Some (of.Effect e)) = e
as_effect _ = []

abbrev pub as_event : Option Held → Option EventType
as_event (Some (of.Event e)) = Some e
as_event _ = None
