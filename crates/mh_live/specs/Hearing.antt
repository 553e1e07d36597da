-- The numbers of the events that active links wait for.
use Rattle.std.specs.Prelude.{if◌then◌else◌, List, [], ◌∷◌, Option, Some, None, ℤ, pos, int_lt}
use Rattle.std.specs.Option.{option_or}
use Rattle.mh_base.specs.declared.event.EventType.{EventType}
use Rattle.mh_base.specs.declared.value.Value.{Value}
use Rattle.mh_base.specs.declared.value.Value.TheVariants as value
use Rattle.mh_group.specs.declared.attribute.Attribute.TheVariants as attribute
use Rattle.mh_group.specs.Table.{is_link}
use Rattle.mh_model.specs.declared.held.Property.{Property}
use Rattle.mh_model.specs.declared.object.Object.{Object}
use Rattle.mh_model.specs.Items.{hears_type}
use Rattle.mh_model.specs.Property.{held, as_event, as_value}

-- a number that a script can say, which has no sign
abbrev pub natural : ℤ → Option ℤ
natural n = if int_lt n (pos 0) then None else Some n

-- a number that meets what a link waits for: 0 where that is any
abbrev pub number_in : Option Value → Option ℤ
number_in None = Some (pos 0)
number_in (Some (value.Int n)) = natural n
number_in (Some _) = None

-- a link with these attributes waits for events of this type, with such a number
abbrev pub number_waited : EventType → List Property → Option ℤ
number_waited kind ps =
    if hears_type (as_event (held attribute.EventType ps)) kind then number_in (as_value (held attribute.EventData ps)) else None

abbrev pub number_heard : EventType → Object → Option ℤ
number_heard kind o =
    if o.body.running then (if is_link o.fixed.class then number_waited kind o.fixed.properties else None) else None

-- that of the first active link that waits for one
abbrev pub first_heard : EventType → List Object → Option ℤ
first_heard kind [] = None
first_heard kind (o ∷ os) = option_or (number_heard kind o) (first_heard kind os)
