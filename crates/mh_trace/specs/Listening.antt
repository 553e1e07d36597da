-- The links among the objects that are present, by the number of the object for whose events each waits: an index of their
-- places in the one list, so that an event asks the links of its source's number alone.
use Rattle.std.specs.Prelude.{◌≡◌, ℕ, suc, nat_eq, Bool, true, false, if◌then◌else◌, List, [], ◌∷◌, ◌++◌, slice_get, unwrap_or, Option, Some, None}
use Rattle.std.specs.Map.{lookup}
use Rattle.std.specs.Option.{option_map_or}
use Rattle.mh_base.specs.declared.value.Value.{Value}
use Rattle.mh_base.specs.declared.value.Value.TheVariants as value
use Rattle.mh_group.specs.declared.attribute.Attribute.TheVariants as attribute
use Rattle.mh_group.specs.Table.{is_link}
use Rattle.mh_model.specs.declared.item.Item.{Item}
use Rattle.mh_model.specs.declared.item.Item.TheVariants as item
use Rattle.mh_model.specs.declared.object.Fixed.{Fixed}
use Rattle.mh_model.specs.declared.object.Object.{Object}
use Rattle.mh_model.specs.Property.{held, as_value}

abbrev pub number_in : Option Value → Option ℕ
number_in (Some (value.Object r)) = Some r.number
number_in _ = None

-- the number of the object for whose events a link waits
abbrev pub heard_number : Fixed → Option ℕ
heard_number p =
    if is_link p.class then number_in (as_value (held attribute.EventSource p.properties)) else None

abbrev pub is_number : Option ℕ → ℕ → Bool
is_number None n = false
is_number (Some m) n = nat_eq m n

-- the place of a part, where it is a link that waits for what has this number
abbrev pub place_if : Option ℕ → ℕ → ℕ → List ℕ
place_if m n at = if is_number m n then at ∷ [] else []

-- the places of those among these parts, of which the first has this place
abbrev pub places_from : ℕ → ℕ → List Fixed → List ℕ
places_from n at [] = []
places_from n at (p ∷ ps) = place_if (heard_number p) n at ++ places_from n (suc at) ps

abbrev pub listed : ℕ → List (ℕ × List ℕ) → List ℕ
listed n es = unwrap_or (lookup (nat_eq n) es) []

-- the index is that of these parts
abbrev pub IsIndexOf : List (ℕ × List ℕ) → List Fixed → Type 0
IsIndexOf es ps = (n : ℕ) → listed n es ≡ places_from n 0 ps

-- what the object at a place comes to
abbrev pub at_place : {A : Type 0} → (Object → List A) → List Object → ℕ → List A
at_place f os n = option_map_or f (slice_get os n) []

-- an entry that exchanges the objects
abbrev pub is_exchange : Option Item → Bool
is_exchange (Some (item.Exchange g)) = true
is_exchange _ = false
