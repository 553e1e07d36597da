-- What is found of a service whose mistakes are accepted in silence: what never happens, by the sets of what may.
use Rattle.std.specs.Prelude.{ℕ, Bool, true, false, ◌&&◌, not, if◌then◌else◌, List, [], ◌∷◌, ◌++◌, Option, Some, None}
use Rattle.std.specs.List.{flat_map, list_any}
use Rattle.std.specs.Option.{option_to_list}
use Rattle.mh_base.specs.declared.event.EventType.{EventType}
use Rattle.mh_base.specs.declared.value.Value.{Value}
use Rattle.mh_base.specs.declared.value.Value.TheVariants as value
use Rattle.mh_group.specs.declared.attribute.Attribute.TheVariants as attribute
use Rattle.mh_group.specs.Table.{is_link, is_runnable}
use Rattle.mh_model.specs.declared.config.Config.{Config}
use Rattle.mh_model.specs.declared.object.Fixed.{Fixed}
use Rattle.mh_model.specs.Property.{held, as_event, as_value}
use Rattle.mh_model.specs.Service.{Service}
use Rattle.mh_flow.specs.Index.{is_entered}
use Rattle.mh_alive.specs.Alive.{Alive, never_hears, never_put, never_runs, never_says}
use Rattle.mh_lint.specs.declared.finding.Finding.{Finding}
use Rattle.mh_lint.specs.declared.finding.Finding.TheVariants as finding

-- a link that waits for data with which no event of its type comes
abbrev pub unsaid : Alive → Fixed → Option EventType → Option Value → Option Finding
unsaid a p (Some kind) (Some d) = if never_says a kind (Some d) then Some (finding.Unsaid p.key kind d) else None
unsaid a p _ _ = None

-- a link that nothing puts to work, or that never hears what would
abbrev pub unmoved : Alive → Fixed → Option Finding
unmoved a p =
    if never_put a p.key then Some (finding.Unput p.key) else (if never_hears a p.key then Some (finding.Deaf p.key) else None)

abbrev pub or_unmoved : Alive → Fixed → Option Finding → Option Finding
or_unmoved a p (Some f) = Some f
or_unmoved a p None = unmoved a p

abbrev pub of_link : Alive → Fixed → Option Finding
of_link a p = or_unmoved a p (unsaid a p (as_event (held attribute.EventType p.properties)) (as_value (held attribute.EventData p.properties)))

-- nothing leads to the group
abbrev pub is_unreached : List Config → List ℕ → Bool
is_unreached cs g = not (list_any (λ c. is_entered c g) cs)

-- something that nothing runs
abbrev pub idle : Alive → Fixed → Option Finding
idle a p = if is_runnable p.class && never_runs a p.key then Some (finding.Idle p.key) else None

-- ROOTS. Of a group that nothing leads to the group alone is a root, and of an object at most one finding: the first that there
-- is, of that nothing runs it, that its data never come, that nothing puts it to work, and that it never hears. A link that waits for what is in a group
-- that nothing leads to has none but that it never runs: the root is that group.

abbrev pub is_beyond : List Config → Option Value → Bool
is_beyond cs (Some (value.Object r)) = is_unreached cs r.group
is_beyond cs _ = false

-- what the link waits for is in a group that nothing leads to
abbrev pub waits_beyond : List Config → Fixed → Bool
waits_beyond cs p = is_beyond cs (as_value (held attribute.EventSource p.properties))

abbrev pub link_root : Alive → List Config → Fixed → Option Finding
link_root a cs p = if waits_beyond cs p then None else of_link a p

abbrev pub root_of : Alive → List Config → Fixed → Option Finding
root_of a cs p =
    if is_runnable p.class && never_runs a p.key then Some (finding.Idle p.key)
    else if is_link p.class then link_root a cs p else None

-- ALL of an object, also what follows

abbrev pub all_of_link : Alive → Fixed → List Finding
all_of_link a p =
    option_to_list (unsaid a p (as_event (held attribute.EventType p.properties)) (as_value (held attribute.EventData p.properties)))
    ++ option_to_list (unmoved a p)

abbrev pub all_of : Alive → Fixed → List Finding
all_of a p = option_to_list (idle a p) ++ (if is_link p.class then all_of_link a p else [])

-- the roots of an object, or all that is found of it
abbrev pub found_of : Bool → Alive → List Config → Fixed → List Finding
found_of all a cs p = if all then all_of a p else option_to_list (root_of a cs p)

abbrev pub beyond : Bool → Alive → List Config → List Fixed → List Finding
beyond all a cs ps = if all then flat_map (found_of true a cs) ps else []

-- what is found of a group, whose first object is the group itself
abbrev pub of_group : Bool → Alive → List Config → List Fixed → List Finding
of_group all a cs [] = []
of_group all a cs (p ∷ ps) =
    if is_unreached cs p.key.group then finding.Unreached p.key ∷ beyond all a cs (p ∷ ps) else flat_map (found_of all a cs) (p ∷ ps)

-- in the order of the groups and of their objects
abbrev pub findings : Bool → Service → List Config → Alive → List Finding
findings all v cs a = flat_map (λ g. of_group all a cs g.1) v.groups
