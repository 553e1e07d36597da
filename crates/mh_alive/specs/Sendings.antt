-- With which data events may come: what is usual of their type, and what an active action sends.
use Rattle.std.specs.Prelude.{ℕ, ◌==◌, Bool, true, false, ◌&&◌, ◌||◌, if◌then◌else◌, List, [], ◌∷◌, nat_le, Option, Some, None, ℤ, pos, negsuc}
use Rattle.std.specs.List.{flat_map, list_any}
use Rattle.std.specs.Option.{option_map_or}
use Rattle.std.specs.Ordering.{int_eq}
use Rattle.mh_base.specs.declared.event.EventType.{EventType}
use Rattle.mh_base.specs.declared.event.EventType.TheVariants as event
use Rattle.mh_base.specs.declared.value.Value.{Value}
use Rattle.mh_base.specs.declared.value.Value.TheVariants as value
use Rattle.mh_base.specs.Event.{number_of}
use Rattle.mh_model.specs.declared.act.Act.{Act}
use Rattle.mh_model.specs.declared.act.Argument.{Argument}
use Rattle.mh_model.specs.declared.act.Argument.TheVariants as argument
use Rattle.mh_model.specs.declared.config.Config.{Config}
use Rattle.mh_model.specs.Configuration.{present}
use Rattle.mh_model.specs.Effects.{is_sending}
use Rattle.mh_model.specs.Saying.{event_numbered}
use Rattle.mh_model.specs.Service.{Service}
use Rattle.mh_laws.specs.Active.{active_actions}
use Rattle.mh_laws.specs.Costs.{data_sent}
use Rattle.mh_laws.specs.Flow.{Flow}
use Rattle.mh_never.specs.Saying.{is_number, is_usual}
use Rattle.mh_laws.specs.Ways.{Told, Sure, Unsure}
use Rattle.mh_alive.specs.declared.sendings.Sending.{Sending}

-- two that are one, as keys of a set are compared
abbrev pub same_sending : Sending → Sending → Bool
same_sending a b = a.kind == b.kind && a.sort == b.sort && int_eq a.number b.number

-- an event of a type, and its data: by a sort, 0 where it may be any, 1 where there is none, 2 and 3 where it is false and
-- true, 4 where it is the number
abbrev pub sending : ℕ → ℕ → ℤ → Sending
sending k s n = record { kind = k; sort = s; number = n }

-- what is told of data, as far as it is told apart: octets and references may be any
abbrev pub sending_of : ℕ → Told → Sending
sending_of k (Sure None) = sending k 1 (pos 0)
sending_of k (Sure (Some (value.Bool false))) = sending k 2 (pos 0)
sending_of k (Sure (Some (value.Bool true))) = sending k 3 (pos 0)
sending_of k (Sure (Some (value.Int n))) = sending k 4 n
sending_of k (Sure (Some x)) = sending k 0 (pos 0)
sending_of k Unsure = sending k 0 (pos 0)

-- what is sent with a type of this number, and with these behind it
abbrev pub sending_numbered : ℤ → List Argument → List Sending
sending_numbered n more = option_map_or (λ kind. sending_of (number_of kind) (data_sent more) ∷ []) (event_numbered n) []

-- where the type stands first of these
abbrev pub sending_typed : List Argument → List Sending
sending_typed (argument.Direct (value.Int n) ∷ more) = sending_numbered n more
sending_typed _ = []

-- what is sent with these arguments: the source, the type and perhaps data
abbrev pub sending_with : List Argument → List Sending
sending_with [] = []
sending_with (x ∷ xs) = sending_typed xs

abbrev pub sent_by : Act → List Sending
sent_by a = if is_sending a.name then sending_with a.arguments else []

-- what active actions send where they are reached
abbrev pub sent_in : Service → Config → List Sending
sent_in v c = flat_map sent_by (active_actions (present v c))

abbrev pub sent : Service → Flow → List Sending
sent v w = flat_map (sent_in v) w.configs

-- an event of this type may be sent with the data
abbrev pub is_sent : List Sending → EventType → Option Value → Bool
is_sent ss kind d =
    list_any (same_sending (sending_of (number_of kind) Unsure)) ss
    || list_any (same_sending (sending_of (number_of kind) (Sure d))) ss

-- the number of a key
abbrev pub is_key_number : ℤ → Bool
is_key_number (pos n) = nat_le 1 n && nat_le n 16 || nat_le 100 n && nat_le n 104
is_key_number (negsuc n) = false

abbrev pub is_key_data : Option Value → Bool
is_key_data (Some (value.Int n)) = is_key_number n
is_key_data _ = false

-- Data with which an event of this type comes though no action sends it. Whether a timer is set, and whether a register lets a key
-- through, is not asked here.
abbrev pub is_counted : EventType → Option Value → Bool
is_counted event.TimerFired d = is_number d
is_counted event.UserInput d = is_key_data d
is_counted kind d = is_usual kind d

-- an event of this type may come with the data
abbrev pub may_say : List Sending → EventType → Option Value → Bool
may_say ss kind d = is_counted kind d || is_sent ss kind d
