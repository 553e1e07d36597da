-- Which links may be put to work: those that wait for an event which may come of its source.
use Rattle.std.specs.Prelude.{◌==◌, Bool, true, false, ◌&&◌, ◌||◌, List, [], map, filter, Option, Some}
use Rattle.std.specs.List.{flat_map, list_any}
use Rattle.indexmap.specs.IndexSet.{insert_all}
use Rattle.mh_base.specs.declared.event.EventType.{EventType}
use Rattle.mh_base.specs.declared.event.EventType.TheVariants as event
use Rattle.mh_base.specs.declared.obj_ref.ObjRef.{ObjRef}
use Rattle.mh_base.specs.declared.value.Value.{Value}
use Rattle.mh_base.specs.declared.value.Value.TheVariants as value
use Rattle.mh_group.specs.declared.attribute.Attribute.TheVariants as attribute
use Rattle.mh_group.specs.Table.{is_link}
use Rattle.mh_model.specs.declared.object.Fixed.{Fixed}
use Rattle.mh_model.specs.Property.{held, as_value, as_event}
use Rattle.mh_model.specs.Service.{Service}
use Rattle.mh_laws.specs.Flow.{Flow}
use Rattle.mh_alive.specs.declared.tellings.Telling.{Telling}
use Rattle.mh_alive.specs.declared.tellings.SetTimer.{SetTimer}
use Rattle.mh_alive.specs.Tellings.{same_telling, same_timer, set_timers, telling, told}
use Rattle.mh_alive.specs.Timers.{Timers, is_timed, timers_with}

-- what may come of which objects, and the timers that can be set
pub record Web : Type 0 where
  pub told : List Telling
  pub timers : Timers

-- events of this type are counted on of each object that can have them
abbrev pub comes_always : ObjRef → EventType → Bool
comes_always r event.IsAvailable = true
comes_always r event.ContentAvailable = true
comes_always r event.IsRunning = true
comes_always r event.IsStopped = true
comes_always r event.UserInput = r.number == 0
comes_always r event.EngineEvent = r.number == 0
comes_always r _ = false

abbrev pub is_timer : EventType → Bool
is_timer event.TimerFired = true
is_timer _ = false

-- an event of this type may come of the object, for a link that names this data
abbrev pub may_come : Web → ObjRef → EventType → Option Value → Bool
may_come x r kind d =
    comes_always r kind || list_any (same_telling (telling r kind)) x.told || (is_timer kind && is_timed x.timers r d)

abbrev pub may_hear : Web → Option Value → Option EventType → Option Value → Bool
may_hear x (Some (value.Object r)) (Some kind) d = may_come x r kind d
may_hear x _ _ d = false

-- the link may be put to work
abbrev pub is_put : Web → Fixed → Bool
is_put x p =
    is_link p.class
    && may_hear x (as_value (held attribute.EventSource p.properties)) (as_event (held attribute.EventType p.properties)) (as_value (held attribute.EventData p.properties))

abbrev pub puts_of : Web → List Fixed → List ObjRef
puts_of x ps = map (λ p. p.key) (filter (is_put x) ps)

-- what is told, and the timers
abbrev pub web_with : List Telling → List SetTimer → Web
web_with ts xs = record { told = ts; timers = timers_with xs }

abbrev pub web : Service → Flow → Web
web v w = web_with (insert_all same_telling [] (told v w)) (insert_all same_timer [] (set_timers v w))

-- the links of a service that may be put to work, where this may come
abbrev pub all_puts : Service → Web → List ObjRef
all_puts v x = flat_map (λ g. puts_of x g.1) v.groups

abbrev pub puts : Service → Flow → List ObjRef
puts v w = all_puts v (web v w)
