-- Which links may hear a timer or a key: those that wait for a timer which is set by what may be put to work, or for a key that
-- a register of their scene lets through. A timer that only links set which wait for it in vain is none of these.
use Rattle.std.specs.Prelude.{◌==◌, ℕ, zero, suc, Bool, true, false, ◌&&◌, ◌||◌, not, if◌then◌else◌, List, [], length, map, filter, Option, Some}
use Rattle.std.specs.List.{flat_map, list_any}
use Rattle.indexmap.specs.IndexSet.{insert_all}
use Rattle.mh_base.specs.declared.event.EventType.{EventType}
use Rattle.mh_base.specs.declared.event.EventType.TheVariants as event
use Rattle.mh_base.specs.declared.obj_ref.ObjRef.{ObjRef}
use Rattle.mh_base.specs.declared.value.Value.{Value}
use Rattle.mh_base.specs.declared.value.Value.TheVariants as value
use Rattle.mh_base.specs.Event.{number_of}
use Rattle.mh_group.specs.declared.attribute.Attribute.TheVariants as attribute
use Rattle.mh_group.specs.Table.{is_link}
use Rattle.mh_model.specs.declared.act.Act.{Act}
use Rattle.mh_model.specs.declared.config.Config.{Config}
use Rattle.mh_model.specs.declared.object.Fixed.{Fixed}
use Rattle.mh_model.specs.Configuration.{present}
use Rattle.mh_model.specs.Effects.{actions}
use Rattle.mh_model.specs.Property.{held, as_value, as_event}
use Rattle.mh_model.specs.Reference.{same_key}
use Rattle.mh_model.specs.Service.{Service}
use Rattle.mh_model.specs.Step.{is_empty}
use Rattle.mh_laws.specs.Active.{is_active}
use Rattle.mh_laws.specs.Flow.{Flow, Sets}
use Rattle.mh_alive.specs.declared.registers.Register.{Register}
use Rattle.mh_alive.specs.declared.sendings.Sending.{Sending}
use Rattle.mh_alive.specs.declared.settings.Setting.{Setting}
use Rattle.mh_alive.specs.declared.tellings.SetTimer.{SetTimer}
use Rattle.mh_alive.specs.Registers.{choice_of, is_let, registers, same_register}
use Rattle.mh_alive.specs.Sendings.{same_sending, sent}
use Rattle.mh_alive.specs.Tellings.{same_timer, set_by}
use Rattle.mh_alive.specs.Timers.{Timers, is_timed, timers_with}

-- SETTINGS. An action that sets a timer, by the object in whose effect it stands.

abbrev pub setting : Fixed → SetTimer → Setting
setting p t = record { by = p.key; is_link = is_link p.class; timer = t }

abbrev pub settings_by : Sets → Fixed → Act → List Setting
settings_by h p a = map (setting p) (set_by h a)

abbrev pub settings_of : Sets → Fixed → List Setting
settings_of h p = flat_map (settings_by h p) (actions p)

-- of the active among these, where those are present
abbrev pub settings_among : Sets → List Fixed → List Fixed → List Setting
settings_among h all ps = flat_map (settings_of h) (filter (is_active all) ps)

abbrev pub settings_in : Service → Flow → Config → List Setting
settings_in v w c = settings_among (w.sets c) (present v c) (present v c)

abbrev pub settings : Service → Flow → List Setting
settings v w = flat_map (settings_in v w) w.configs

-- the timers that are set, each once
abbrev pub all_timers : List Setting → List SetTimer
all_timers ss = insert_all same_timer [] (map (λ s. s.timer) ss)

-- HEARING. What is sent, which registers there may be, and which timers.
pub record Ears : Type 0 where
  pub sent : List Sending
  pub registers : List Register
  pub timers : Timers

-- an action sends an event of this type
abbrev pub sends : List Sending → EventType → Bool
sends ss kind = list_any (λ (s : Sending). s.kind == number_of kind) ss

-- a timer or a key comes, for a link that names this data; all else is not told apart here
abbrev pub may_sound : Ears → ObjRef → EventType → Option Value → Bool
may_sound x r event.TimerFired d = sends x.sent event.TimerFired || is_timed x.timers r d
may_sound x r event.UserInput d = sends x.sent event.UserInput || is_let (choice_of x.registers r) d
may_sound x r _ d = true

abbrev pub may_listen : Ears → Option Value → Option EventType → Option Value → Bool
may_listen x (Some (value.Object r)) (Some kind) d = may_sound x r kind d
may_listen x _ _ d = false

-- the link may hear what it waits for
abbrev pub is_hearing : Ears → Fixed → Bool
is_hearing x p =
    is_link p.class
    && may_listen x (as_value (held attribute.EventSource p.properties)) (as_event (held attribute.EventType p.properties)) (as_value (held attribute.EventData p.properties))

abbrev pub hearing_of : Ears → List Fixed → List ObjRef
hearing_of x ps = map (λ p. p.key) (filter (is_hearing x) ps)

-- the links of the service that may
abbrev pub hearers : Service → Ears → List ObjRef
hearers v x = insert_all same_key [] (flat_map (λ g. hearing_of x g.1) v.groups)

-- ROUNDS. A timer is there where what sets it is no link, or one that may hear with the timers so far; and so on, until no more
-- come.

abbrev pub may_set : List ObjRef → Setting → Bool
may_set rs s = not s.is_link || list_any (same_key s.by) rs

abbrev pub with_set : Ears → List Setting → Ears
with_set x ss = record x { timers = timers_with (insert_all same_timer x.timers.set (map (λ s. s.timer) ss)) }

abbrev pub settle : ℕ → Service → Ears → List Setting → Ears
settle zero v x ss = x
settle (suc n) v x ss =
    if is_empty (filter (may_set (hearers v x)) ss) then x
    else settle n v (with_set x (filter (may_set (hearers v x)) ss)) (filter (λ s. not (may_set (hearers v x) s)) ss)

-- the timers that are set elsewhere
abbrev pub outer_timers : List Setting → List SetTimer
outer_timers ts = insert_all same_timer [] (map (λ s. s.timer) (filter (λ s. not s.is_link) ts))

abbrev pub by_links : List Setting → List Setting
by_links ts = filter (λ s. s.is_link) ts

-- from these on as many rounds as may be wanted
abbrev pub settled : Service → List Sending → List Register → List Setting → Ears
settled v ss gs ts =
    settle (length (by_links ts)) v (record { sent = ss; registers = gs; timers = timers_with (outer_timers ts) }) (by_links ts)

abbrev pub ears : Service → Flow → Ears
ears v w = settled v (insert_all same_sending [] (sent v w)) (insert_all same_register [] (registers v w)) (settings v w)
