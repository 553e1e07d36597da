-- What may come to be in runs of a service, and what never does where it is accepted.
use Rattle.std.specs.Prelude.{◌≡◌, ℕ, Bool, true, false, not, List, [], Option, Some, ℤ}
use Rattle.std.specs.List.{list_any}
use Rattle.indexmap.specs.IndexSet.{insert_all}
use Rattle.mh_base.specs.declared.event.EventType.{EventType}
use Rattle.mh_base.specs.declared.obj_ref.ObjRef.{ObjRef}
use Rattle.mh_base.specs.declared.value.Value.{Value}
use Rattle.mh_model.specs.declared.event.Event.{Event}
use Rattle.mh_model.specs.declared.file.File.{File}
use Rattle.mh_model.specs.declared.input.Move.{Move}
use Rattle.mh_model.specs.declared.input.Waiting.TheVariants as waiting
use Rattle.mh_model.specs.declared.item.Item.TheVariants as item
use Rattle.mh_model.specs.declared.key.Key.{Key}
use Rattle.mh_model.specs.declared.object.Fixed.{Fixed}
use Rattle.mh_model.specs.declared.object.Object.{Object}
use Rattle.mh_model.specs.declared.program.Signature.{Signature}
use Rattle.mh_model.specs.declared.time.Timer.{Timer}
use Rattle.mh_model.specs.Configuration.{present}
use Rattle.mh_model.specs.Receiver.{IsRun, anything}
use Rattle.mh_model.specs.Reference.{group_ref, same_key}
use Rattle.mh_model.specs.Service.{Service}
use Rattle.mh_model.specs.State.{State, all}
use Rattle.mh_model.specs.Step.{engine_event, key_event}
use Rattle.mh_model.specs.Time.{timer_event}
use Rattle.mh_laws.specs.Acceptable.{IsAcceptableBy}
use Rattle.mh_laws.specs.Costs.{can_hear}
use Rattle.mh_laws.specs.Each.{Among}
use Rattle.mh_laws.specs.Flow.{Flow, reached}
use Rattle.mh_laws.specs.Headline.{begun_with}
use Rattle.mh_laws.specs.Safe.{config_of}
use Rattle.mh_laws.specs.Weighing.{hears_key}
use Rattle.mh_alive.specs.declared.sendings.Sending.{Sending}
use Rattle.mh_alive.specs.Gathering.{Gathered}
use Rattle.mh_alive.specs.Hearing.{all_timers, ears, hearers, settled}
use Rattle.mh_alive.specs.Puts.{all_puts, puts, web_with}
use Rattle.mh_alive.specs.Runners.{runners}
use Rattle.mh_alive.specs.Sendings.{may_say, same_sending, sent}

-- each of these once
pub record Alive : Type 0 where
  -- what may run
  pub runners : List ObjRef
  -- what is sent
  pub sent : List Sending
  -- the links that may be put to work
  pub puts : List ObjRef
  -- the links that may hear a timer or a key, or wait for something else
  pub hearers : List ObjRef

-- what is made of what was gathered
abbrev pub alive_with : Service → Gathered → Alive
alive_with v g = record {
  runners = g.runners;
  sent = g.sent;
  puts = insert_all same_key [] (all_puts v (web_with g.told (all_timers g.settings)));
  hearers = hearers v (settled v g.sent g.registers g.settings);
}

-- they are those of the service, by its flow
pub record IsAliveOf (v : Service) (w : Flow) (a : Alive) : Type 0 where
  pub runners : a.runners ≡ insert_all same_key [] (runners v w)
  pub sent : a.sent ≡ insert_all same_sending [] (sent v w)
  pub puts : a.puts ≡ insert_all same_key [] (puts v w)
  pub hearers : a.hearers ≡ hearers v (ears v w)

-- What never happens, by these sets

abbrev pub never_runs : Alive → ObjRef → Bool
never_runs a r = not (list_any (same_key r) a.runners)

abbrev pub never_says : Alive → EventType → Option Value → Bool
never_says a kind d = not (may_say a.sent kind d)

abbrev pub never_put : Alive → ObjRef → Bool
never_put a r = not (list_any (same_key r) a.puts)

abbrev pub never_hears : Alive → ObjRef → Bool
never_hears a r = not (list_any (same_key r) a.hearers)

-- What that means: in no state of any run, whatever the day, the files that are there, what is posted and whenever, which
-- programs the receiver has and what they answer.

abbrev pub InEachRun : Service → (State → Type 0) → Type 0
InEachRun v P =
    (mjd : ℕ) (fs : List File) (ss : List Signature) (ms : List Move) (s : State) →
    IsRun ss anything ms (begun_with v mjd fs) s → P s

-- no object at the reference is running
abbrev pub IsStill : ObjRef → State → Type 0
IsStill r s = (o : Object) → Among (all s.objects) o → o.fixed.key ≡ r → o.body.running ≡ false

abbrev pub IsOther : EventType → Option Value → Event → Type 0
IsOther kind d e = e.kind ≡ kind → e.data ≡ d → false ≡ true

-- neither among what will be done nor among what waits is an event of this type with this data, nor is that of a key or of the
-- engine's number, which links hear without its being among these
pub record IsUnsaid (kind : EventType) (d : Option Value) (s : State) : Type 0 where
  pub work : (e : Event) → Among s.work (item.Emit e) → IsOther kind d e
  pub queue : (e : Event) → Among s.queue (waiting.Event e) → IsOther kind d e
  pub keys : (x : Key) (r : ObjRef) → IsOther kind d (key_event x r)
  pub engine : (n : ℤ) (g : List ℕ) → IsOther kind d (engine_event n g)

abbrev pub IsUnheard : Fixed → Event → Type 0
IsUnheard p e = can_hear e p ≡ false

-- It hears nothing that can come next: no event among what will be done or among what waits, none of a timer that is set, no key
-- that the register of the scene lets through, and no number of the engine.
pub record IsDeaf (p : Fixed) (s : State) : Type 0 where
  pub work : (e : Event) → Among s.work (item.Emit e) → IsUnheard p e
  pub queue : (e : Event) → Among s.queue (waiting.Event e) → IsUnheard p e
  pub timers : (t : Timer) → Among s.timers t → IsUnheard p (timer_event t)
  pub keys : (x : Key) (g : List ℕ) → s.scene ≡ Some g → hears_key s g x ≡ true → IsUnheard p (key_event x (group_ref g))
  pub engine : (n : ℤ) → IsUnheard p (engine_event n s.application)

-- and so it is with what the files say is present at the reference
abbrev pub IsDeafAt : Service → ObjRef → State → Type 0
IsDeafAt v r s = (p : Fixed) → Among (present v (config_of s)) p → p.key ≡ r → IsDeaf p s

-- THE LAW. Of an acceptable service each state of each run is in a configuration that the flow reaches.
abbrev pub StaysReached : Type 0
StaysReached = (v : Service) (w : Flow) → IsAcceptableBy v w → InEachRun v (λ s. reached w (config_of s) ≡ true)
