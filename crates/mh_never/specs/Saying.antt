-- What is never said. Which events come: with the data that is usual of their type, as an action that may come sends them, of
-- a timer that one sets, and for the keys that the register of a scene lets through.
use Rattle.std.specs.Prelude.{◌≡◌, ℕ, Bool, true, false, List, ◌∷◌, Option, Some, None, ℤ, pos}
use Rattle.mh_base.specs.declared.event.EventType.{EventType}
use Rattle.mh_base.specs.declared.event.EventType.TheVariants as event
use Rattle.mh_base.specs.declared.obj_ref.ObjRef.{ObjRef}
use Rattle.mh_base.specs.declared.value.Value.{Value}
use Rattle.mh_base.specs.declared.value.Value.TheVariants as value
use Rattle.mh_group.specs.declared.action_name.ActionName.TheVariants as action
use Rattle.mh_group.specs.declared.attribute.Attribute.TheVariants as attribute
use Rattle.mh_group.specs.Table.{is_scene}
use Rattle.mh_model.specs.declared.act.Act.{Act}
use Rattle.mh_model.specs.declared.act.Argument.{Argument}
use Rattle.mh_model.specs.declared.act.Argument.TheVariants as argument
use Rattle.mh_model.specs.declared.config.Config.{Config}
use Rattle.mh_model.specs.declared.event.Event.{Event}
use Rattle.mh_model.specs.declared.file.File.{File}
use Rattle.mh_model.specs.declared.input.Move.{Move}
use Rattle.mh_model.specs.declared.input.Waiting.{Waiting}
use Rattle.mh_model.specs.declared.input.Waiting.TheVariants as waiting
use Rattle.mh_model.specs.declared.item.Item.{Item}
use Rattle.mh_model.specs.declared.item.Item.TheVariants as item
use Rattle.mh_model.specs.declared.key.Key.{Key}
use Rattle.mh_model.specs.declared.object.Fixed.{Fixed}
use Rattle.mh_model.specs.declared.object.Object.{Object}
use Rattle.mh_model.specs.declared.program.Signature.{Signature}
use Rattle.mh_model.specs.Configuration.{present}
use Rattle.mh_model.specs.Key.{passes}
use Rattle.mh_model.specs.Property.{as_int, held}
use Rattle.mh_model.specs.Receiver.{IsRun, anything}
use Rattle.mh_model.specs.Reference.{group_ref}
use Rattle.mh_model.specs.Saying.{event_numbered}
use Rattle.mh_model.specs.Service.{Service}
use Rattle.mh_model.specs.State.{Objects, State}
use Rattle.mh_model.specs.Step.{key_event, register_of}
use Rattle.mh_model.specs.Time.{timer_event}
use Rattle.mh_laws.specs.Acceptable.{IsAcceptableBy}
use Rattle.mh_laws.specs.Active.{active_actions}
use Rattle.mh_laws.specs.Costs.{TimerKey, data_sent, set_by, targets}
use Rattle.mh_laws.specs.Each.{Among, Each}
use Rattle.mh_laws.specs.Flow.{Flow, reached}
use Rattle.mh_laws.specs.Headline.{begun_with}
use Rattle.mh_never.specs.Running.{Doings, any_act}
use Rattle.mh_laws.specs.Ways.{IsKnown}

abbrev pub is_truth : Option Value → Bool
is_truth (Some (value.Bool b)) = true
is_truth _ = false

abbrev pub is_number : Option Value → Bool
is_number (Some (value.Int n)) = true
is_number _ = false

abbrev pub is_none : Option Value → Bool
is_none None = true
is_none (Some v) = false

-- the data with which an event of this type comes of what is done and shown, though no action sends it
abbrev pub is_usual : EventType → Option Value → Bool
is_usual event.TestEvent d = is_truth d
is_usual event.FirstItemPresented d = is_truth d
is_usual event.LastItemPresented d = is_truth d
is_usual event.TokenMovedFrom d = is_number d
is_usual event.TokenMovedTo d = is_number d
is_usual event.HeadItems d = is_number d
is_usual event.TailItems d = is_number d
is_usual event.ItemSelected d = is_number d
is_usual event.ItemDeselected d = is_number d
is_usual event.StreamEvent d = is_number d
is_usual event.TimerFired d = false
is_usual event.EngineEvent d = is_number d
is_usual event.UserInput d = false
is_usual _ d = is_none d

abbrev pub Sayings : Type 0
Sayings = Event → Bool

abbrev pub event_by : ObjRef → EventType → Option Value → Event
event_by r kind d = record { source = r; kind = kind; «data» = d }

-- the event of a timer, by its group and its id
abbrev pub fired_by : TimerKey → Event
fired_by t = event_by (group_ref t.0) event.TimerFired (Some (value.Int t.1))

-- the register of a scene as it is written
abbrev pub first_register : Fixed → ℤ
first_register p = as_int (pos 4) (held attribute.InputEventReg p.properties)

-- Of actions those count that may come.
pub record IsSaidClosed (v : Service) (w : Flow) (comes : Doings) (says : Sayings) : Type 0 where
  pub usual : (r : ObjRef) (kind : EventType) (d : Option Value) → is_usual kind d ≡ true → says (event_by r kind d) ≡ true
  pub sent : (c : Config) → reached w c ≡ true → (a : Act) → Among (active_actions (present v c)) a → comes c a ≡ true → a.name ≡ action.SendEvent → (x : Argument) (n : ℤ) (more : List Argument) → a.arguments ≡ x ∷ argument.Direct (value.Int n) ∷ more → (kind : EventType) → event_numbered n ≡ Some kind → (r : ObjRef) (d : Option Value) → IsKnown (data_sent more) d → says (event_by r kind d) ≡ true
  pub timers : (c : Config) → reached w c ≡ true → (a : Act) → Among (active_actions (present v c)) a → comes c a ≡ true → (t : TimerKey) → Among (set_by w c a) t → says (fired_by t) ≡ true
  pub keys : (c : Config) → reached w c ≡ true → (p : Fixed) → Among (present v c) p → is_scene p.class ≡ true → (x : Key) → passes (first_register p) x ≡ true → says (key_event x p.key) ≡ true
  pub registers : (c : Config) → reached w c ≡ true → (a : Act) → Among (active_actions (present v c)) a → comes c a ≡ true → a.name ≡ action.SetInputRegister → (n : ℤ) → IsKnown (data_sent a.arguments) (Some (value.Int n)) → (r : ObjRef) → Among (targets w c a.target) r → (x : Key) → passes n x ≡ true → says (key_event x r) ≡ true

abbrev pub IsSaidIn : Sayings → Item → Type 0
IsSaidIn says (item.Emit e) = says e ≡ true
IsSaidIn says (item.Run r) = Unit {0}
IsSaidIn says (item.RunMember r) = Unit {0}
IsSaidIn says (item.Act a) = Unit {0}
IsSaidIn says (item.Prepare r) = Unit {0}
IsSaidIn says (item.Halt r) = Unit {0}
IsSaidIn says (item.HaltMember r) = Unit {0}
IsSaidIn says (item.Drop r) = Unit {0}
IsSaidIn says (item.Enter g) = Unit {0}
IsSaidIn says (item.Exchange g) = Unit {0}
IsSaidIn says item.End = Unit {0}

abbrev pub IsWaitIn : Sayings → Waiting → Type 0
IsWaitIn says (waiting.Event e) = says e ≡ true
IsWaitIn says (waiting.Input i) = Unit {0}

-- the keys that the register of a scene lets through are of the set
abbrev pub IsHeardIn : Sayings → Object → Type 0
IsHeardIn says o = is_scene o.fixed.class ≡ true → (x : Key) → passes (register_of (Some o)) x ≡ true → says (key_event x o.fixed.key) ≡ true

abbrev pub AreHeardIn : Sayings → Objects → Type 0
AreHeardIn says os = Each (IsHeardIn says) os.application × Each (IsHeardIn says) os.scene

-- what will be told, what waits, what timers will tell and the keys that are heard are of the set
pub record SaysOnly (says : Sayings) (s : State) : Type 0 where
  pub work : Each (IsSaidIn says) s.work
  pub queue : Each (IsWaitIn says) s.queue
  pub timers : Each (λ t. says (timer_event t) ≡ true) s.timers
  pub keys : AreHeardIn says s.objects

-- THE LAW. Of an acceptable service, whatever is posted and whatever programs answer, no other event ever comes.
abbrev pub NeverSays : Type 0
NeverSays =
    (v : Service) (w : Flow) → IsAcceptableBy v w → (says : Sayings) → IsSaidClosed v w any_act says →
    (mjd : ℕ) (fs : List File) (ss : List Signature) (ms : List Move) (s : State) →
    IsRun ss anything ms (begun_with v mjd fs) s → SaysOnly says s
