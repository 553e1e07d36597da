-- The law of steps: from an accepted service nothing ever goes wrong, and it settles. No state of any run is stuck, and the
-- steps that were taken are at most what the start costs and what each input is bound to that was accepted.
use Rattle.std.specs.Prelude.{◌≡◌, ◌⊎◌, ◌≤◌, ℕ, ◌+◌, Bool, true, List, [], ◌∷◌, map, Option, Some, None, pos}
use Rattle.std.specs.List.{list_all, list_any}
use Rattle.mh_model.specs.declared.config.Config.{Config}
use Rattle.mh_model.specs.declared.file.File.{File}
use Rattle.mh_model.specs.declared.file.Wait.{Wait}
use Rattle.mh_model.specs.declared.input.Input.{Input}
use Rattle.mh_model.specs.declared.input.Input.TheVariants as input
use Rattle.mh_model.specs.declared.input.Move.{Move}
use Rattle.mh_model.specs.declared.input.Move.TheVariants as move
use Rattle.mh_model.specs.declared.input.Obstacle.{Obstacle}
use Rattle.mh_model.specs.declared.input.Waiting.{Waiting}
use Rattle.mh_model.specs.declared.input.Waiting.TheVariants as waiting
use Rattle.mh_model.specs.declared.key.Key.TheVariants as key
use Rattle.mh_model.specs.declared.object.Fixed.{Fixed}
use Rattle.mh_model.specs.declared.program.Call.{Call}
use Rattle.mh_model.specs.declared.program.Outcome.{Outcome}
use Rattle.mh_model.specs.declared.program.Signature.{Signature}
use Rattle.mh_model.specs.declared.time.Timer.{Timer}
use Rattle.mh_model.specs.declared.transition.Transition.{Transition}
use Rattle.mh_model.specs.declared.transition.Transition.TheVariants as transition
use Rattle.mh_model.specs.Configuration.{present, starting}
use Rattle.mh_model.specs.Known.{class_at}
use Rattle.mh_model.specs.Late.{is_late_scene}
use Rattle.mh_model.specs.Limits.{most_steps}
use Rattle.mh_model.specs.Receiver.{IsMoved, IsRun, IsAdvanced, anything}
use Rattle.mh_model.specs.Service.{Service}
use Rattle.mh_model.specs.State.{State}
use Rattle.mh_model.specs.Step.{obstacle, is_settled}
use Rattle.mh_laws.specs.Acceptable.{IsAcceptableBy}
use Rattle.mh_laws.specs.Costs.{Costing, Effect, TimerKey, enter, entry, input_price, is_reader, late_scenes, same_timer, set_timers, work_cost}
use Rattle.mh_laws.specs.Each.{Among}
use Rattle.mh_laws.specs.Flow.{Flow}
use Rattle.mh_laws.specs.Headline.{IsFaultless, begun_with}
use Rattle.mh_laws.specs.Layers.{Covers, IsLayering, costs}
use Rattle.mh_laws.specs.Price.{most_price, worth}
use Rattle.mh_laws.specs.Safe.{IsSafeBy, config_of}
use Rattle.mh_laws.specs.Ways.{Sure, once}

-- The six costs

pub record Bounds : Type 0 where
  pub start : ℕ
  pub key : ℕ
  pub tick : ℕ
  pub stream : ℕ
  pub engine : ℕ
  pub arrive : ℕ

-- the bound of an input, by its kind
abbrev pub bound_of : Bounds → Input → ℕ
bound_of b (input.Key k) = b.key
bound_of b (input.Tick n) = b.tick
bound_of b (input.Stream n) = b.stream
bound_of b (input.Engine n) = b.engine
bound_of b (input.Arrive f) = b.arrive
bound_of b (input.Scene g x) = b.arrive

-- what the start costs
abbrev pub start_cost : Service → Flow → Costing → ℕ
start_cost v w f = worth f (enter v w (starting v) v.start)

-- what an input costs, in the costliest configuration
abbrev pub input_cost : Service → Flow → Costing → Input → ℕ
input_cost v w f i = worth f (most_price (λ c. input_price v w c i) w.configs)

abbrev pub six_costs : Service → Flow → Costing → Bounds
six_costs v w f = record {
  start = start_cost v w f;
  key = input_cost v w f (input.Key key.Red);
  tick = input_cost v w f (input.Tick 0);
  stream = input_cost v w f (input.Stream (pos 0));
  engine = input_cost v w f (input.Engine (pos 0));
  arrive = input_cost v w f (input.Arrive (record { name = []; content = [] }));
}

pub record AreSmall (most : ℕ) (b : Bounds) : Type 0 where
  pub start : b.start ≤ most
  pub key : b.key ≤ most
  pub tick : b.tick ≤ most
  pub stream : b.stream ≤ most
  pub engine : b.engine ≤ most
  pub arrive : b.arrive ≤ most

-- Accepted services

-- a service is accepted where there are a flow by which it is acceptable, and a layering of its effects, under which none
-- of the six costs is above the most that is allowed
pub record IsAccepted (most : ℕ) (v : Service) : Type 0 where
  pub flow : Flow
  pub acceptable : IsAcceptableBy v flow
  pub rank : Effect → ℕ
  pub layering : IsLayering v flow rank
  pub small : AreSmall most (six_costs v flow (costs v flow rank))

abbrev pub bounds : {most : ℕ} {v : Service} → IsAccepted most v → Bounds
bounds {most} {v} k = six_costs v k.flow (costs v k.flow k.rank)

-- Runs with a budget

-- a move adds the bound of its input, if that is accepted

abbrev pub paid_unless : Option Obstacle → ℕ → ℕ
paid_unless None n = n
paid_unless (Some o) n = 0

abbrev pub paid : Bounds → Move → State → ℕ
paid b (move.Post i) s = paid_unless (obstacle i s) (bound_of b i)
paid b move.Step s = 0

-- a run from the first state to the second, with the budget before it and the one behind it
abbrev pub IsPaidRun : Bounds → List Signature → (Call → Outcome → Type 0) → List Move → ℕ → State → ℕ → State → Type 0
IsPaidRun b ss may [] n s m t = (t ≡ s) × (m ≡ n)
IsPaidRun b ss may (x ∷ ms) n s m t = (u : State) × IsMoved ss may x s u × IsPaidRun b ss may ms (n + paid b x s) u m t

-- each run has a budget
abbrev pub EachIsPaid : Type 0
EachIsPaid =
    (b : Bounds) (ss : List Signature) (ms : List Move) (n : ℕ) (s t : State) → IsRun ss anything ms s t →
    (m : ℕ) × IsPaidRun b ss anything ms n s m t

-- The law

-- nothing is stuck and nothing was, and no more steps were taken than the budget allows
pub record GoesWell (budget : ℕ) (s : State) : Type 0 where
  pub faultless : IsFaultless s
  pub steps : s.taken ≤ budget

-- THE LAW. Whatever is posted, whatever programs answer, however far it is run: nothing is stuck, and the steps taken are at
-- most the cost of the start and the bounds of the inputs that were accepted.
abbrev pub NeverWrong : Type 0
NeverWrong =
    (most : ℕ) (v : Service) (k : IsAccepted most v) (mjd : ℕ) (fs : List File) (ss : List Signature) (ms : List Move)
    (budget : ℕ) (s : State) →
    IsPaidRun (bounds k) ss anything ms (bounds k).start (begun_with v mjd fs) budget s → GoesWell budget s

-- nothing is left to do, or all steps are taken that are counted
abbrev pub IsDone : State → Type 0
IsDone s = (is_settled s ≡ true) ⊎ (s.taken ≡ most_steps)

-- AND IT SETTLES. After as many steps as are left of the budget, with nothing posted, nothing is left to do.
abbrev pub Settles : Type 0
Settles =
    (most : ℕ) (v : Service) (k : IsAccepted most v) (mjd : ℕ) (fs : List File) (ss : List Signature) (ms : List Move)
    (budget : ℕ) (s : State) →
    IsPaidRun (bounds k) ss anything ms (bounds k).start (begun_with v mjd fs) budget s →
    (n : ℕ) (t : State) → IsAdvanced ss anything n s t → budget ≤ s.taken + n → IsDone t

-- The same for any costs that cover and any bounds that are large enough, as code may have them

pub record AreBounds (v : Service) (w : Flow) (f : Costing) (b : Bounds) : Type 0 where
  pub start : start_cost v w f ≤ b.start
  pub inputs : (i : Input) → input_cost v w f i ≤ bound_of b i

pub record IsCosted (v : Service) (w : Flow) (f : Costing) (b : Bounds) : Type 0 where
  pub acceptable : IsAcceptableBy v w
  pub covers : Covers v w f
  pub bounds : AreBounds v w f b

abbrev pub NeverWrongBy : Type 0
NeverWrongBy =
    (v : Service) (w : Flow) (f : Costing) (b : Bounds) → IsCosted v w f b →
    (mjd : ℕ) (fs : List File) (ss : List Signature) (ms : List Move) (budget : ℕ) (s : State) →
    IsPaidRun b ss anything ms b.start (begun_with v mjd fs) budget s → GoesWell budget s

-- The invariant: what holds of each state of such a run

-- what waits in the queue: an event may be taken in any configuration, and an input comes to its bound
abbrev pub waiting_cost : Service → Flow → Costing → Bounds → Waiting → ℕ
waiting_cost v w f b (waiting.Event e) = worth f (entry v w e.source e.kind (Sure e.data))
waiting_cost v w f b (waiting.Input i) = bound_of b i

abbrev pub queue_cost : Service → Flow → Costing → Bounds → List Waiting → ℕ
queue_cost v w f b [] = 0
queue_cost v w f b (x ∷ xs) = waiting_cost v w f b x + queue_cost v w f b xs

-- what is still to be done, and what waits
abbrev pub left : Flow → Costing → Bounds → State → ℕ
left w f b s = work_cost s.service w f (config_of s) s.work + queue_cost s.service w f b s.queue

abbrev pub timer_key : Timer → TimerKey
timer_key t = (t.group, t.id)

-- how many of these are the timer
abbrev pub count_timer : TimerKey → List TimerKey → ℕ
count_timer x [] = 0
count_timer x (y ∷ ys) = once (same_timer x y) + count_timer x ys

-- each is one that can be set, and no two are the same
abbrev pub AreSettable : Service → Flow → List Timer → Type 0
AreSettable v w ts = (x : TimerKey) → count_timer x (map timer_key ts) ≤ once (list_any (same_timer x) (set_timers v w))

-- what waits for a file has content
abbrev pub can_read : List Fixed → Wait → Bool
can_read ps x = is_reader (class_at x.object ps)

-- what is still late is late at first
abbrev pub AreLate : Service → List (List ℕ) → Type 0
AreLate v gs = (g : List ℕ) → is_late_scene g gs ≡ true → is_late_scene g v.late ≡ true

-- a scene that is waited for is a late one to which an active action can lead
abbrev pub IsAwaited : Service → Flow → Config → Transition → Type 0
IsAwaited v w c transition.Rests = Unit {0}
IsAwaited v w c (transition.Awaits g) = Among (late_scenes v w c) g
IsAwaited v w c transition.Begun = Unit {0}

-- The state is a safe one of the service, its timers can be set, only what has content waits for a file, a scene that is
-- waited for is one to which an active action can lead, and what was taken and is left is within the budget.
pub record Goes (v : Service) (w : Flow) (f : Costing) (b : Bounds) (budget : ℕ) (s : State) : Type 0 where
  pub safe : IsSafeBy w s
  pub service : s.service ≡ v
  pub timers : AreSettable s.service w s.timers
  pub readers : list_all (can_read (present s.service (config_of s))) s.waits ≡ true
  pub late : AreLate s.service s.late
  pub awaited : IsAwaited s.service w (config_of s) s.transition
  pub within : s.taken + left w f b s ≤ budget

-- it holds at the start, each move keeps it, with the bound of its input where that is accepted, and where it holds all is
-- well
pub record IsInvariant (v : Service) (w : Flow) (f : Costing) (b : Bounds) : Type 0 where
  pub begun : (mjd : ℕ) (fs : List File) → Goes v w f b b.start (begun_with v mjd fs)
  pub moved :
      (ss : List Signature) (m : Move) (budget : ℕ) (s t : State) → Goes v w f b budget s → IsMoved ss anything m s t →
      Goes v w f b (budget + paid b m s) t
  pub well : (budget : ℕ) (s : State) → Goes v w f b budget s → GoesWell budget s

abbrev pub KeepsGoing : Type 0
KeepsGoing = (v : Service) (w : Flow) (f : Costing) (b : Bounds) → IsCosted v w f b → IsInvariant v w f b
