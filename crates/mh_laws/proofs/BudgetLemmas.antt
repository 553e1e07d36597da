-- The law: an invariant of safe states gives both, that nothing is stuck and that each step is paid for.
use Rattle.std.specs.Prelude.{◌+◌, ◌==◌, ◌∷◌, ◌≡◌, ◌≤◌, Bool, List, None, Option, Some, [], false, if◌then◌else◌, slice_get, true, ℕ}
use Rattle.std.proofs.Common.{◌∙◌, arith, refl, subst, sym}
use Rattle.mh_model.specs.declared.fault.Fault.{Fault}
use Rattle.mh_model.specs.declared.file.File.{File}
use Rattle.mh_model.specs.declared.input.Input.{Input}
use Rattle.mh_model.specs.declared.input.Input.TheVariants as input
use Rattle.mh_model.specs.declared.input.Move.{Move}
use Rattle.mh_model.specs.declared.input.Move.TheVariants as move
use Rattle.mh_model.specs.declared.input.Obstacle.{Obstacle}
use Rattle.mh_model.specs.declared.input.Waiting.{Waiting}
use Rattle.mh_model.specs.declared.input.Waiting.TheVariants as waiting
use Rattle.mh_model.specs.declared.item.Item.{Item}
use Rattle.mh_model.specs.declared.program.Call.{Call}
use Rattle.mh_model.specs.declared.program.Signature.{Signature}
use Rattle.mh_model.specs.Configuration.{present}
use Rattle.mh_model.specs.Limits.{most_steps}
use Rattle.mh_model.specs.Receiver.{IsCountedStep, IsMoved, IsStepWith, IsStepped, anything, call_next, told}
use Rattle.mh_model.specs.Service.{Service}
use Rattle.mh_model.specs.State.{State}
use Rattle.mh_model.specs.Step.{did, obstacle, posted, posted_by, step, step_by}
use Rattle.mh_laws.specs.Budget.{AreBounds, Bounds, EachIsPaid, Goes, GoesWell, IsAccepted, IsCosted, IsPaidRun, KeepsGoing, NeverWrong, NeverWrongBy, bound_of, bounds, input_cost, paid, six_costs}
use Rattle.mh_laws.specs.Costs.{Costing, item_price, work_cost}
use Rattle.mh_laws.specs.Price.{worth}
use Rattle.mh_laws.specs.Weighing.{IsAwake, CoversAll, Weights, item_cost}
use Rattle.mh_model.specs.declared.event.Event.{Event}
use Rattle.mh_model.specs.Items.{matches}
use Rattle.mh_laws.specs.Each.{Each}
use Rattle.mh_laws.specs.Weighing as weighed
use Rattle.mh_model.specs.declared.config.Config.{Config}
use Rattle.mh_model.specs.declared.item.Item.TheVariants as item
use Rattle.mh_model.specs.declared.object.Object.{Object}
use Rattle.mh_model.specs.State.{all}
use Rattle.mh_laws.specs.Budget.{left}
use Rattle.mh_laws.specs.Safe.{behind}
use Rattle.mh_laws.proofs.CoverLemmas.{unmarked, unmarked_covers}
use Rattle.mh_laws.specs.Flow.{Flow}
use Rattle.mh_laws.specs.Headline.{begun_with}
use Rattle.mh_laws.specs.Layers.{Covers, costs}
use Rattle.mh_laws.specs.Safe.{IsSafeBy, config_of, has_origin}
use Rattle.mh_laws.proofs.LayerLemmas.{layered_covers}
use Rattle.mh_laws.proofs.MindLemmas.{Minds, attends_of, posted_minds, step_minds}
use Rattle.mh_laws.proofs.PriceLemmas.{le_same}
use Rattle.mh_laws.proofs.ReadyLemmas.{IsMayItem, first_item, free_first, ready_item, ready_state}
use Rattle.mh_laws.proofs.RunLemmas.{IsKept, done_serves, posted_spent, spent, step_spent, took_serves}
use Rattle.mh_laws.proofs.SafeLemmas.{safe_faultless}
use Rattle.mh_laws.proofs.StepLemmas.{safe_by_begun_with, safe_by_posted, safe_by_step, safe_by_told}
use Rattle.mh_laws.proofs.TakenCostLemmas.{IsFromHere}
use Rattle.mh_laws.proofs.TakenLemmas.{first_waits}

-- the state is one of a run of the service
pub record Plays (v : Service) (w : Flow) (s : State) : Type 0 where
  pub safe : IsSafeBy w s
  pub minds : Minds w s
  pub service : s.service ≡ v

pub plays_of : (v : Service) (w : Flow) (f : Costing) (b : Bounds) (budget : ℕ) (s : State) → Goes v w f b budget s → Plays v w s
plays_of v w f b budget s g = record { safe = g.safe; minds = record { timers = g.timers; readers = g.readers; late = g.late; awaited = g.awaited }; service = g.service }

-- Where nothing is marked the weights are the costs.

item_same : (v : Service) (w : Flow) (f : Costing) (c : Config) (i : Item) → item_cost v w (unmarked f) c i ≡ worth f (item_price v w c i)
item_same v w f c (item.Act a) = plus_none (worth f (item_price v w c (item.Act a)))
  where
    plus_none : (n : ℕ) → n + 0 ≡ n
    plus_none n = omega arith
item_same v w f c (item.Prepare r) = refl
item_same v w f c (item.Run r) = refl
item_same v w f c (item.Halt r) = refl
item_same v w f c (item.RunMember r) = refl
item_same v w f c (item.HaltMember r) = refl
item_same v w f c (item.Drop r) = refl
item_same v w f c (item.Emit e) = refl
item_same v w f c (item.Enter g) = refl
item_same v w f c (item.Exchange g) = refl
item_same v w f c item.End = refl

work_same : (v : Service) (w : Flow) (f : Costing) (c : Config) (is : List Item) → weighed.work_cost v w (unmarked f) c is ≡ work_cost v w f c is
work_same v w f c [] = refl
work_same v w f c (i ∷ is) = let own = item_same v w f c i in let rest = work_same v w f (behind v c i) is in omega (arith, own, rest)

spent_same : (w : Flow) (f : Costing) (b : Bounds) (s : State) → spent w (unmarked f) b s ≡ s.taken + left w f b s
spent_same w f b s = let same = work_same s.service w f (config_of s) s.work in omega (arith, same)

goes_of : (v : Service) (w : Flow) (f : Costing) (b : Bounds) (budget : ℕ) (s : State) → Plays v w s → spent w (unmarked f) b s ≤ budget → Goes v w f b budget s
goes_of v w f b budget s p h = record { safe = p.safe; service = p.service; timers = (p.minds).timers; readers = (p.minds).readers; late = (p.minds).late; awaited = (p.minds).awaited; within = let same = spent_same w f b s in omega (arith, h, same) }

spent_of : (v : Service) (w : Flow) (f : Costing) (b : Bounds) (budget : ℕ) (s : State) → Goes v w f b budget s → spent w (unmarked f) b s ≤ budget
spent_of v w f b budget s g = let same = spent_same w f b s in let h = g.within in omega (arith, h, same)

-- A step plays the same service.
pub step_serves : {w : Flow} (s : State) → IsSafeBy w s → (step s).service ≡ s.service
step_serves {w} s k = unless_ended s.ended
  where
    by : (m : Option Item) (x : Option Waiting) → slice_get s.work 0 ≡ m → (step_by m x s).service ≡ s.service
    by None None e = refl
    by None (Some x) e = took_serves x s
    by (Some i) x e = subst (λ (m : Option Fault). (did m i s).service ≡ s.service) (sym (free_first s k i e)) (done_serves i s)

    unless_ended : (t : Bool) → (if t then s else step_by (slice_get s.work 0) (slice_get s.queue 0) s).service ≡ s.service
    unless_ended true = refl
    unless_ended false = by (slice_get s.work 0) (slice_get s.queue 0) refl

pub posted_serves : (i : Input) (s : State) → (posted i s).service ≡ s.service
posted_serves i s = by (obstacle i s)
  where
    by : (m : Option Obstacle) → (posted_by m i s).service ≡ s.service
    by None = refl
    by (Some o) = refl

abbrev pub IsMayWait : Weights → Waiting → Type 0
IsMayWait f (waiting.Event e) = f.may e ≡ true
IsMayWait f (waiting.Input i) = Unit {0}

may_wait : (f : Costing) (x : Waiting) → IsMayWait (unmarked f) x
may_wait f (waiting.Event e) = refl
may_wait f (waiting.Input i) = tt

pub from_here : (f : Weights) (s : State) (x : Waiting) → has_origin (present s.service (config_of s)) x ≡ true → IsMayWait f x → IsFromHere f s x
from_here f s (waiting.Event e) h m = (h, m)
from_here f s (waiting.Input i) h m = tt

covers_of : (v : Service) (w : Flow) (f : Costing) (b : Bounds) → IsCosted v w f b → (s : State) → Plays v w s → CoversAll s.service w (unmarked f)
covers_of v w f b k s p = unmarked_covers s.service w f (subst (λ (x : Service). Covers x w f) (sym p.service) k.covers)

all_awake : (f : Costing) (s : State) → IsAwake (unmarked f) s
all_awake f s = record { heard = λ e h. each (all s.objects) e; keys = λ x g there heard. refl; engine = λ n. refl }
  where
    each : (os : List Object) (e : Event) → Each (λ (o : Object). matches e o ≡ true → true ≡ true) os
    each [] e = tt
    each (o ∷ os) e = (λ h. refl, each os e)

may_item : (f : Costing) (i : Item) → IsMayItem (unmarked f) i
may_item f (item.Emit e) = refl
may_item f (item.Act a) = tt
may_item f (item.Prepare r) = tt
may_item f (item.Run r) = tt
may_item f (item.Halt r) = tt
may_item f (item.RunMember r) = tt
may_item f (item.HaltMember r) = tt
may_item f (item.Drop r) = tt
may_item f (item.Enter g) = tt
may_item f (item.Exchange g) = tt
may_item f item.End = tt

plays_on : (v : Service) (w : Flow) (f : Costing) (b : Bounds) → IsCosted v w f b → IsKept w (unmarked f) b (Plays v w)
plays_on v w f b k = record {
  readied = record {
    ready = λ s p. ready_state (unmarked f) s p.safe (covers_of v w f b k s p) (all_awake f s);
    attends = λ s p. attends_of w s p.safe p.minds;
    bounds = λ s p. subst (λ (x : Service). AreBounds x w f b) (sym p.service) k.bounds;
    item = λ s p i e. ready_item (unmarked f) s p.safe (covers_of v w f b k s p) (all_awake f s) i (may_item f i) (first_item s p.safe i e);
    free = λ s p i e. free_first s p.safe i e;
    waits = λ s p x e. from_here (unmarked f) s x (first_waits (present s.service (config_of s)) s.queue x e (p.safe).queue).0 (may_wait f x);
  };
  told = λ s p o. record { safe = safe_by_told s p.safe o; minds = record { timers = (p.minds).timers; readers = (p.minds).readers; late = (p.minds).late; awaited = (p.minds).awaited }; service = p.service };
  stepped = λ s p. record { safe = safe_by_step s p.safe; minds = step_minds w s p.safe p.minds; service = step_serves s p.safe ∙ p.service };
  posted = λ s p i. record { safe = safe_by_posted s p.safe i; minds = posted_minds w s i p.minds; service = posted_serves i s ∙ p.service };
}

pub start_sum : (a n : ℕ) → a ≤ n → 0 + (a + 0 + 0) ≤ n
start_sum a n h = omega (arith, h)

pub each_is_paid : EachIsPaid
each_is_paid b ss [] n s t so = (n, (so, refl))
each_is_paid b ss (x ∷ ms) n s t so =
    let rest = each_is_paid b ss ms (n + paid b x s) so.0 t so.2 in
    (rest.0, (so.0, so.1, rest.1))

-- the start

pub goes_begun : (v : Service) (w : Flow) (f : Costing) (b : Bounds) → IsCosted v w f b → (mjd : ℕ) (fs : List File) → Goes v w f b b.start (begun_with v mjd fs)
goes_begun v w f b k mjd fs = record {
  safe = safe_by_begun_with v k.acceptable mjd fs;
  service = refl;
  timers = λ x. none _;
  readers = refl;
  late = λ g h. h;
  awaited = tt;
  within = let enough = (k.bounds).start in start_sum _ _ enough;
}
  where
    none : (n : ℕ) → 0 ≤ n
    none n = omega arith

-- a move

goes_stepped : (v : Service) (w : Flow) (f : Costing) (b : Bounds) → IsCosted v w f b → (ss : List Signature) (budget : ℕ) (s t : State) → Goes v w f b budget s → IsStepped ss anything s t → Goes v w f b budget t
goes_stepped v w f b k ss budget s t g so = by (s.taken == most_steps) so
  where
    kept : IsKept w (unmarked f) b (Plays v w)
    kept = plays_on v w f b k

    on : (u : State) → Plays v w u → spent w (unmarked f) b u ≤ budget → Goes v w f b budget (step u)
    on u p h = goes_of v w f b budget (step u) (kept.stepped u p) (let less = step_spent w (unmarked f) b (Plays v w) kept.readied u p in omega (arith, less, h))

    with : (c : Option Call) → IsStepWith anything c s t → Goes v w f b budget t
    with None e = subst (Goes v w f b budget) (sym e) (on s (plays_of v w f b budget s g) (spent_of v w f b budget s g))
    with (Some c) e = subst (Goes v w f b budget) (sym e.2) (on (told e.0 s) (kept.told s (plays_of v w f b budget s g) e.0) (spent_of v w f b budget s g))

    by : (x : Bool) → IsCountedStep x ss anything s t → Goes v w f b budget t
    by true e = subst (Goes v w f b budget) (sym e) g
    by false e = with (call_next ss s) e

goes_moved : (v : Service) (w : Flow) (f : Costing) (b : Bounds) → IsCosted v w f b → (ss : List Signature) (m : Move) (budget : ℕ) (s t : State) → Goes v w f b budget s → IsMoved ss anything m s t → Goes v w f b (budget + paid b m s) t
goes_moved v w f b k ss (move.Post i) budget s t g so =
    subst (Goes v w f b (budget + paid b (move.Post i) s)) (sym so)
    (goes_of v w f b (budget + paid b (move.Post i) s) (posted i s) ((plays_on v w f b k).posted s (plays_of v w f b budget s g) i)
    (let more = posted_spent w (unmarked f) b s i (obstacle i s) in let before = spent_of v w f b budget s g in omega (arith, more, before)))
goes_moved v w f b k ss move.Step budget s t g so =
    let next = goes_stepped v w f b k ss budget s t g so in
    goes_of v w f b (budget + 0) t (plays_of v w f b budget t next) (let h = spent_of v w f b budget t next in omega (arith, h))

-- where it holds all is well
goes_well : (v : Service) (w : Flow) (f : Costing) (b : Bounds) (budget : ℕ) (s : State) → Goes v w f b budget s → GoesWell budget s
goes_well v w f b budget s g = record { faultless = safe_faultless s (record { flow = w; by = g.safe }); steps = let h = g.within in omega (arith, h) }

pub keeps_going : KeepsGoing
keeps_going v w f b k = record {
  begun = goes_begun v w f b k;
  moved = goes_moved v w f b k;
  well = goes_well v w f b;
}

-- a run

pub goes_run : (v : Service) (w : Flow) (f : Costing) (b : Bounds) → IsCosted v w f b → (ss : List Signature) (ms : List Move) (n m : ℕ) (s t : State) → Goes v w f b n s → IsPaidRun b ss anything ms n s m t → Goes v w f b m t
goes_run v w f b k ss [] n m s t g so = subst (λ (x : State). Goes v w f b m x) (sym so.0) (subst (λ (x : ℕ). Goes v w f b x s) (sym so.1) g)
goes_run v w f b k ss (x ∷ ms) n m s t g so = goes_run v w f b k ss ms (n + paid b x s) m so.0 t (goes_moved v w f b k ss x n s so.0 g so.1) so.2

pub never_wrong_by : NeverWrongBy
never_wrong_by v w f b k mjd fs ss ms budget s so =
    goes_well v w f b budget s (goes_run v w f b k ss ms b.start budget (begun_with v mjd fs) s (goes_begun v w f b k mjd fs) so)

-- the six costs are bounds
pub six_bounds : (v : Service) (w : Flow) (f : Costing) → AreBounds v w f (six_costs v w f)
six_bounds v w f = record { start = le_same _; inputs = inputs_of }
  where
    inputs_of : (i : Input) → input_cost v w f i ≤ bound_of (six_costs v w f) i
    inputs_of (input.Key k) = le_same _
    inputs_of (input.Tick n) = le_same _
    inputs_of (input.Stream n) = le_same _
    inputs_of (input.Engine n) = le_same _
    inputs_of (input.Arrive x) = le_same _
    inputs_of (input.Scene g x) = le_same _

pub accepted_costed : (most : ℕ) (v : Service) (k : IsAccepted most v) → IsCosted v k.flow (costs v k.flow k.rank) (bounds k)
accepted_costed most v k = record {
  acceptable = k.acceptable;
  covers = layered_covers v k.flow k.rank (k.acceptable).service k.layering;
  bounds = six_bounds v k.flow (costs v k.flow k.rank);
}

-- accepted services never go wrong and settle
pub never_wrong : NeverWrong
never_wrong most v k = never_wrong_by v k.flow (costs v k.flow k.rank) (bounds k) (accepted_costed most v k)
