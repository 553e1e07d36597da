-- States that go well with a budget: at the start, behind a move, and behind what is none.
use Rattle.std.specs.Prelude.{◌≡◌, ◌≤◌, ℕ, zero, suc, ◌+◌, min, true, List, [], Option, None, refl}
use Rattle.std.proofs.Common.{◌∙◌, ap, sym, subst, arith}
use Rattle.std.proofs.Math.Nat.{min-eq_left, min-eq_right, min-le_right}
use Rattle.mh_model.specs.declared.file.File.{File}
use Rattle.mh_model.specs.declared.input.Input.{Input}
use Rattle.mh_model.specs.declared.input.Move.{Move}
use Rattle.mh_model.specs.declared.input.Move.TheVariants as move
use Rattle.mh_model.specs.declared.input.Obstacle.{Obstacle}
use Rattle.mh_model.specs.declared.program.Outcome.{Outcome}
use Rattle.mh_model.specs.declared.program.Signature.{Signature}
use Rattle.mh_model.specs.Limits.{most_steps}
use Rattle.mh_model.specs.Receiver.{IsMoved, anything, told}
use Rattle.mh_model.specs.Service.{Service}
use Rattle.mh_model.specs.State.{State, begun}
use Rattle.mh_model.specs.Step.{advanced, is_settled, obstacle, posted, preset, step, stepped}
use Rattle.mh_laws.specs.Budget.{Bounds, IsAccepted, bound_of, bounds, paid, paid_unless}
use Rattle.mh_laws.specs.Layers.{costs}
use Rattle.mh_laws.specs.Safe.{IsSafe}
use Rattle.mh_laws.proofs.BudgetLemmas.{accepted_costed, goes_begun, keeps_going}
use Rattle.mh_laws.proofs.ReceiverLemmas.{stepped_alone}
use Rattle.mh_laws.proofs.StepLemmas.{safe_by_preset, safe_by_told}
use Rattle.mh_flow.specs.Solved.{Solved}
use Rattle.mh_layers.specs.Known.{top}
use Rattle.mh_verify.specs.Free.{IsAcceptedBy, most_cost}
use Rattle.mh_machine.proofs.StepLemmas.{stepped_room}
use Rattle.mh_engine.specs.Play.{IsWithin, budget_behind, with_more}

-- Numbers that are cut

cut_small : (n : ℕ) → n ≤ 1000000 → n ≡ min n top
cut_small n h = let small : n ≤ top = omega (arith, h) in sym (min-eq_left small)

cut_more : (steps x : ℕ) → min (min steps top + x) top ≡ min (steps + x) top
cut_more steps x = omega arith

-- nothing is added to a number that is not above the largest
pub nothing_more : (n : ℕ) → n ≤ top → with_more n 0 ≡ n
nothing_more n h = let small : n + 0 ≤ top = omega (arith, h) in min-eq_left small ∙ (let same : n + 0 ≡ n = omega arith in same)

-- and whatever is added to the largest
pub top_more : (n : ℕ) → with_more top n ≡ top
top_more n = let large : top ≤ top + n = omega arith in min-eq_right large

-- What holds of a state within its budget

pub within_safe : (b : Bounds) (n : ℕ) (s : State) → IsWithin b n s → IsSafe s
within_safe b n s k = record { flow = k.flow; by = k.goes.safe }

pub within_small : (b : Bounds) (n : ℕ) (s : State) → IsWithin b n s → n ≤ top
within_small b n s k = subst (λ (x : ℕ). x ≤ top) (sym k.capped) (min-le_right k.steps top)

taken_within : (t steps n : ℕ) → t ≤ steps → t ≤ top → n ≡ min steps top → t ≤ n
taken_within t steps n h small e = omega (arith, h, small, e)

-- of what 64 bits can count no more was taken
pub within_taken : (b : Bounds) (n : ℕ) (s : State) → IsWithin b n s → s.taken ≤ top → s.taken ≤ n
within_taken b n s k small =
    taken_within s.taken k.steps n ((keeps_going k.service k.flow k.cost b k.costed).well k.steps s k.goes).steps small k.capped

-- The start

start_within : (v : Service) (k : IsAccepted most_cost v) (mjd : ℕ) → IsWithin (bounds k) (bounds k).start (begun v mjd)
start_within v k mjd = record {
  service = v;
  flow = k.flow;
  cost = costs v k.flow k.rank;
  steps = (bounds k).start;
  costed = accepted_costed most_cost v k;
  goes = goes_begun v k.flow (costs v k.flow k.rank) (bounds k) (accepted_costed most_cost v k) mjd [];
  capped = cut_small (bounds k).start k.small.start;
}

pub within_begun : (v : Service) (f : Solved) (b : Bounds) → IsAcceptedBy v f b → (mjd : ℕ) → IsWithin b b.start (begun v mjd)
within_begun v f b k mjd = subst (λ (x : Bounds). IsWithin x x.start (begun v mjd)) k.bounds (start_within v k.accepted mjd)

-- Moves

pub within_moved : (ss : List Signature) (m : Move) (b : Bounds) (n : ℕ) (s t : State) → IsWithin b n s → IsMoved ss anything m s t → IsWithin b (budget_behind b m s n) t
within_moved ss m b n s t k so = record {
  service = k.service;
  flow = k.flow;
  cost = k.cost;
  steps = k.steps + paid b m s;
  costed = k.costed;
  goes = (keeps_going k.service k.flow k.cost b k.costed).moved ss m k.steps s t k.goes so;
  capped = ap (λ (x : ℕ). min (x + paid b m s) top) k.capped ∙ cut_more k.steps (paid b m s);
}

-- a post that is accepted adds the bound of its input
pub within_posted : (b : Bounds) (n : ℕ) (s : State) (i : Input) → obstacle i s ≡ None → IsWithin b n s → IsWithin b (with_more n (bound_of b i)) (posted i s)
within_posted b n s i free k =
    subst (λ (m : Option Obstacle). IsWithin b (with_more n (paid_unless m (bound_of b i))) (posted i s)) free
    (within_moved [] (move.Post i) b n s (posted i s) k refl)

-- steps add nothing

pub within_stepped : (b : Bounds) (n : ℕ) (s : State) → IsWithin b n s → IsWithin b n (stepped s)
within_stepped b n s k =
    subst (λ (x : ℕ). IsWithin b x (stepped s)) (nothing_more n (within_small b n s k))
    (within_moved [] move.Step b n s (stepped s) k (stepped_alone anything s))

pub within_step : (b : Bounds) (n : ℕ) (s : State) → (s.taken ≡ most_steps → is_settled s ≡ true) → IsWithin b n s → IsWithin b n (step s)
within_step b n s room k = subst (IsWithin b n) (stepped_room s room) (within_stepped b n s k)

pub within_advanced : (m : ℕ) (b : Bounds) (n : ℕ) (s : State) → IsWithin b n s → IsWithin b n (advanced m s)
unfolding advanced
within_advanced zero b n s k = k
within_advanced (suc m) b n s k = within_advanced m b n (stepped s) (within_stepped b n s k)

-- What is no move

pub within_preset : (f : File) (b : Bounds) (n : ℕ) (s : State) → IsWithin b n s → IsWithin b n (preset f s)
within_preset f b n s k = record {
  service = k.service;
  flow = k.flow;
  cost = k.cost;
  steps = k.steps;
  costed = k.costed;
  goes = record {
    safe = safe_by_preset f s k.goes.safe;
    service = k.goes.service;
    timers = k.goes.timers;
    readers = k.goes.readers;
    late = k.goes.late;
    awaited = k.goes.awaited;
    within = k.goes.within;
  };
  capped = k.capped;
}

pub within_told : (o : Outcome) (b : Bounds) (n : ℕ) (s : State) → IsWithin b n s → IsWithin b n (told o s)
within_told o b n s k = record {
  service = k.service;
  flow = k.flow;
  cost = k.cost;
  steps = k.steps;
  costed = k.costed;
  goes = record {
    safe = safe_by_told s k.goes.safe o;
    service = k.goes.service;
    timers = k.goes.timers;
    readers = k.goes.readers;
    late = k.goes.late;
    awaited = k.goes.awaited;
    within = k.goes.within;
  };
  capped = k.capped;
}
