-- What every engine keeps.
use Rattle.std.specs.Prelude.{◌≡◌, ◌<◌, ◌≤◌, ◌^◌, ℕ, zero, suc, Bool, true, false, if◌then◌else◌, [], Option, Some, None, Result, Ok, Err, IfOk, OnOk, OnErr, slice_get, refl}
use Rattle.std.proofs.Common.{◌∙◌, ap, sym, subst, arith}
use Rattle.mh_model.specs.declared.file.File.{File}
use Rattle.mh_model.specs.declared.input.Input.{Input}
use Rattle.mh_model.specs.declared.input.Waiting.{Waiting}
use Rattle.mh_model.specs.declared.item.Item.{Item}
use Rattle.mh_model.specs.declared.program.Outcome.{Outcome}
use Rattle.mh_model.specs.Limits.{most_steps}
use Rattle.mh_model.specs.Receiver.{told}
use Rattle.mh_model.specs.Service.{Service}
use Rattle.mh_model.specs.State.{State, begun}
use Rattle.mh_model.specs.Step.{advanced, is_settled, obstacle, posted, preset, step, stepped}
use Rattle.mh_model.specs.Stuck.{fault_at, front_fault}
use Rattle.mh_laws.specs.Budget.{Bounds, bound_of}
use Rattle.mh_laws.specs.Safe.{IsSafe}
use Rattle.mh_laws.proofs.SafeLemmas.{safe_front, safe_stepped, safe_faultless}
use Rattle.mh_flow.specs.Solved.{Solved}
use Rattle.mh_layers.specs.Known.{top}
use Rattle.mh_verify.specs.Free.{IsAcceptedBy}
use Rattle.mh_machine.specs.Judging.{AreAllowed}
use Rattle.mh_machine.specs.Working.{IsPartly}
use Rattle.mh_machine.specs.Rest.{is_faulted, judged, answer_by, answer_of}
use Rattle.mh_machine.specs.declared.stepped.Stepped.{Stepped}
use Rattle.mh_machine.specs.declared.stepped.Stepped.TheVariants.{Ended}
use Rattle.mh_engine.specs.Play.{IsKept, IsWithin, Play, with_more}
use Rattle.mh_engine.proofs.WithinLemmas.{nothing_more, top_more, within_advanced, within_begun, within_posted, within_preset, within_safe, within_small, within_step, within_taken, within_told}

-- where the first item is not stuck, no step answers that it was
pub unfaulted : (s : State) → front_fault s ≡ None → is_faulted (answer_of s) ≡ false
unfaulted s free =
    elim s.ended as (λ (b : Bool). is_faulted (if b then Ended else answer_by (slice_get s.work 0) (slice_get s.queue 0) s) ≡ false) [
      | true ↦ refl
      | false ↦ by (slice_get s.work 0) (slice_get s.queue 0) free
    ]
  where
    by : (m : Option Item) (next : Option Waiting) → fault_at m s ≡ None → is_faulted (answer_by m next s) ≡ false
    by (Some i) next e = ap (λ f. is_faulted (judged f)) e
    by None (Some i) e = refl
    by None None e = refl

-- before each of so many steps nothing is wrong with the first item
pub safe_allowed : (n : ℕ) (s : State) → IsSafe s → AreAllowed (λ f. f ≡ None) n s
unfolding AreAllowed
safe_allowed zero s k = tt
safe_allowed (suc n) s k = (safe_front s k, safe_allowed n (stepped s) (safe_stepped s k))

-- What follows from what is kept

pub kept_safe : (p : Play) → IsKept p → p.accepted ≡ true → IsSafe p.state
kept_safe p k accepted = within_safe p.bounds p.budget p.state (k.accepted accepted)

pub kept_front : (p : Play) → IsKept p → p.accepted ≡ true → front_fault p.state ≡ None
kept_front p k accepted = safe_front p.state (kept_safe p k accepted)

pub kept_faults : (p : Play) → IsKept p → p.accepted ≡ true → p.state.faults ≡ []
kept_faults p k accepted = (safe_faultless p.state (kept_safe p k accepted)).faults

pub kept_unfaulted : (p : Play) → IsKept p → p.accepted ≡ true → is_faulted (answer_of p.state) ≡ false
kept_unfaulted p k accepted = unfaulted p.state (kept_front p k accepted)

-- nor does it, whatever else the step comes to
pub kept_faultless : {E : Type 0} (p : Play) (r : Result Stepped E) → IsKept p → IfOk r (λ a. a ≡ answer_of p.state) → IfOk r (λ a. p.accepted ≡ true → is_faulted a ≡ false)
kept_faultless {E} p (Ok a) k is = λ accepted. ap is_faulted is ∙ kept_unfaulted p k accepted
kept_faultless {E} p (Err x) k is = tt

-- of what 64 bits can count no more steps were taken than the budget has
kept_taken : (p : Play) → IsKept p → p.state.taken ≤ top → p.state.taken ≤ p.budget
kept_taken p k small = by p.accepted refl
  where
    by : (x : Bool) → p.accepted ≡ x → p.state.taken ≤ p.budget
    by true e = within_taken p.bounds p.budget p.state (k.accepted e) small
    by false e = subst (λ (n : ℕ). p.state.taken ≤ n) (sym (k.lenient e)) small

not_above : (n : ℕ) → n ≡ top → n ≤ top
not_above n e = omega (arith, e)

-- what a number of 64 bits is equal to is not above the largest
counted : (r t : ℕ) → r < 2 ^ 64 → r ≡ t → t ≤ top
counted r t small e = omega (arith, small, e)

-- so the steps that were taken, as a call tells them, are within the budget
pub kept_within : (p q : Play) (r : ℕ) → r < 2 ^ 64 → r ≡ p.state.taken → p ≡ q → IsKept p → q.state.taken ≤ q.budget
kept_within p q r small told same k = subst (λ (x : Play). x.state.taken ≤ x.budget) same (kept_taken p k (counted r p.state.taken small told))

kept_small : (p : Play) → IsKept p → p.budget ≤ top
kept_small p k = by p.accepted refl
  where
    by : (x : Bool) → p.accepted ≡ x → p.budget ≤ top
    by true e = within_small p.bounds p.budget p.state (k.accepted e)
    by false e = not_above p.budget (k.lenient e)

-- nothing is added to the budget by a move with which nothing is paid
pub kept_budget : (p : Play) → IsKept p → with_more p.budget 0 ≡ p.budget
kept_budget p k = nothing_more p.budget (kept_small p k)

-- What keeps it. An engine is made of these four.

abbrev pub Keeps : Bool → Bounds → ℕ → State → Type 0
Keeps a b n s = IsKept (record { state = s; accepted = a; bounds = b; budget = n })

pub keeps_lenient : (b : Bounds) (s : State) → Keeps false b top s
keeps_lenient b s = record { accepted = λ e. absurd cc; lenient = λ e. refl }

keeps_accepted : (v : Service) (f : Solved) (b : Bounds) (mjd : ℕ) → IsAcceptedBy v f b → Keeps true b b.start (begun v mjd)
keeps_accepted v f b mjd k = record { accepted = λ e. within_begun v f b k mjd; lenient = λ e. absurd cc }

pub keeps_begun : (v : Service) (f : Solved) (b c : Bounds) (n mjd : ℕ) (s : State) → IsAcceptedBy v f b → c ≡ b → n ≡ c.start → s ≡ begun v mjd → Keeps true c n s
keeps_begun v f b c n mjd s k same start is =
    subst (λ (x : Bounds). Keeps true x n s) (sym same)
    (subst (λ (x : ℕ). Keeps true b x s) (sym (start ∙ ap (λ (x : Bounds). x.start) same)) (subst (Keeps true b b.start) (sym is) (keeps_accepted v f b mjd k)))

-- another state with the same budget
keeps_on : (a : Bool) (b : Bounds) (n : ℕ) (s t : State) → (IsWithin b n s → IsWithin b n t) → Keeps a b n s → Keeps a b n t
keeps_on a b n s t on k = record { accepted = λ e. on (k.accepted e); lenient = k.lenient }

pub keeps_same : (a : Bool) (b : Bounds) (n : ℕ) (s t : State) → t ≡ s → Keeps a b n s → Keeps a b n t
keeps_same a b n s t is k = subst (Keeps a b n) (sym is) k

pub keeps_posted : (a : Bool) (b : Bounds) (n m : ℕ) (s t : State) (i : Input) → obstacle i s ≡ None → t ≡ posted i s → m ≡ with_more n (bound_of b i) → Keeps a b n s → Keeps a b m t
keeps_posted a b n m s t i free is more k = record {
  accepted = λ e.
      subst (λ (x : ℕ). IsWithin b x t) (sym more)
      (subst (IsWithin b (with_more n (bound_of b i))) (sym is) (within_posted b n s i free (k.accepted e)));
  lenient = λ e. more ∙ ap (λ (x : ℕ). with_more x (bound_of b i)) (k.lenient e) ∙ top_more (bound_of b i);
}

pub keeps_step : (a : Bool) (b : Bounds) (n : ℕ) (s t : State) → (s.taken ≡ most_steps → is_settled s ≡ true) → t ≡ step s → Keeps a b n s → Keeps a b n t
keeps_step a b n s t room is k = subst (Keeps a b n) (sym is) (keeps_on a b n s (step s) (within_step b n s room) k)

pub keeps_preset : (a : Bool) (b : Bounds) (n : ℕ) (s t : State) (f : File) → t ≡ preset f s → Keeps a b n s → Keeps a b n t
keeps_preset a b n s t f is k = subst (Keeps a b n) (sym is) (keeps_on a b n s (preset f s) (within_preset f b n s) k)

-- a step that was made or not, and a file that was preset or not

pub keeps_either_step : {A E : Type 0} (a : Bool) (b : Bounds) (n : ℕ) (s t : State) (r : Result A E) → OnOk r (s.taken ≡ most_steps → is_settled s ≡ true) → OnOk r (t ≡ step s) → OnErr r (t ≡ s) → Keeps a b n s → Keeps a b n t
keeps_either_step {A} {E} a b n s t (Ok x) room made kept k = keeps_step a b n s t room made k
keeps_either_step {A} {E} a b n s t (Err x) room made kept k = keeps_same a b n s t kept k

pub keeps_either_preset : {A E : Type 0} (a : Bool) (b : Bounds) (n : ℕ) (s t : State) (f : File) (r : Result A E) → OnOk r (t ≡ preset f s) → OnErr r (t ≡ s) → Keeps a b n s → Keeps a b n t
keeps_either_preset {A} {E} a b n s t f (Ok x) put kept k = keeps_preset a b n s t f put k
keeps_either_preset {A} {E} a b n s t f (Err x) put kept k = keeps_same a b n s t kept k

pub keeps_told : (a : Bool) (b : Bounds) (n : ℕ) (s t : State) (o : Outcome) → t ≡ told o s → Keeps a b n s → Keeps a b n t
keeps_told a b n s t o is k = subst (Keeps a b n) (sym is) (keeps_on a b n s (told o s) (within_told o b n s) k)

-- so many steps, or some of them

keeps_advanced : (m : ℕ) (a : Bool) (b : Bounds) (n : ℕ) (s t : State) → t ≡ advanced m s → Keeps a b n s → Keeps a b n t
keeps_advanced m a b n s t is k = subst (Keeps a b n) (sym is) (keeps_on a b n s (advanced m s) (within_advanced m b n s) k)

pub keeps_either : {A E : Type 0} (m : ℕ) (a : Bool) (b : Bounds) (n : ℕ) (s t : State) (r : Result A E) → OnOk r (t ≡ advanced m s) → OnErr r (IsPartly m s t) → Keeps a b n s → Keeps a b n t
keeps_either {A} {E} m a b n s t (Ok x) all some k = keeps_advanced m a b n s t all k
keeps_either {A} {E} m a b n s t (Err x) all some k = keeps_advanced some.made a b n s t some.after_them k
