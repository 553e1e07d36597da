-- Steps of the machine, and so many of them.
use Rattle.std.specs.Prelude.{◌≡◌, ℕ, ◌+◌, ◌-◌, ◌<◌, ◌≤◌, ◌==◌, Bool, true, false, ◌&&◌, ◌||◌, if◌then◌else◌, cond, List, [], ◌∷◌, None, slice_get, suc, zero, refl}
use Rattle.std.proofs.Common.{ap, subst, ◌∙◌, sym, arith, inl, inr, Option, Some, Result, Ok, Err, OnOk, IfOk}
use Rattle.std.proofs.lemmas.Bool.Decides.{eqb_tells}
use Rattle.mh_model.specs.State.{State}
use Rattle.mh_model.specs.declared.fault.Fault.{Fault}
use Rattle.mh_model.specs.declared.item.Item.{Item}
use Rattle.mh_model.specs.declared.program.Call.{Call}
use Rattle.mh_model.specs.declared.program.Signature.{Signature}
use Rattle.mh_model.specs.Stuck.{fault_at, front_fault, stuck}
use Rattle.mh_model.specs.Receiver.{call_first, call_in, call_next}
use Rattle.mh_machine.specs.Judging.{AreAllowed}
use Rattle.mh_machine.specs.Rest.{answer_of, judged}
use Rattle.mh_machine.specs.declared.stepped.Stepped.{Stepped}
use Rattle.mh_model.specs.Step.{did, done, step, step_by, stepped, is_empty, is_idle, is_settled, advanced}
use Rattle.mh_model.specs.Limits.{most_steps}

cond_same : {X : Type 0} (b : Bool) (x : X) → cond b x x ≡ x
cond_same true x = refl
cond_same false x = refl

first_true : (a b : Bool) → (a && b) ≡ true → a ≡ true
first_true true b both = refl
first_true false b both = both

second_true : (a b : Bool) → (a && b) ≡ true → b ≡ true
second_true true b both = both
second_true false b both = cc

empty_get : {X : Type 0} (xs : List X) → is_empty xs ≡ true → slice_get xs 0 ≡ None
empty_get [] empty = refl
empty_get (x ∷ xs) empty = cc

-- with all steps counted a step changes nothing
pub stepped_full : (s : State) → s.taken ≡ most_steps → stepped s ≡ s
stepped_full s full = rw full refl

-- what the next step calls is what its first item calls
pub called_first : {E : Type 0} (ss : List Signature) (s : State) (i : Item) (answer : Result (Option Call) E) → s.ended ≡ false → slice_get s.work 0 ≡ Some i → IfOk answer (λ (call : Option Call). call ≡ call_in ss i s) → IfOk answer (λ (call : Option Call). call ≡ call_next ss s)
called_first ss s i answer runs first told =
    let opened : call_next ss s ≡ call_first ss (slice_get s.work 0) s = ap (λ (b : Bool). if b then None else call_first ss (slice_get s.work 0) s) runs in
    let same : call_next ss s ≡ call_in ss i s = opened ∙ ap (λ (m : Option Item). call_first ss m s) first in
    subst (λ (x : Option Call). IfOk answer (λ (call : Option Call). call ≡ x)) (sym same) told

step_settled : (s : State) → is_settled s ≡ true → step s ≡ s
step_settled s settled =
    elim s.ended as (λ (b : Bool). (b || is_idle s) ≡ true → (if b then s else step_by (slice_get s.work 0) (slice_get s.queue 0) s) ≡ s) [
      | true ↦ λ h. refl
      | false ↦ λ h. rw (empty_get s.work (first_true _ _ h), empty_get s.queue (second_true (is_empty s.work) _ h)) refl
    ] settled

-- where nothing is left to do a step of the run changes nothing
pub stepped_settled : (s : State) → is_settled s ≡ true → stepped s ≡ s
stepped_settled s settled = rw (step_settled s settled) (cond_same (s.taken == most_steps) s)

-- where all steps are counted only with nothing left to do, a step of the run is a step
pub stepped_room : (s : State) → (s.taken ≡ most_steps → is_settled s ≡ true) → stepped s ≡ step s
stepped_room s room = elim (eqb_tells s.taken most_steps) [
  | inl same ↦ stepped_full s same.1 ∙ sym (step_settled s (room same.1))
  | inr other ↦ rw other.0 refl
]

-- one step is made, and the others are left
pub advanced_more : (i n : ℕ) (s : State) → i < n → advanced (n - i) s ≡ advanced (n - (i + 1)) (stepped s)
unfolding advanced
advanced_more i n s less = let next : n - i ≡ suc (n - (i + 1)) = omega arith in rw next refl

-- no step is left
pub advanced_end : (i n : ℕ) (s : State) → n ≤ i → advanced (n - i) s ≡ s
unfolding advanced
advanced_end i n s over = let none : n - i ≡ 0 = omega arith in rw none refl

-- once a step changes nothing, none does
pub advanced_still : (n : ℕ) (s : State) → stepped s ≡ s → advanced n s ≡ s
unfolding advanced
advanced_still zero s still = refl
advanced_still (suc n) s still = ap (advanced n) still ∙ advanced_still n s still

-- one step more
stepped_behind : (n : ℕ) (s : State) → advanced n (stepped s) ≡ stepped (advanced n s)
unfolding advanced
stepped_behind zero s = refl
stepped_behind (suc n) s = stepped_behind n (stepped s)

pub advanced_behind : (n : ℕ) (s : State) → advanced (n + 1) s ≡ stepped (advanced n s)
unfolding advanced
advanced_behind n s =
    let next : n + 1 ≡ suc n = omega arith in
    ap (λ (k : ℕ). advanced k s) next ∙ stepped_behind n s

-- What the first item does, or does not, is the step

pub step_first : {T E : Type 0} (answer : Result T E) (s after : State) (i : Item) → s.ended ≡ false → slice_get s.work 0 ≡ Some i → OnOk answer (after ≡ did (stuck i s) i s) → OnOk answer (after ≡ step s)
step_first (Ok x) s after i ended first done = done ∙ rw (ended, first) refl
step_first (Err y) s after i ended first done = done

pub answer_first : {E : Type 0} (answer : Result Stepped E) (s : State) (i : Item) → s.ended ≡ false → slice_get s.work 0 ≡ Some i → IfOk answer (λ a. a ≡ judged (stuck i s)) → IfOk answer (λ a. a ≡ answer_of s)
answer_first (Ok x) s i ended first is = is ∙ rw (ended, first) refl
answer_first (Err y) s i ended first is = is

-- what is allowed of the state is allowed of its first item
pub allowed_first : (allows : Option Fault → Type 0) (s : State) (i : Item) → slice_get s.work 0 ≡ Some i → allows (front_fault s) → allows (stuck i s)
allowed_first allows s i first allowed = subst (λ (m : Option Item). allows (fault_at m s)) first allowed

-- before this step and before those that are left

pub allowed_more : (allows : Option Fault → Type 0) (i n : ℕ) (s : State) → i < n → AreAllowed allows (n - i) s → allows (front_fault s) × AreAllowed allows (n - (i + 1)) (stepped s)
unfolding AreAllowed
allowed_more allows i n s less allowed =
    let next : n - i ≡ suc (n - (i + 1)) = omega arith in
    subst (λ (k : ℕ). AreAllowed allows k s) next allowed

-- where items are judged, all is allowed
pub allowed_all : (n : ℕ) (s : State) → AreAllowed (λ fault. Unit {0}) n s
unfolding AreAllowed
allowed_all zero s = tt
allowed_all (suc n) s = (tt, allowed_all n (stepped s))
