-- Steps of a receiver: by what a program has said, or without a call.
use Rattle.std.specs.Prelude.{◌≡◌, ◌==◌, ◌&&◌, ◌||◌, Bool, true, false, not, if◌then◌else◌, List, [], ◌∷◌, slice_get, Option, Some, None, Result, Ok, Err, OnOk, refl}
use Rattle.std.proofs.Common.{sym, subst}
use Rattle.std.proofs.lemmas.Bool.{eqb-true}
use Rattle.mh_model.specs.declared.item.Item.{Item}
use Rattle.mh_model.specs.declared.program.Call.{Call}
use Rattle.mh_model.specs.declared.program.Outcome.{Outcome}
use Rattle.mh_model.specs.declared.program.Signature.{Signature}
use Rattle.mh_model.specs.Receiver.{IsStep, IsStepWith, call_first, call_next, told}
use Rattle.mh_model.specs.State.{State}
use Rattle.mh_model.specs.Step.{is_empty, is_settled, step}
use Rattle.mh_model.specs.Limits.{most_steps}
use Rattle.mh_laws.proofs.ReceiverLemmas.{uncalled_step}
use Rattle.mh_machine.specs.Refusal.{is_ready}
use Rattle.mh_engine.specs.Told.{IsTold}

-- what was said of a call

pub told_some : (may : Call → Outcome → Type 0) (n : Option Call) (c : Call) (o : Outcome) → Some c ≡ n → may c o → IsTold may n (Some o)
told_some may n c o is so = subst (λ (m : Option Call). IsTold may m (Some o)) is (o, so, refl)

pub told_none : (may : Call → Outcome → Type 0) (n : Option Call) → None ≡ n → IsTold may n None
told_none may n is = subst (λ (m : Option Call). IsTold may m None) is refl

said_so : (o p : Outcome) → Some o ≡ Some p → p ≡ o
said_so o p e = cc

pub step_told_by : (may : Call → Outcome → Type 0) (n : Option Call) (s t : State) (o : Outcome) → IsTold may n (Some o) → t ≡ step (told o s) → IsStepWith may n s t
step_told_by may None s t o so is = absurd cc
step_told_by may (Some c) s t o so is = (o, subst (λ (x : Outcome). may c x) (said_so o so.0 so.2) so.1, is)

pub step_untold : (may : Call → Outcome → Type 0) (n : Option Call) (s t : State) → IsTold may n None → t ≡ step s → IsStepWith may n s t
step_untold may None s t so is = is
step_untold may (Some c) s t so is = absurd cc

-- the same of an answer

pub steps_told : {A E : Type 0} (may : Call → Outcome → Type 0) (n : Option Call) (s t : State) (o : Outcome) (r : Result A E) → IsTold may n (Some o) → OnOk r (t ≡ step (told o s)) → OnOk r (IsStepWith may n s t)
steps_told {A} {E} may n s t o (Ok a) so is = step_told_by may n s t o so is
steps_told {A} {E} may n s t o (Err e) so is = tt

pub steps_untold : {A E : Type 0} (may : Call → Outcome → Type 0) (n : Option Call) (s t : State) (r : Result A E) → IsTold may n None → OnOk r (t ≡ step s) → OnOk r (IsStepWith may n s t)
steps_untold {A} {E} may n s t (Ok a) so is = step_untold may n s t so is
steps_untold {A} {E} may n s t (Err e) so is = tt

-- where nothing is left to do, nothing is called

empty_first : (ss : List Signature) (s : State) (work : List Item) → is_empty work ≡ true → call_first ss (slice_get work 0) s ≡ None
empty_first ss s [] e = refl
empty_first ss s (i ∷ is) e = absurd cc

front_true : (a b : Bool) → (a && b) ≡ true → a ≡ true
front_true true b e = refl
front_true false b e = absurd cc

pub rest_next : (ss : List Signature) (s : State) → is_settled s ≡ true → call_next ss s ≡ None
rest_next ss s = by s.ended
  where
    by : (b : Bool) → (b || (is_empty s.work && is_empty s.queue)) ≡ true → (if b then None else call_first ss (slice_get s.work 0) s) ≡ None
    by true e = refl
    by false e = empty_first ss s s.work (front_true (is_empty s.work) (is_empty s.queue) e)

unready : (settled full : Bool) → (not settled && not full) ≡ false → (full ≡ true → settled ≡ true) → settled ≡ true
unready true full e room = refl
unready false true e room = room refl
unready false false e room = absurd cc

-- where an engine is not ready, and yet makes a step, nothing is left to do
at_rest : (s : State) → is_ready s ≡ false → (s.taken ≡ most_steps → is_settled s ≡ true) → is_settled s ≡ true
at_rest s e room =
    unready (is_settled s) (s.taken == most_steps) e (λ full. room (eqb-true s.taken most_steps full))

pub steps_resting : {A E : Type 0} (ss : List Signature) (may : Call → Outcome → Type 0) (s t : State) (r : Result A E) → is_ready s ≡ false
    → OnOk r (s.taken ≡ most_steps → is_settled s ≡ true) → OnOk r (t ≡ step s) → OnOk r (IsStep ss may s t)
steps_resting {A} {E} ss may s t (Ok a) e room is =
    subst (λ (x : State). IsStep ss may s x) (sym is) (uncalled_step ss may s (rest_next ss s (at_rest s e room)))
steps_resting {A} {E} ss may s t (Err x) e room is = tt
