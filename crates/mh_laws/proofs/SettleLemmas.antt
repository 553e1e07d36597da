-- A step does something where something is left to do, so that an accepted service settles.
use Rattle.std.specs.Prelude.{◌&&◌, ◌++◌, ◌+◌, ◌==◌, ◌||◌, ◌∷◌, ◌≡◌, ◌≤◌, ◌⊎◌, Bool, List, None, Option, Some, [], false, if◌then◌else◌, replicate, slice_get, suc, true, zero, ℕ}
use Rattle.std.proofs.Common.{◌∙◌, ap, arith, inl, inr, refl, subst, sym}
use Rattle.std.proofs.lemmas.Bool.Decides.{Decides-eqb}
use Rattle.mh_model.specs.declared.fault.Fault.{Fault}
use Rattle.mh_model.specs.declared.input.Move.{Move}
use Rattle.mh_model.specs.declared.input.Move.TheVariants as move
use Rattle.mh_model.specs.declared.input.Waiting.{Waiting}
use Rattle.mh_model.specs.declared.item.Item.{Item}
use Rattle.mh_model.specs.declared.program.Call.{Call}
use Rattle.mh_model.specs.declared.program.Outcome.TheVariants as outcome
use Rattle.mh_model.specs.declared.program.Signature.{Signature}
use Rattle.mh_model.specs.Limits.{most_steps}
use Rattle.mh_model.specs.Receiver.{IsAdvanced, IsCountedStep, IsStepWith, IsStepped, anything, call_next, told}
use Rattle.mh_model.specs.State.{State}
use Rattle.mh_model.specs.Step.{did, is_empty, is_idle, is_settled, step, step_by}
use Rattle.mh_laws.specs.Budget.{Bounds, IsDone, IsPaidRun, Settles, bounds, paid}
use Rattle.mh_laws.specs.Flow.{Flow}
use Rattle.mh_laws.specs.Headline.{begun_with}
use Rattle.mh_laws.specs.Layers.{costs}
use Rattle.mh_laws.specs.Safe.{IsSafeBy}
use Rattle.mh_laws.proofs.BudgetLemmas.{accepted_costed, goes_begun, goes_run, never_wrong}
use Rattle.mh_laws.proofs.ReadyLemmas.{free_first}
use Rattle.mh_laws.proofs.RunLemmas.{done_counts, took_counts}
use Rattle.mh_laws.proofs.StepLemmas.{safe_by_step, safe_by_told}

-- where something is left to do a step counts
step_counts : {w : Flow} (s : State) → IsSafeBy w s → is_settled s ≡ false → (step s).taken ≡ s.taken + 1
step_counts {w} s k busy = unless_ended s.ended busy
  where
    by : (m : Option Item) (x : Option Waiting) → slice_get s.work 0 ≡ m → slice_get s.queue 0 ≡ x → is_idle s ≡ false → (step_by m x s).taken ≡ s.taken + 1
    by None None e f idle = let never : true ≡ false = sym (both s.work s.queue e f) ∙ idle in absurd cc
      where
        both : {X Y : Type 0} (xs : List X) (ys : List Y) → slice_get xs 0 ≡ None → slice_get ys 0 ≡ None → (is_empty xs && is_empty ys) ≡ true
        both {X} {Y} [] [] e f = refl
        both {X} {Y} (x ∷ xs) ys e f = absurd cc
        both {X} {Y} [] (y ∷ ys) e f = absurd cc
    by None (Some x) e f idle = took_counts x s
    by (Some i) x e f idle = subst (λ (m : Option Fault). (did m i s).taken ≡ s.taken + 1) (sym (free_first s k i e)) (done_counts i s)

    unless_ended : (t : Bool) → (t || is_idle s) ≡ false → (if t then s else step_by (slice_get s.work 0) (slice_get s.queue 0) s).taken ≡ s.taken + 1
    unless_ended true idle = absurd cc
    unless_ended false idle = by (slice_get s.work 0) (slice_get s.queue 0) refl refl idle

-- where nothing is, it changes nothing
step_rests : (s : State) → is_settled s ≡ true → step s ≡ s
step_rests s h = unless_ended s.ended h
  where
    none_of : {X : Type 0} (xs : List X) → is_empty xs ≡ true → slice_get xs 0 ≡ None
    none_of {X} [] e = refl
    none_of {X} (x ∷ xs) e = absurd cc

    left : (a b : Bool) → (a && b) ≡ true → a ≡ true
    left true b e = refl
    left false b e = absurd cc

    right : (a b : Bool) → (a && b) ≡ true → b ≡ true
    right true b e = e
    right false b e = absurd cc

    unless_ended : (t : Bool) → (t || is_idle s) ≡ true → (if t then s else step_by (slice_get s.work 0) (slice_get s.queue 0) s) ≡ s
    unless_ended true idle = refl
    unless_ended false idle =
        ap (λ (m : Option Item). step_by m (slice_get s.queue 0) s) (none_of s.work (left (is_empty s.work) (is_empty s.queue) idle))
        ∙ ap (λ (x : Option Waiting). step_by None x s) (none_of s.queue (right (is_empty s.work) (is_empty s.queue) idle))

-- a step beside programs

stepped_rests : (ss : List Signature) (s t : State) → IsDone s → IsStepped ss anything s t → IsDone t
stepped_rests ss s t (inl settled) so = by (s.taken == most_steps) so
  where
    with : (c : Option Call) → IsStepWith anything c s t → IsDone t
    with None e = inl (subst (λ (x : State). is_settled x ≡ true) (sym (e ∙ step_rests s settled)) settled)
    with (Some c) e = inl (subst (λ (x : State). is_settled x ≡ true) (sym (e.2 ∙ step_rests (told e.0 s) settled)) settled)

    by : (b : Bool) → IsCountedStep b ss anything s t → IsDone t
    by true e = inl (subst (λ (x : State). is_settled x ≡ true) (sym e) settled)
    by false e = with (call_next ss s) e
stepped_rests ss s t (inr full) so =
    let is : (s.taken == most_steps) ≡ true = (Decides-eqb s.taken most_steps).1 full in
    let same : t ≡ s = subst (λ (b : Bool). IsCountedStep b ss anything s t) is so in
    inr (ap (λ (x : State). x.taken) same ∙ full)

stepped_counts : {w : Flow} (ss : List Signature) (s t : State) → IsSafeBy w s → is_settled s ≡ false → (s.taken == most_steps) ≡ false → IsStepped ss anything s t → t.taken ≡ s.taken + 1
stepped_counts {w} ss s t k busy room so = with (call_next ss s) (subst (λ (b : Bool). IsCountedStep b ss anything s t) room so)
  where
    with : (c : Option Call) → IsStepWith anything c s t → t.taken ≡ s.taken + 1
    with None e = ap (λ (x : State). x.taken) e ∙ step_counts s k busy
    with (Some c) e = ap (λ (x : State). x.taken) e.2 ∙ step_counts (told e.0 s) (safe_by_told s k e.0) busy

safe_by_stepped : {w : Flow} (ss : List Signature) (s t : State) → IsSafeBy w s → IsStepped ss anything s t → IsSafeBy w t
safe_by_stepped {w} ss s t k so = by (s.taken == most_steps) so
  where
    with : (c : Option Call) → IsStepWith anything c s t → IsSafeBy w t
    with None e = subst (IsSafeBy w) (sym e) (safe_by_step s k)
    with (Some c) e = subst (IsSafeBy w) (sym e.2) (safe_by_step (told e.0 s) (safe_by_told s k e.0))

    by : (b : Bool) → IsCountedStep b ss anything s t → IsSafeBy w t
    by true e = subst (IsSafeBy w) (sym e) k
    by false e = with (call_next ss s) e

-- several

rests : (ss : List Signature) (n : ℕ) (s t : State) → IsDone s → IsAdvanced ss anything n s t → IsDone t
rests ss zero s t done so = subst IsDone (sym so) done
rests ss (suc n) s t done so = rests ss n so.0 t (stepped_rests ss s so.0 done so.1) so.2

goes_on : {w : Flow} (ss : List Signature) (n : ℕ) (s t : State) → IsSafeBy w s → IsAdvanced ss anything n s t → (t.taken ≡ s.taken + n) ⊎ IsDone t
goes_on {w} ss zero s t k so = inl (let same : t.taken ≡ s.taken = ap (λ (x : State). x.taken) so in omega (arith, same))
goes_on {w} ss (suc n) s t k so =
    by (is_settled s) refl (s.taken == most_steps) refl (goes_on ss n so.0 t (safe_by_stepped ss s so.0 k so.1) so.2)
  where
    by : (a : Bool) → is_settled s ≡ a → (b : Bool) → (s.taken == most_steps) ≡ b → ((t.taken ≡ (so.0).taken + n) ⊎ IsDone t) → (t.taken ≡ s.taken + suc n) ⊎ IsDone t
    by true e b f further = inr (rests ss n so.0 t (stepped_rests ss s so.0 (inl e) so.1) so.2)
    by false e true f further = inr (rests ss n so.0 t (stepped_rests ss s so.0 (inr ((Decides-eqb s.taken most_steps).0 f)) so.1) so.2)
    by false e false f (inl more) = inl (let one = stepped_counts ss s so.0 k e f so.1 in omega (arith, more, one))
    by false e false f (inr done) = inr done

-- a run that goes on with steps alone has the same budget

steps_paid : (b : Bounds) (ss : List Signature) (k : ℕ) (n m : ℕ) (s t : State) → m ≡ n → IsAdvanced ss anything k s t → IsPaidRun b ss anything (replicate k move.Step) n s m t
steps_paid b ss zero n m s t e so = (so, e)
steps_paid b ss (suc k) n m s t e so = (so.0, so.1, steps_paid b ss k (n + 0) m so.0 t (omega (arith, e)) so.2)

more_paid : (b : Bounds) (ss : List Signature) (ms : List Move) (k : ℕ) (n m : ℕ) (s u t : State) → IsPaidRun b ss anything ms n s m u → IsAdvanced ss anything k u t → IsPaidRun b ss anything (ms ++ replicate k move.Step) n s m t
more_paid b ss [] k n m s u t so on = steps_paid b ss k n m s t so.1 (subst (λ (x : State). IsAdvanced ss anything k x t) so.0 on)
more_paid b ss (x ∷ ms) k n m s u t so on = (so.0, so.1, more_paid b ss ms k (n + paid b x s) m so.0 u t so.2 on)

-- there is a next state, whatever a program may answer
next_stepped : (ss : List Signature) (s : State) → (t : State) × IsStepped ss anything s t
next_stepped ss s = by (s.taken == most_steps)
  where
    with : (c : Option Call) → (t : State) × IsStepWith anything c s t
    with None = (step s, refl)
    with (Some c) = (step (told outcome.Failed s), (outcome.Failed, tt, refl))

    by : (b : Bool) → (t : State) × IsCountedStep b ss anything s t
    by true = (s, refl)
    by false = with (call_next ss s)

pub settles : Settles
settles most v k mjd fs ss ms budget s so n t on more =
    by (goes_on ss n s t (goes_run v k.flow (costs v k.flow k.rank) (bounds k) (accepted_costed most v k) ss ms (bounds k).start budget (begun_with v mjd fs) s (goes_begun v k.flow (costs v k.flow k.rank) (bounds k) (accepted_costed most v k) mjd fs) so).safe on)
  where
    paid_on : IsPaidRun (bounds k) ss anything (ms ++ replicate n move.Step) (bounds k).start (begun_with v mjd fs) budget t
    paid_on = more_paid (bounds k) ss ms n (bounds k).start budget (begun_with v mjd fs) s t so on

    safe : IsSafeBy k.flow t
    safe = (goes_run v k.flow (costs v k.flow k.rank) (bounds k) (accepted_costed most v k) ss (ms ++ replicate n move.Step) (bounds k).start budget (begun_with v mjd fs) t (goes_begun v k.flow (costs v k.flow k.rank) (bounds k) (accepted_costed most v k) mjd fs) paid_on).safe

    next : (u : State) × IsStepped ss anything t u
    next = next_stepped ss t

    within : (next.0).taken ≤ budget
    within = (never_wrong most v k mjd fs ss ((ms ++ replicate n move.Step) ++ replicate 1 move.Step) budget next.0 (more_paid (bounds k) ss (ms ++ replicate n move.Step) 1 (bounds k).start budget (begun_with v mjd fs) t next.0 paid_on (next.0, next.1, refl))).steps

    -- one step more would be one too many
    unless_left : (a : Bool) → is_settled t ≡ a → (b : Bool) → (t.taken == most_steps) ≡ b → t.taken ≡ s.taken + n → IsDone t
    unless_left true e b f counted = inl e
    unless_left false e true f counted = inr ((Decides-eqb t.taken most_steps).0 f)
    unless_left false e false f counted =
        let one = stepped_counts ss t next.0 safe e f next.1 in
        absurd (omega (arith, counted, within, more, one))

    by : (t.taken ≡ s.taken + n) ⊎ IsDone t → IsDone t
    by (inl counted) = unless_left (is_settled t) refl (t.taken == most_steps) refl counted
    by (inr done) = done
