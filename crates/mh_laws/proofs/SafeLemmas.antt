-- A safe state stays safe, and in a safe state nothing is stuck.
use Rattle.std.specs.Prelude.{◌≡◌, ℕ, ◌==◌, Bool, true, false, if◌then◌else◌, List, [], ◌∷◌, Option, Some, None}
use Rattle.std.proofs.Common.{sym, subst}
use Rattle.mh_model.specs.declared.file.File.{File}
use Rattle.mh_model.specs.declared.input.Input.{Input}
use Rattle.mh_model.specs.declared.input.Move.TheVariants as move
use Rattle.mh_model.specs.declared.input.Move.{Move}
use Rattle.mh_model.specs.declared.program.Call.{Call}
use Rattle.mh_model.specs.declared.program.Outcome.{Outcome}
use Rattle.mh_model.specs.declared.program.Signature.{Signature}
use Rattle.mh_model.specs.Limits.{most_steps}
use Rattle.mh_model.specs.Receiver.{anything, call_next, told, IsStepWith, IsCountedStep, IsStepped, IsMoved, IsRun}
use Rattle.mh_model.specs.Service.{Service}
use Rattle.mh_model.specs.State.{State, begun}
use Rattle.mh_model.specs.Step.{step, posted, stepped, moved, run, preset}
use Rattle.mh_model.specs.Stuck.{front_fault}
use Rattle.mh_laws.specs.Acceptable.{IsAcceptable}
use Rattle.mh_laws.specs.Headline.{NeverStuck, IsFaultless, begun_with}
use Rattle.mh_laws.specs.Safe.{IsSafe}
use Rattle.mh_laws.proofs.StepLemmas.{safe_by_begun, safe_by_preset, safe_by_begun_with, safe_by_front, safe_by_step, safe_by_posted, safe_by_told}

-- the beginning

pub safe_begun : (v : Service) → IsAcceptable v → (mjd : ℕ) → IsSafe (begun v mjd)
safe_begun v k mjd = record { flow = k.flow; by = safe_by_begun v k.by mjd }

-- a file that is put there beforehand
pub safe_preset : (f : File) (s : State) → IsSafe s → IsSafe (preset f s)
safe_preset f s k = record { flow = k.flow; by = safe_by_preset f s k.by }

-- the beginning with files there
pub safe_begun_with : (v : Service) → IsAcceptable v → (mjd : ℕ) (fs : List File) → IsSafe (begun_with v mjd fs)
safe_begun_with v k mjd fs = record { flow = k.flow; by = safe_by_begun_with v k.by mjd fs }

-- Steps

-- in a safe state the first item is not stuck
pub safe_front : (s : State) → IsSafe s → front_fault s ≡ None
safe_front s k = safe_by_front s k.by

pub safe_step : (s : State) → IsSafe s → IsSafe (step s)
safe_step s k = record { flow = k.flow; by = safe_by_step s k.by }

pub safe_posted : (s : State) → IsSafe s → (i : Input) → IsSafe (posted i s)
safe_posted s k i = record { flow = k.flow; by = safe_by_posted s k.by i }

pub safe_stepped : (s : State) → IsSafe s → IsSafe (stepped s)
safe_stepped s k =
    elim (s.taken == most_steps) as (λ (b : Bool). IsSafe (if b then s else step s)) [
      | true ↦ k
      | false ↦ safe_step s k
    ]

pub safe_moved : (s : State) → IsSafe s → (m : Move) → IsSafe (moved m s)
safe_moved s k (move.Post i) = safe_posted s k i
safe_moved s k move.Step = safe_stepped s k

pub safe_run : (ms : List Move) (s : State) → IsSafe s → IsSafe (run ms s)
safe_run [] s k = k
safe_run (m ∷ ms) s k = safe_run ms (moved m s) (safe_moved s k m)

-- Steps beside the programs of a receiver, whatever comes of their calls

pub safe_told : (s : State) → IsSafe s → (o : Outcome) → IsSafe (told o s)
safe_told s k o = record { flow = k.flow; by = safe_by_told s k.by o }

pub safe_step_with : (may : Call → Outcome → Type 0) (c : Option Call) (s t : State) → IsSafe s → IsStepWith may c s t → IsSafe t
safe_step_with may None s t k so = subst (λ (x : State). IsSafe x) (sym so) (safe_step s k)
safe_step_with may (Some c) s t k so = subst (λ (x : State). IsSafe x) (sym so.2) (safe_step (told so.0 s) (safe_told s k so.0))

pub safe_stepped_beside : (ss : List Signature) (may : Call → Outcome → Type 0) (s t : State) → IsSafe s → IsStepped ss may s t → IsSafe t
safe_stepped_beside ss may s t k so = by (s.taken == most_steps) so
  where
    by : (b : Bool) → IsCountedStep b ss may s t → IsSafe t
    by true so = subst (λ (x : State). IsSafe x) (sym so) k
    by false so = safe_step_with may (call_next ss s) s t k so

pub safe_moved_beside : (ss : List Signature) (may : Call → Outcome → Type 0) (m : Move) (s t : State) → IsSafe s → IsMoved ss may m s t → IsSafe t
safe_moved_beside ss may (move.Post i) s t k so = subst (λ (x : State). IsSafe x) (sym so) (safe_posted s k i)
safe_moved_beside ss may move.Step s t k so = safe_stepped_beside ss may s t k so

pub safe_run_beside : (ss : List Signature) (may : Call → Outcome → Type 0) (ms : List Move) (s t : State) → IsSafe s → IsRun ss may ms s t → IsSafe t
safe_run_beside ss may [] s t k so = subst (λ (x : State). IsSafe x) (sym so) k
safe_run_beside ss may (m ∷ ms) s t k so = safe_run_beside ss may ms so.0 t (safe_moved_beside ss may m s so.0 k so.1) so.2

pub safe_faultless : (s : State) → IsSafe s → IsFaultless s
safe_faultless s k = record { front = safe_front s k; faults = (k.by).faultless }

-- the headline
pub never_stuck_law : NeverStuck
never_stuck_law v k mjd fs ss ms s so =
    safe_faultless s (safe_run_beside ss anything ms (begun_with v mjd fs) s (safe_begun_with v k mjd fs) so)
