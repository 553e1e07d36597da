-- Each state of a run is in a configuration that the flow reaches.
use Rattle.std.specs.Prelude.{◌==◌, Bool, true, false, List, [], ◌∷◌, Option, Some, None}
use Rattle.std.proofs.Common.{sym, subst}
use Rattle.mh_model.specs.declared.input.Move.{Move}
use Rattle.mh_model.specs.declared.input.Move.TheVariants as move
use Rattle.mh_model.specs.declared.program.Call.{Call}
use Rattle.mh_model.specs.declared.program.Signature.{Signature}
use Rattle.mh_model.specs.Limits.{most_steps}
use Rattle.mh_model.specs.Receiver.{IsCountedStep, IsMoved, IsRun, IsStepWith, anything, call_next}
use Rattle.mh_model.specs.State.{State}
use Rattle.mh_model.specs.Receiver.{told}
use Rattle.mh_model.specs.Service.{Service}
use Rattle.mh_laws.specs.Acceptable.{IsAcceptableBy}
use Rattle.mh_laws.specs.Flow.{Flow}
use Rattle.mh_laws.specs.Safe.{IsSafeBy}
use Rattle.mh_laws.proofs.StepLemmas.{safe_by_begun_with, safe_by_posted, safe_by_step, safe_by_told}
use Rattle.mh_alive.specs.Alive.{InEachRun, StaysReached}

safe_move : (w : Flow) (ss : List Signature) (m : Move) (s t : State) → IsSafeBy w s → IsMoved ss anything m s t → IsSafeBy w t
safe_move w ss (move.Post i) s t safe so = subst (IsSafeBy w) (sym so) (safe_by_posted s safe i)
safe_move w ss move.Step s t safe so = by (s.taken == most_steps) so
  where
    with : (c : Option Call) → IsStepWith anything c s t → IsSafeBy w t
    with None e = subst (IsSafeBy w) (sym e) (safe_by_step s safe)
    with (Some c) e = subst (IsSafeBy w) (sym e.2) (safe_by_step (told e.0 s) (safe_by_told s safe e.0))

    by : (x : Bool) → IsCountedStep x ss anything s t → IsSafeBy w t
    by true e = subst (IsSafeBy w) (sym e) safe
    by false e = with (call_next ss s) e

safe_all : (w : Flow) (ss : List Signature) (ms : List Move) (s t : State) → IsSafeBy w s → IsRun ss anything ms s t → IsSafeBy w t
safe_all w ss [] s t safe so = subst (IsSafeBy w) (sym so) safe
safe_all w ss (m ∷ ms) s t safe so = safe_all w ss ms so.0 t (safe_move w ss m s so.0 safe so.1) so.2

pub stays_safe : (v : Service) (w : Flow) → IsAcceptableBy v w → InEachRun v (IsSafeBy w)
stays_safe v w accepted mjd fs ss ms s so = safe_all w ss ms _ s (safe_by_begun_with v accepted mjd fs) so

pub stays_reached : StaysReached
stays_reached v w accepted mjd fs ss ms s so = (stays_safe v w accepted mjd fs ss ms s so).among
