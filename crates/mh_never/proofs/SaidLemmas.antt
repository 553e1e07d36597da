-- No event comes but what is of a closed set: none is told, none waits, no timer tells one, and no key is heard.
use Rattle.std.specs.Prelude.{◌≡◌, ℕ, ◌==◌, Bool, true, false, List, [], ◌∷◌, slice_get, Option, Some, None, refl}
use Rattle.std.proofs.Common.{◌∙◌, sym, subst}
use Rattle.mh_model.specs.declared.file.File.{File}
use Rattle.mh_model.specs.declared.input.Input.{Input}
use Rattle.mh_model.specs.declared.input.Move.{Move}
use Rattle.mh_model.specs.declared.input.Move.TheVariants as move
use Rattle.mh_model.specs.declared.item.Item.{Item}
use Rattle.mh_model.specs.declared.program.Call.{Call}
use Rattle.mh_model.specs.declared.program.Outcome.{Outcome}
use Rattle.mh_model.specs.declared.program.Signature.{Signature}
use Rattle.mh_model.specs.Limits.{most_steps}
use Rattle.mh_model.specs.Receiver.{IsCountedStep, IsMoved, IsRun, IsStepWith, anything, call_next, told}
use Rattle.mh_model.specs.Service.{Service}
use Rattle.mh_model.specs.State.{State}
use Rattle.mh_model.specs.Step.{posted, step}
use Rattle.mh_laws.specs.Acceptable.{IsAcceptableBy}
use Rattle.mh_laws.specs.Flow.{Flow}
use Rattle.mh_laws.specs.Headline.{begun_with}
use Rattle.mh_laws.specs.Safe.{IsSafeBy, config_of}
use Rattle.mh_laws.proofs.BudgetLemmas.{posted_serves, step_serves}
use Rattle.mh_laws.proofs.StepLemmas.{safe_by_begun_with, safe_by_posted, safe_by_step, safe_by_told}
use Rattle.mh_never.specs.Never.{IsSo}
use Rattle.mh_never.specs.Running.{Doings, any_act}
use Rattle.mh_never.specs.Saying.{IsSaidClosed, NeverSays, Sayings, SaysOnly}
use Rattle.mh_never.proofs.RegisterLemmas.{begun_hears, posted_hears, step_hears, told_hears}
use Rattle.mh_never.proofs.RunningLemmas.{any_so}
use Rattle.mh_never.proofs.SayingLemmas.{Emits, begun_emits, posted_emits, step_emits, told_emits}
use Rattle.mh_never.proofs.TimerLemmas.{posted_times, step_times}

emits_of : (u : Sayings) (s : State) → SaysOnly u s → Emits u s
emits_of u s h = record { work = h.work; queue = h.queue }

pub step_says : {fw : Flow} {q : Doings} (u : Sayings) (s : State) (k : IsSafeBy fw s) → IsSaidClosed s.service fw q u → ((i : Item) → slice_get s.work 0 ≡ Some i → IsSo q (config_of s) i) → SaysOnly u s → SaysOnly u (step s)
step_says {fw} {q} u s k closed comes h =
    let next = step_emits u s k closed comes h.timers (emits_of u s h) in record {
      work = next.work;
      queue = next.queue;
      timers = step_times u s k closed comes h.timers;
      keys = step_hears u q s k closed comes h.keys;
    }

pub posted_says : (u : Sayings) (s : State) (i : Input) → SaysOnly u s → SaysOnly u (posted i s)
posted_says u s i h =
    let next = posted_emits u s i (emits_of u s h) in record { work = next.work; queue = next.queue; timers = posted_times u s i h.timers; keys = posted_hears u s i h.keys }

pub told_says : (u : Sayings) (s : State) (o : Outcome) → SaysOnly u s → SaysOnly u (told o s)
told_says u s o h =
    let next = told_emits u s o (emits_of u s h) in record { work = next.work; queue = next.queue; timers = h.timers; keys = told_hears u s o h.keys }

pub begun_says : {w : Flow} {q : Doings} (u : Sayings) (v : Service) → IsAcceptableBy v w → IsSaidClosed v w q u → (mjd : ℕ) (fs : List File) → SaysOnly u (begun_with v mjd fs)
begun_says {w} {q} u v k closed mjd fs =
    let first = begun_emits u v mjd fs in record { work = first.work; queue = first.queue; timers = tt; keys = begun_hears u q v k closed mjd fs }

-- RUNS

record Says_on (v : Service) (w : Flow) (u : Sayings) (s : State) : Type 0 where
  safe : IsSafeBy w s
  service : s.service ≡ v
  says : SaysOnly u s

says_step : (v : Service) (w : Flow) (u : Sayings) → IsSaidClosed v w any_act u → (s : State) → Says_on v w u s → Says_on v w u (step s)
says_step v w u closed s g = record {
  safe = safe_by_step s g.safe;
  service = step_serves s g.safe ∙ g.service;
  says = step_says u s g.safe (subst (λ (x : Service). IsSaidClosed x w any_act u) (sym g.service) closed) (λ i e. any_so (config_of s) i) g.says;
}

says_move : (v : Service) (w : Flow) (u : Sayings) → IsSaidClosed v w any_act u → (ss : List Signature) (m : Move) (s t : State) → Says_on v w u s → IsMoved ss anything m s t → Says_on v w u t
says_move v w u closed ss (move.Post i) s t g so =
    subst (Says_on v w u) (sym so) (record { safe = safe_by_posted s g.safe i; service = posted_serves i s ∙ g.service; says = posted_says u s i g.says })
says_move v w u closed ss move.Step s t g so = by (s.taken == most_steps) so
  where
    with : (c : Option Call) → IsStepWith anything c s t → Says_on v w u t
    with None e = subst (Says_on v w u) (sym e) (says_step v w u closed s g)
    with (Some c) e = subst (Says_on v w u) (sym e.2) (says_step v w u closed (told e.0 s) (record { safe = safe_by_told s g.safe e.0; service = g.service; says = told_says u s e.0 g.says }))

    by : (x : Bool) → IsCountedStep x ss anything s t → Says_on v w u t
    by true e = subst (Says_on v w u) (sym e) g
    by false e = with (call_next ss s) e

says_all : (v : Service) (w : Flow) (u : Sayings) → IsSaidClosed v w any_act u → (ss : List Signature) (ms : List Move) (s t : State) → Says_on v w u s → IsRun ss anything ms s t → Says_on v w u t
says_all v w u closed ss [] s t g so = subst (Says_on v w u) (sym so) g
says_all v w u closed ss (m ∷ ms) s t g so = says_all v w u closed ss ms so.0 t (says_move v w u closed ss m s so.0 g so.1) so.2

pub never_says : NeverSays
never_says v w k u closed mjd fs ss ms s so =
    (says_all v w u closed ss ms (begun_with v mjd fs) s (record { safe = safe_by_begun_with v k mjd fs; service = refl; says = begun_says u v k closed mjd fs }) so).says
