-- A post that an engine takes or refuses, by the state alone.
use Rattle.std.specs.Prelude.{◌≡◌, ◌≢◌, Option, Some, None, MatchOption, Result, Ok, Err, OnOk, OnErr, IfOk, IfErr, IsErrAnd, refl}
use Rattle.std.specs.Option.{option_map}
use Rattle.std.proofs.Common.{ap, ◌∙◌, sym, subst}
use Rattle.mh_model.specs.declared.input.Input.{Input}
use Rattle.mh_model.specs.declared.input.Obstacle.{Obstacle}
use Rattle.mh_model.specs.declared.input.Obstacle.TheVariants as obstacle
use Rattle.mh_model.specs.State.{State}
use Rattle.mh_model.specs.Step.{posted, posted_by, obstacle as obstacle_to}
use Rattle.mh_laws.specs.Budget.{bound_of}
use Rattle.mh_machine.specs.Refusal.{post_refusal, refusal_for}
use Rattle.mh_machine.specs.declared.refusal.Refused.{Refused}
use Rattle.mh_machine.specs.declared.refusal.RefusedWhy.{RefusedWhy}
use Rattle.mh_machine.specs.declared.refusal.RefusedWhy.TheVariants as refused
use Rattle.mh_engine.specs.Play.{Play, with_more}
use Rattle.mh_engine.specs.Sealed.{SealedPlay, taken_up}
use Rattle.mh_seal.specs.declared.seal.Seal.{Seal}
use Rattle.mh_engine.specs.Posts.{behind_by, seal_obstacle}
use Rattle.mh_report.specs.BySeal.{IsTold}

-- what is behind a post, and what is told of it, where memory is not refused
abbrev pub IsDone : {E : Type 0} → Option RefusedWhy → State → State → Result (Option RefusedWhy) E → Type 0
IsDone told behind new answer = OnOk answer (new ≡ behind) × IfOk answer (λ why. why ≡ told)

-- An engine that has all files

-- what it answers to a post, in the words of its contract
abbrev pub IsAnswer : Input → Play → Result (Unit {0}) Refused → Type 0
IsAnswer i p r = MatchOption (post_refusal i p.state) (IfErr r (λ x. x.why ≡ refused.NoMemory)) (λ why. IsErrAnd r (λ x. x.why ≡ why))

by_why : (o : Option RefusedWhy) (why : RefusedWhy) → MatchOption o (why ≡ refused.NoMemory) (λ w. why ≡ w) → why ≢ refused.NoMemory → o ≡ Some why
by_why None why told other = absurd (other told)
by_why (Some w) why told other = ap Some (sym told)

by_none : (o : Option RefusedWhy) → MatchOption o (Unit {0}) (λ w. ⊥) → o ≡ None
by_none None told = refl
by_none (Some w) told = absurd told

-- a post that is refused changes nothing
barred_stays : (i : Input) (s : State) (why : RefusedWhy) → post_refusal i s ≡ Some why → posted i s ≡ s
barred_stays i s why e = by (obstacle_to i s) e
  where
    by : (o : Option Obstacle) → option_map refusal_for o ≡ Some why → posted_by o i s ≡ s
    by None h = absurd cc
    by (Some o) h = refl

-- the engine behind a post that it takes
abbrev pub taken : Play → Input → Play
taken p i = record p { state = posted i p.state; budget = with_more p.budget (bound_of p.bounds i) }

pub engine_posted : {E : Type 0} (i : Input) (p new : Play) (r : Result (Unit {0}) Refused) (answer : Result (Option RefusedWhy) E)
    → IfOk answer (IsTold r) → IsAnswer i p r → OnOk r (new ≡ taken p i) → OnErr r (new ≡ p) → IsDone (post_refusal i p.state) (posted i p.state) new.state answer
engine_posted {E} i p new r (Err e) told is did kept = (tt, tt)
engine_posted {E} i p new (Ok u) (Ok why) told is did kept = (ap (λ (q : Play). q.state) did, told ∙ sym (by_none (post_refusal i p.state) is))
engine_posted {E} i p new (Err x) (Ok why) told is did kept =
    let bar : post_refusal i p.state ≡ Some x.why = by_why (post_refusal i p.state) x.why is told.1 in
    (ap (λ (q : Play). q.state) kept ∙ sym (barred_stays i p.state x.why bar), told.0 ∙ sym bar)

-- One that goes by a seal

named : (why : RefusedWhy) → why ≢ refused.NoMemory → (o : Obstacle) × (why ≡ refusal_for o)
named refused.NoMemory other = absurd (other refl)
named refused.Ended other = (obstacle.Ended, refl)
named refused.TickRange other = (obstacle.TickRange, refl)
named refused.Begun other = (obstacle.Begun, refl)
named refused.NotLate other = (obstacle.NotLate, refl)
named refused.Differs other = (obstacle.Differs, refl)
named refused.TooLarge other = (obstacle.TooLarge, refl)
named refused.TooMany other = (obstacle.TooMany, refl)
named refused.ClockFull other = (obstacle.ClockFull, refl)
named refused.QueueFull other = (obstacle.QueueFull, refl)

pub sealed_posted_so : {E : Type 0} (i : Input) (p new : SealedPlay) (r : Result (Unit {0}) Refused) (answer : Result (Option RefusedWhy) E)
    → IfOk answer (IsTold r) → OnOk r (new ≡ taken_up i p) → OnOk r (seal_obstacle p.seal i p.state ≡ None)
    → IfErr r (λ x. (o : Obstacle) → x.why ≡ refusal_for o → seal_obstacle p.seal i p.state ≡ Some o) → OnErr r (new ≡ p)
    → IsDone (option_map refusal_for (seal_obstacle p.seal i p.state)) (behind_by (seal_obstacle p.seal i p.state) p.seal i p.state) new.state answer
sealed_posted_so {E} i p new r (Err e) told did free barred kept = (tt, tt)
sealed_posted_so {E} i p new (Ok u) (Ok why) told did free barred kept = (
  ap (λ (q : SealedPlay). q.state) did ∙ sym (ap (λ (o : Option Obstacle). behind_by o p.seal i p.state) free),
  told ∙ sym (ap (option_map refusal_for) free),
)
sealed_posted_so {E} i p new (Err x) (Ok why) told did free barred kept =
    let its : (o : Obstacle) × (x.why ≡ refusal_for o) = named x.why told.1 in
    let bar : seal_obstacle p.seal i p.state ≡ Some its.0 = barred its.0 its.1 in (
      ap (λ (q : SealedPlay). q.state) kept ∙ sym (ap (λ (o : Option Obstacle). behind_by o p.seal i p.state) bar),
      told.0 ∙ ap Some its.1 ∙ sym (ap (option_map refusal_for) bar),
    )

-- the seal stays
pub seal_stays : (i : Input) (p new : SealedPlay) (r : Result (Unit {0}) Refused) → OnOk r (new ≡ taken_up i p) → OnErr r (new ≡ p) → new.seal ≡ p.seal
seal_stays i p new (Ok u) did kept = ap (λ (q : SealedPlay). q.seal) did
seal_stays i p new (Err x) did kept = ap (λ (q : SealedPlay). q.seal) kept
