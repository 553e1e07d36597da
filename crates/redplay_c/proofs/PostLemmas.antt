-- A post that an engine takes or refuses, told by its number.
use Rattle.std.specs.Prelude.{◌≡◌, ◌⊎◌, ℕ, Option, Some, None, MatchOption, Result, Ok, Err, OnOk, OnErr, IfErr, IsErrAnd, refl}
use Rattle.std.specs.Option.{option_map}
use Rattle.std.proofs.Common.{ap, ◌∙◌, sym, subst, arith, inl, inr}
use Rattle.mh_engine.specs.Play.{Play, with_more}
use Rattle.mh_engine.specs.Posts.{behind_by, by_seal, seal_obstacle, whole}
use Rattle.mh_engine.specs.Sealed.{SealedPlay, taken_up}
use Rattle.mh_laws.specs.Budget.{bound_of}
use Rattle.mh_machine.specs.Refusal.{post_refusal, refusal_for}
use Rattle.mh_machine.specs.declared.refusal.Refused.{Refused}
use Rattle.mh_machine.specs.declared.refusal.RefusedWhy.{RefusedWhy}
use Rattle.mh_machine.specs.declared.refusal.RefusedWhy.TheVariants as refused
use Rattle.mh_model.specs.declared.input.Input.{Input}
use Rattle.mh_model.specs.declared.input.Obstacle.{Obstacle}
use Rattle.mh_model.specs.declared.input.Obstacle.TheVariants as obstacle
use Rattle.mh_model.specs.Step.{posted}
use Rattle.redplay_c.specs.Answers.{IsDone, good, no_memory, why_number}
use Rattle.redplay_c.specs.Players.{Takes, behind}
use Rattle.redplay_c.specs.Playing.{Engined, of_sealed, of_whole}

-- By what stands in the way.

abbrev Does : Option RefusedWhy → Type 0 → Type 0 → ℕ → Type 0
Does o Taken Same n = MatchOption o (IsDone n Taken Same) (λ why. (n ≡ why_number why) × Same)

by_good : (o : Option RefusedWhy) (Taken Same : Type 0) (n : ℕ) → MatchOption o (Unit {0}) (λ why. ⊥) → Taken → n ≡ good → Does o Taken Same n
by_good None Taken Same n free after zero = ((λ _. after), (λ more. absurd (omega (arith, zero, more))))
by_good (Some why) Taken Same n free after zero = absurd free

by_why : (o : Option RefusedWhy) (Taken Same : Type 0) (n : ℕ) (w : RefusedWhy) → MatchOption o (w ≡ refused.NoMemory) (λ why. w ≡ why) → Same → n ≡ why_number w → Does o Taken Same n
by_why None Taken Same n w is same told =
    let starved : n ≡ no_memory = told ∙ ap why_number is in
    ((λ zero. absurd (omega (arith, zero, starved))), (λ _. (starved, same)))
by_why (Some why) Taken Same n w is same told = (told ∙ ap why_number is, same)

-- An engine that has all files.

-- what it answers to a post, in the words of its contract
abbrev IsAnswer : Input → Play → Result (Unit {0}) Refused → Type 0
IsAnswer i p r = MatchOption (post_refusal i p.state) (IfErr r (λ x. x.why ≡ refused.NoMemory)) (λ why. IsErrAnd r (λ x. x.why ≡ why))

-- the engine behind a post that it takes
abbrev taken : Play → Input → Play
taken p i = record p { state = posted i p.state; budget = with_more p.budget (bound_of p.bounds i) }

pub post_taken : (i : Input) (p new : Play) (r : Result (Unit {0}) Refused) (u : Unit {0}) (n : ℕ)
    → r ≡ Ok u → IsAnswer i p r → OnOk r (new ≡ taken p i) → n ≡ good → Takes whole i (of_whole p) (of_whole new) n
post_taken i p new r u n is told did zero =
    let next : new ≡ taken p i = subst (λ (x : Result (Unit {0}) Refused). OnOk x (new ≡ taken p i)) is did in
    by_good (post_refusal i p.state) (of_whole new ≡ behind whole i (of_whole p)) (of_whole new ≡ of_whole p) n (subst (IsAnswer i p) is told) (ap of_whole next) zero

pub post_refused : (i : Input) (p new : Play) (r : Result (Unit {0}) Refused) (x : Refused) (why : RefusedWhy) (n : ℕ)
    → r ≡ Err x → IsAnswer i p r → OnErr r (new ≡ p) → why ≡ x.why → n ≡ why_number why → Takes whole i (of_whole p) (of_whole new) n
post_refused i p new r x why n is told kept so number =
    let same : new ≡ p = subst (λ (y : Result (Unit {0}) Refused). OnErr y (new ≡ p)) is kept in
    by_why (post_refusal i p.state) (of_whole new ≡ behind whole i (of_whole p)) (of_whole new ≡ of_whole p) n x.why (subst (IsAnswer i p) is told) (ap of_whole same) (number ∙ ap why_number so)

-- One that goes by a seal.

abbrev TakesBySeal : Input → SealedPlay → SealedPlay → ℕ → Type 0
TakesBySeal i p q n = Takes (by_seal p.seal) i (of_sealed p) (of_sealed q) n ⊎ ((n ≡ no_memory) × (of_sealed q ≡ of_sealed p))

-- the engine behind a post that nothing stands in the way of
abbrev sealed_behind : Input → SealedPlay → Option Obstacle → Engined
sealed_behind i p o = of_sealed (record p { state = behind_by o p.seal i p.state; budget = with_more p.budget (bound_of (of_sealed p).play.bounds i) })

pub sealed_taken : (i : Input) (p new : SealedPlay) (r : Result (Unit {0}) Refused) (u : Unit {0}) (n : ℕ)
    → r ≡ Ok u → OnOk r (new ≡ taken_up i p) → OnOk r (seal_obstacle p.seal i p.state ≡ None) → n ≡ good → TakesBySeal i p new n
sealed_taken i p new r u n is did open_ zero =
    let next : new ≡ taken_up i p = subst (λ (x : Result (Unit {0}) Refused). OnOk x (new ≡ taken_up i p)) is did in
    let free : seal_obstacle p.seal i p.state ≡ None = subst (λ (x : Result (Unit {0}) Refused). OnOk x (seal_obstacle p.seal i p.state ≡ None)) is open_ in
    let after : of_sealed new ≡ sealed_behind i p (seal_obstacle p.seal i p.state) = ap of_sealed next ∙ sym (ap (sealed_behind i p) free) in
    inl (subst (λ (o : Option Obstacle). Does (option_map refusal_for o) (of_sealed new ≡ sealed_behind i p (seal_obstacle p.seal i p.state)) (of_sealed new ≡ of_sealed p) n) (sym free)
    ((λ _. after), (λ more. absurd (omega (arith, zero, more)))))

-- what stands in the way is told, or memory was refused
refused_by : (i : Input) (p new : SealedPlay) (n : ℕ) (w : RefusedWhy) → ((o : Obstacle) → w ≡ refusal_for o → seal_obstacle p.seal i p.state ≡ Some o) → of_sealed new ≡ of_sealed p → n ≡ why_number w → TakesBySeal i p new n
refused_by i p new n w barred same told = by w barred told
  where
    one : (v : RefusedWhy) (o : Obstacle) → v ≡ refusal_for o → seal_obstacle p.seal i p.state ≡ Some o → n ≡ why_number v → TakesBySeal i p new n
    one v o is stands number =
        inl (subst (λ (x : Option Obstacle). Does (option_map refusal_for x) (of_sealed new ≡ sealed_behind i p (seal_obstacle p.seal i p.state)) (of_sealed new ≡ of_sealed p) n) (sym stands)
        (number ∙ ap why_number is, same))

    by : (v : RefusedWhy) → ((o : Obstacle) → v ≡ refusal_for o → seal_obstacle p.seal i p.state ≡ Some o) → n ≡ why_number v → TakesBySeal i p new n
    by refused.NoMemory each number = inr (number, same)
    by refused.Ended each number = one refused.Ended obstacle.Ended refl (each obstacle.Ended refl) number
    by refused.TickRange each number = one refused.TickRange obstacle.TickRange refl (each obstacle.TickRange refl) number
    by refused.Begun each number = one refused.Begun obstacle.Begun refl (each obstacle.Begun refl) number
    by refused.NotLate each number = one refused.NotLate obstacle.NotLate refl (each obstacle.NotLate refl) number
    by refused.Differs each number = one refused.Differs obstacle.Differs refl (each obstacle.Differs refl) number
    by refused.TooLarge each number = one refused.TooLarge obstacle.TooLarge refl (each obstacle.TooLarge refl) number
    by refused.TooMany each number = one refused.TooMany obstacle.TooMany refl (each obstacle.TooMany refl) number
    by refused.ClockFull each number = one refused.ClockFull obstacle.ClockFull refl (each obstacle.ClockFull refl) number
    by refused.QueueFull each number = one refused.QueueFull obstacle.QueueFull refl (each obstacle.QueueFull refl) number

pub sealed_refused : (i : Input) (p new : SealedPlay) (r : Result (Unit {0}) Refused) (x : Refused) (why : RefusedWhy) (n : ℕ)
    → r ≡ Err x → IfErr r (λ y. (o : Obstacle) → y.why ≡ refusal_for o → seal_obstacle p.seal i p.state ≡ Some o) → OnErr r (new ≡ p) → why ≡ x.why → n ≡ why_number why → TakesBySeal i p new n
sealed_refused i p new r x why n is barred kept so number =
    let same : new ≡ p = subst (λ (y : Result (Unit {0}) Refused). OnErr y (new ≡ p)) is kept in
    refused_by i p new n x.why (subst (λ (y : Result (Unit {0}) Refused). IfErr y (λ z. (o : Obstacle) → z.why ≡ refusal_for o → seal_obstacle p.seal i p.state ≡ Some o)) is barred) (ap of_sealed same) (number ∙ ap why_number so)
