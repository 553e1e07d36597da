-- Runs beside programs, that go on by one move.
use Rattle.std.specs.Prelude.{◌≡◌, ℕ, ◌+◌, ◌<◌, ◌≤◌, ◌==◌, Bool, true, false, if◌then◌else◌, List, [], ◌∷◌, ◌++◌, length, take, Option, refl}
use Rattle.std.proofs.Common.{◌∙◌, ap, sym, subst, get_or}
use Rattle.std.proofs.lemmas.Bool.{eqb-true}
use Rattle.std.proofs.lemmas.List.{take_all, take_more}
use Rattle.mh_model.specs.declared.input.Move.{Move}
use Rattle.mh_model.specs.declared.program.Call.{Call}
use Rattle.mh_model.specs.declared.program.Outcome.{Outcome}
use Rattle.mh_model.specs.declared.program.Signature.{Signature}
use Rattle.mh_model.specs.Limits.{most_steps}
use Rattle.mh_model.specs.Receiver.{IsCountedStep, IsRun, IsStep, IsStepped, IsStepWith}
use Rattle.mh_model.specs.State.{State}
use Rattle.mh_model.specs.Step.{is_settled, step}
use Rattle.mh_machine.proofs.StepLemmas.{stepped_room}
use Rattle.mh_engine.specs.Answer.{is_counted}
use Rattle.mh_engine.specs.Beside.{IsCountedRun, IsPlayed}
use Rattle.mh_engine.specs.Play.{Play}
use Rattle.mh_engine.proofs.ReceiverLemmas.{rest_next}

-- a step that is made where it is counted, or nothing is left to do, is the move
pub step_moved : (ss : List Signature) (may : Call → Outcome → Type 0) (s t : State) → IsStep ss may s t → (s.taken ≡ most_steps → is_settled s ≡ true) → IsStepped ss may s t
step_moved ss may s t made room = by (s.taken == most_steps) refl
  where
    by : (b : Bool) → (s.taken == most_steps) ≡ b → IsCountedStep b ss may s t
    by false e = made
    by true e =
        let settled : is_settled s ≡ true = room (eqb-true s.taken most_steps e) in
        let plain : t ≡ step s = subst (λ (c : Option Call). IsStepWith may c s t) (rest_next ss s settled) made in
        plain ∙ sym (stepped_room s room) ∙ ap (λ (b : Bool). if b then s else step s) e

more_made : (ss : List Signature) (may : Call → Outcome → Type 0) (ms : List Move) (m : Move) (p q r : Play) → IsCountedRun ss may ms p q → is_counted m q.state ≡ true → IsPlayed ss may m q r → IsCountedRun ss may (ms ++ m ∷ []) p r
more_made ss may [] m p q r so counted played =
    (r, subst (λ (x : Play). is_counted m x.state ≡ true) so counted, subst (λ (x : Play). IsPlayed ss may m x r) so played, refl)
more_made ss may (n ∷ ns) m p q r so counted played = (so.0, so.1, so.2, more_made ss may ns m so.0 q r so.3 counted played)

-- one move more, the one that stands at this place
pub next_played : (ss : List Signature) (may : Call → Outcome → Type 0) (ms : List Move) (i : ℕ) (m : Move) (p q r : Play) → i < length ms → get_or ms i m ≡ m → IsCountedRun ss may (take i ms) p q → is_counted m q.state ≡ true → IsPlayed ss may m q r → IsCountedRun ss may (take (i + 1) ms) p r
next_played ss may ms i m p q r inside at so counted played =
    subst (λ (l : List Move). IsCountedRun ss may l p r) (sym (take_more ms i m inside ∙ ap (λ (x : Move). take i ms ++ x ∷ []) at))
    (more_made ss may (take i ms) m p q r so counted played)

-- the same beside programs that stay what they are
pub next_beside : {Q : Type 0} (ss : Q → List Signature) (may : Q → Call → Outcome → Type 0) (q o : Q) (ms : List Move) (i : ℕ) (m : Move) (s t u : Play) → q ≡ o → i < length ms → get_or ms i m ≡ m → IsCountedRun (ss o) (may o) (take i ms) s t → is_counted m t.state ≡ true → IsPlayed (ss q) (may q) m t u → IsCountedRun (ss o) (may o) (take (i + 1) ms) s u
next_beside {Q} ss may q o ms i m s t u same inside at so counted played =
    next_played (ss o) (may o) ms i m s t u inside at so counted (subst (λ (x : Q). IsPlayed (ss x) (may x) m t u) same played)

-- each run whose steps are counted is a run
pub counted_run : (ss : List Signature) (may : Call → Outcome → Type 0) (ms : List Move) (p q : Play) → IsCountedRun ss may ms p q → IsRun ss may ms p.state q.state
counted_run ss may [] p q so = ap (λ (x : Play). x.state) so
counted_run ss may (m ∷ ms) p q so = (so.0.state, so.2.moved, counted_run ss may ms so.0 q so.3)

-- at the end of the moves
pub whole_run : (ss : List Signature) (may : Call → Outcome → Type 0) (ms : List Move) (i : ℕ) (p q : Play) → length ms ≤ i → IsCountedRun ss may (take i ms) p q → IsRun ss may ms p.state q.state
whole_run ss may ms i p q end so = counted_run ss may ms p q (subst (λ (l : List Move). IsCountedRun ss may l p q) (take_all i ms end) so)
