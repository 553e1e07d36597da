-- A run that goes on by one move.
use Rattle.std.specs.Prelude.{◌≡◌, ℕ, ◌+◌, ◌<◌, Bool, true, ◌&&◌, List, [], ◌∷◌, ◌++◌, length, take, refl}
use Rattle.std.proofs.Common.{◌∙◌, ap, sym, get_or}
use Rattle.std.proofs.Math.Bool.{and_assoc, and-true}
use Rattle.std.proofs.lemmas.List.{take_more}
use Rattle.mh_model.specs.declared.input.Move.{Move}
use Rattle.mh_model.specs.State.{State}
use Rattle.mh_model.specs.Step.{run, moved}
use Rattle.mh_laws.specs.Budget.{Bounds}
use Rattle.mh_engine.specs.Answer.{is_counted, are_counted}
use Rattle.mh_engine.specs.Play.{budget_after, budget_behind}

pub run-append : (xs ys : List Move) (s : State) → run (xs ++ ys) s ≡ run ys (run xs s)
run-append [] ys s = refl
run-append (x ∷ xs) ys s = run-append xs ys (moved x s)

pub run-next : (ms : List Move) (i : ℕ) (d : Move) (s : State) → i < length ms → run (take (i + 1) ms) s ≡ moved (get_or ms i d) (run (take i ms) s)
run-next ms i d s inside = ap (λ (t : List Move). run t s) (take_more ms i d inside) ∙ run-append (take i ms) (get_or ms i d ∷ []) s

pub counted-append : (xs ys : List Move) (s : State) → are_counted (xs ++ ys) s ≡ are_counted xs s && are_counted ys (run xs s)
counted-append [] ys s = refl
counted-append (x ∷ xs) ys s = ap (λ (b : Bool). is_counted x s && b) (counted-append xs ys (moved x s)) ∙ sym (and_assoc (is_counted x s) (are_counted xs (moved x s)) (are_counted ys (run xs (moved x s))))

-- one move more is counted as that move is, where those before it are
pub counted-next : (ms : List Move) (i : ℕ) (d : Move) (s : State) → i < length ms → are_counted (take i ms) s ≡ true → are_counted (take (i + 1) ms) s ≡ is_counted (get_or ms i d) (run (take i ms) s)
counted-next ms i d s inside so =
    ap (λ (t : List Move). are_counted t s) (take_more ms i d inside) ∙ counted-append (take i ms) (get_or ms i d ∷ []) s
    ∙ ap (λ (b : Bool). b && (is_counted (get_or ms i d) (run (take i ms) s) && true)) so ∙ and-true (is_counted (get_or ms i d) (run (take i ms) s))

-- the same of the move that is at this place

pub next_made : (ms : List Move) (i : ℕ) (m : Move) (s : State) → i < length ms → get_or ms i m ≡ m → moved m (run (take i ms) s) ≡ run (take (i + 1) ms) s
next_made ms i m s inside at =
    ap (λ (x : Move). moved x (run (take i ms) s)) (sym at) ∙ sym (run-next ms i m s inside)

pub next_counted : (ms : List Move) (i : ℕ) (m : Move) (s : State) → i < length ms → get_or ms i m ≡ m → are_counted (take i ms) s ≡ true → are_counted (take (i + 1) ms) s ≡ is_counted m (run (take i ms) s)
next_counted ms i m s inside at so =
    counted-next ms i m s inside so ∙ ap (λ (x : Move). is_counted x (run (take i ms) s)) at

-- the budget behind it, where bounds and budget are those that the engine has then

paid-append : (b : Bounds) (xs ys : List Move) (s : State) (n : ℕ) → budget_after b (xs ++ ys) s n ≡ budget_after b ys (run xs s) (budget_after b xs s n)
paid-append b [] ys s n = refl
paid-append b (x ∷ xs) ys s n = paid-append b xs ys (moved x s) (budget_behind b x s n)

paid-next : (b : Bounds) (ms : List Move) (i : ℕ) (m : Move) (s : State) (n : ℕ) → i < length ms → get_or ms i m ≡ m → budget_behind b m (run (take i ms) s) (budget_after b (take i ms) s n) ≡ budget_after b (take (i + 1) ms) s n
paid-next b ms i m s n inside at =
    sym (ap (λ (t : List Move). budget_after b t s n) (take_more ms i m inside ∙ ap (λ (x : Move). take i ms ++ x ∷ []) at) ∙ paid-append b (take i ms) (m ∷ []) s n)

pub next_paid : (b c : Bounds) (ms : List Move) (i : ℕ) (m : Move) (s t : State) (n k : ℕ) → i < length ms → get_or ms i m ≡ m → c ≡ b → t ≡ run (take i ms) s → k ≡ budget_after b (take i ms) s n → budget_behind c m t k ≡ budget_after b (take (i + 1) ms) s n
next_paid b c ms i m s t n k inside at bounds state budget =
    ap (λ (x : Bounds). budget_behind x m t k) bounds ∙ ap (λ (x : State). budget_behind b m x k) state
    ∙ ap (budget_behind b m (run (take i ms) s)) budget ∙ paid-next b ms i m s n inside at
