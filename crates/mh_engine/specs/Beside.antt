-- Runs beside the programs of a receiver, of which an engine counts each step.
use Rattle.std.specs.Prelude.{◌≡◌, true, List, [], ◌∷◌}
use Rattle.mh_model.specs.declared.input.Move.{Move}
use Rattle.mh_model.specs.declared.program.Call.{Call}
use Rattle.mh_model.specs.declared.program.Outcome.{Outcome}
use Rattle.mh_model.specs.declared.program.Signature.{Signature}
use Rattle.mh_model.specs.Receiver.{IsMoved}
use Rattle.mh_engine.specs.Answer.{is_counted}
use Rattle.mh_engine.specs.Play.{Play, budget_behind}

-- a move, by what may come of the calls: a post that is accepted adds to the budget, and all else stays
pub record IsPlayed (ss : List Signature) (may : Call → Outcome → Type 0) (m : Move) (p q : Play) : Type 0 where
  pub moved : IsMoved ss may m p.state q.state
  pub accepted : q.accepted ≡ p.accepted
  pub bounds : q.bounds ≡ p.bounds
  pub budget : q.budget ≡ budget_behind p.bounds m p.state p.budget

-- the moves are made in order, by what may come of the calls, and each step move is counted
abbrev pub IsCountedRun : List Signature → (Call → Outcome → Type 0) → List Move → Play → Play → Type 0
IsCountedRun ss may [] p q = q ≡ p
IsCountedRun ss may (m ∷ ms) p q =
    (u : Play) × (is_counted m p.state ≡ true) × IsPlayed ss may m p u × IsCountedRun ss may ms u q
