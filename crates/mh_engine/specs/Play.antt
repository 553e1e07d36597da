-- An engine: the machine that it plays, whether its service was accepted by the verifier, and its budget.
use Rattle.std.specs.Prelude.{◌≡◌, ℕ, ◌+◌, min, Bool, true, false, List, [], ◌∷◌}
use Rattle.mh_model.specs.declared.input.Move.{Move}
use Rattle.mh_model.specs.Service.{Service}
use Rattle.mh_model.specs.State.{State}
use Rattle.mh_model.specs.Step.{moved}
use Rattle.mh_laws.specs.Budget.{Bounds, Goes, IsCosted, paid}
use Rattle.mh_laws.specs.Costs.{Costing}
use Rattle.mh_laws.specs.Flow.{Flow}
use Rattle.mh_layers.specs.Known.{top}

pub record Play : Type 0 where
  pub state : State
  pub accepted : Bool
  -- what the start and inputs are bound to
  pub bounds : Bounds
  -- the most steps that may be taken for what was posted so far
  pub budget : ℕ

-- of what no verifier has seen nothing is known: as many steps may be taken as 64 bits can count
abbrev pub unbounded : Bounds
unbounded = record { start = top; key = top; tick = top; stream = top; engine = top; arrive = top }

-- a budget with so many steps more, cut at the largest number of 64 bits
abbrev pub with_more : ℕ → ℕ → ℕ
with_more budget n = min (budget + n) top

-- the budget behind a move: a post that is accepted adds the bound of its input
abbrev pub budget_behind : Bounds → Move → State → ℕ → ℕ
budget_behind b m s budget = with_more budget (paid b m s)

-- and behind some moves
abbrev pub budget_after : Bounds → List Move → State → ℕ → ℕ
budget_after b [] s budget = budget
budget_after b (m ∷ ms) s budget = budget_after b ms (moved m s) (budget_behind b m s budget)

-- The state goes well with these bounds and this budget: by some flow and costs it is the state of a run of an accepted
-- service, in which no more steps were taken than so many, or than 64 bits can count.
pub record IsWithin (b : Bounds) (budget : ℕ) (s : State) : Type 0 where
  pub service : Service
  pub flow : Flow
  pub cost : Costing
  pub steps : ℕ
  pub costed : IsCosted service flow cost b
  pub goes : Goes service flow cost b steps s
  pub capped : budget ≡ min steps top

-- what every engine keeps
pub record IsKept (p : Play) : Type 0 where
  pub accepted : p.accepted ≡ true → IsWithin p.bounds p.budget p.state
  pub lenient : p.accepted ≡ false → p.budget ≡ top
