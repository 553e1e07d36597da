-- What is known of an accepted service.
use Rattle.std.specs.Prelude.{◌≡◌, ℕ, List}
use Rattle.mh_model.specs.declared.program.Signature.{Signature}
use Rattle.mh_model.specs.Service.{Service}
use Rattle.mh_laws.specs.Budget.{Bounds, IsAccepted, bounds}
use Rattle.mh_flow.specs.Solved.{Solved, IsFlowOf, flow_in}

-- the most steps to which the start of an accepted service, and each of its inputs, can lead
abbrev pub most_cost : ℕ
most_cost = 1000000

-- an accepted service, with the programs that the receiver has for it, and its bounds
pub record Verified : Type 0 where
  pub service : Service
  pub bounds : Bounds

-- the service is accepted by this flow, its least, with these bounds
pub record IsAcceptedBy (s : Service) (f : Solved) (b : Bounds) : Type 0 where
  pub flow : IsFlowOf s f
  pub accepted : IsAccepted most_cost s
  pub by : accepted.flow ≡ flow_in s f
  pub bounds : bounds accepted ≡ b

-- it is accepted with its bounds
pub record IsVerified (a : Verified) : Type 0 where
  pub flow : Solved
  pub by : IsAcceptedBy a.service flow a.bounds

-- without the service
pub record Warrant : Type 0 where
  pub flow : Solved
  pub bounds : Bounds
  -- the programs that the receiver has for it
  pub programs : List Signature

abbrev pub IsWarranted : Service → Warrant → Type 0
IsWarranted s w = IsAcceptedBy s w.flow w.bounds
