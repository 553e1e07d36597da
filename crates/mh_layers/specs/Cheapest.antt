-- By the least flow effects cost least, and cause least.
use Rattle.std.specs.Prelude.{ℕ}
use Rattle.mh_model.specs.Service.{Service}
use Rattle.mh_laws.specs.Budget.{AreSmall, six_costs}
use Rattle.mh_laws.specs.Costs.{Effect}
use Rattle.mh_laws.specs.Flow.{Flow, IsSolution}
use Rattle.mh_laws.specs.Layers.{Causes, IsLayering, IsOn, costs}
use Rattle.mh_laws.specs.Least.{IsLeast}

-- what is active by the least flow is so by the other, what an effect causes by the least flow it causes by the other, a
-- layering by the other is one by the least flow, and what is small by the other is small by the least flow
pub record IsCheapest (v : Service) (least w : Flow) : Type 0 where
  pub active : (x : Effect) → IsOn v least x → IsOn v w x
  pub causes : (x y : Effect) → Causes v least x y → Causes v w x y
  pub layering : (rank : Effect → ℕ) → IsLayering v w rank → IsLayering v least rank
  pub small :
      (rank : Effect → ℕ) (most : ℕ) → AreSmall most (six_costs v w (costs v w rank)) →
      AreSmall most (six_costs v least (costs v least rank))

-- each solution has all that the least flow has
abbrev pub LeastIsCheapest : Type 0
LeastIsCheapest = (v : Service) (least w : Flow) → IsLeast v least → IsSolution v w → IsCheapest v least w
