-- What is found of a service: what is wrong; or effects that put themselves to work; or a kind of input that can lead to too
-- many steps; or the bounds by which it is accepted.
use Rattle.std.specs.Prelude.{◌≡◌, ℕ, List, [], ◌∷◌, Some, None}
use Rattle.mh_model.specs.Service.{Service}
use Rattle.mh_laws.specs.Acceptable.{IsAcceptableBy}
use Rattle.mh_laws.specs.Budget.{six_costs}
use Rattle.mh_laws.specs.Costs.{Costing, Effect}
use Rattle.mh_laws.specs.Flow.{Flow}
use Rattle.mh_laws.specs.Layers.{IsCost, IsLayering}
use Rattle.mh_flow.specs.Solved.{Solved, flow_in}
use Rattle.mh_layers.specs.declared.bounds.InputKind.{InputKind}
use Rattle.mh_layers.specs.declared.arrows.arrow.Arrow.{Arrow}
use Rattle.mh_layers.specs.declared.cause.Cause.{Cause}
use Rattle.mh_layers.specs.Arrows.{AreFirstArrows}
use Rattle.mh_layers.specs.Bounding.{IsFirstAbove}
use Rattle.mh_verify.specs.declared.refusal.Refusal.{Refusal}
use Rattle.mh_verify.specs.declared.refusal.RefusalKind.TheVariants as kind
use Rattle.mh_verify.specs.declared.verdict.Cycle.{Cycle}
use Rattle.mh_verify.specs.declared.verdict.Head.{Head}
use Rattle.mh_verify.specs.declared.verdict.Verdict.{Verdict}
use Rattle.mh_verify.specs.declared.verdict.Verdict.TheVariants as verdict
use Rattle.mh_verify.specs.Free.{IsAcceptedBy, most_cost}
use Rattle.mh_verify.specs.Least.{IsFirstNamed}

-- the place of an effect
abbrev pub head_of : Cause → Head
head_of x = record { place = record { group = x.at.group; object = x.at.number; index = x.index }; action = x.action; config = x.config }

-- the cycle is of these arrows, and its head is the place of the first effect
pub record IsHeaded (arrows : List Arrow) (k : Cycle) : Type 0 where
  pub first : Arrow
  pub behind : List Arrow
  pub all : arrows ≡ first ∷ behind
  pub is : k ≡ record { head = head_of first.cause; arrows = first ∷ behind }

-- nothing can be stuck, but these effects put themselves to work, and come first
pub record IsCyclic (s : Service) (w : Flow) (k : Cycle) : Type 0 where
  pub acceptable : IsAcceptableBy s w
  pub arrows : List Arrow
  pub first : AreFirstArrows s w arrows
  pub headed : IsHeaded arrows k

-- nothing can be stuck and no effect puts itself to work, but an input of this kind can lead to too many steps
pub record IsCostly (s : Service) (w : Flow) (k : InputKind) : Type 0 where
  pub acceptable : IsAcceptableBy s w
  pub rank : Effect → ℕ
  pub layering : IsLayering s w rank
  pub first : (cost : Costing) → IsCost s w cost → IsFirstAbove most_cost (six_costs s w cost) k

abbrev pub IsVerdict : Service → Solved → Verdict → Type 0
IsVerdict s f (verdict.Wrong x k) = IsFirstNamed s (flow_in s f) x k
IsVerdict s f (verdict.Cyclic k) = IsCyclic s (flow_in s f) k
IsVerdict s f (verdict.Costly k) = IsCostly s (flow_in s f) k
IsVerdict s f (verdict.Fine b) = IsAcceptedBy s f b

-- the refusal of a service for a cycle
abbrev pub refusal_of_cycle : Service → Cycle → Refusal
refusal_of_cycle s k = record {
  kind = kind.Cycle;
  place = Some k.head.place;
  action = k.head.action;
  config = Some k.head.config;
  object = None;
  chain = [];
  cycle = k.arrows;
  service = s;
}
