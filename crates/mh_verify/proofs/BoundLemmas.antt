-- What bounds say that are capped at the largest number of 64 bits, and what a verdict of them says of a service.
use Rattle.std.specs.Prelude.{◌≡◌, ◌<◌, ◌≤◌, ℕ, min, refl}
use Rattle.std.proofs.Common.{arith, ◌∙◌, sym, subst}
use Rattle.std.proofs.Math.Nat.{min-eq_left, min-le_left}
use Rattle.mh_model.specs.Service.{Service}
use Rattle.mh_laws.specs.Acceptable.{IsAcceptableBy}
use Rattle.mh_laws.specs.Budget.{AreSmall, Bounds, six_costs}
use Rattle.mh_laws.specs.Costs.{Costing}
use Rattle.mh_laws.specs.Layers.{costs}
use Rattle.mh_laws.proofs.LayerLemmas.{costs_exist}
use Rattle.mh_flow.specs.Solved.{IsFlowOf, Solved, flow_in}
use Rattle.mh_layers.specs.declared.bounds.InputKind.{InputKind}
use Rattle.mh_layers.specs.declared.bounds.InputKind.TheVariants as kind
use Rattle.mh_layers.specs.Bounding.{IsFirstAbove, bound_by, capped}
use Rattle.mh_layers.specs.Known.{top}
use Rattle.mh_layers.specs.Layered.{AreLayersOf, Layered, rank_laid}
use Rattle.mh_verify.specs.Free.{IsAcceptedBy, most_cost}
use Rattle.mh_verify.specs.Verdicts.{IsCostly}

-- Numbers under the cap

below_top : most_cost < top
below_top = omega arith

-- what is at most so much under the cap is so without it
under : (n most : ℕ) → most < top → min n top ≤ most → n ≤ most
under n most less h = omega (arith, less, h)

-- and is the number itself
itself : (n most : ℕ) → most < top → min n top ≤ most → min n top ≡ n
itself n most less h = min-eq_left (omega (arith, under n most less h, less))

over : (n most : ℕ) → most < min n top → most < n
over n most h = omega (arith, h, min-le_left n top)

-- Bounds under the cap

bound_capped : (b : Bounds) (k : InputKind) → bound_by (capped b) k ≡ min (bound_by b k) top
bound_capped b kind.Start = refl
bound_capped b kind.Key = refl
bound_capped b kind.Tick = refl
bound_capped b kind.Stream = refl
bound_capped b kind.Engine = refl
bound_capped b kind.Arrive = refl

first_uncapped : (most : ℕ) (b : Bounds) (k : InputKind) → most < top → IsFirstAbove most (capped b) k → IsFirstAbove most b k
first_uncapped most b k less h = record {
  above = over (bound_by b k) most (subst (λ (n : ℕ). most < n) (bound_capped b k) h.above);
  first = λ j earlier. under (bound_by b j) most less (subst (λ (n : ℕ). n ≤ most) (bound_capped b j) (h.first j earlier));
}

small_uncapped : (most : ℕ) (b : Bounds) → most < top → AreSmall most (capped b) → AreSmall most b
small_uncapped most b less h = record {
  start = under b.start most less h.start;
  key = under b.key most less h.key;
  tick = under b.tick most less h.tick;
  stream = under b.stream most less h.stream;
  engine = under b.engine most less h.engine;
  arrive = under b.arrive most less h.arrive;
}

all_uncapped : (most : ℕ) (b : Bounds) → most < top → AreSmall most (capped b) → capped b ≡ b
all_uncapped most b less h = λ i. record {
  start = itself b.start most less h.start i;
  key = itself b.key most less h.key i;
  tick = itself b.tick most less h.tick i;
  stream = itself b.stream most less h.stream i;
  engine = itself b.engine most less h.engine i;
  arrive = itself b.arrive most less h.arrive i;
}

-- Verdicts

-- by layers with small bounds the service is accepted
pub accepted_by : (s : Service) (f : Solved) (l : Layered) → IsFlowOf s f → IsAcceptableBy s (flow_in s f) → AreLayersOf s f l → AreSmall most_cost l.bounds → IsAcceptedBy s f l.bounds
accepted_by s f l flow good layers small =
    let w = flow_in s f in
    let cost : Costing = costs s w (rank_laid l) in
    let is : l.bounds ≡ capped (six_costs s w cost) = layers.bounds cost (costs_exist s w (rank_laid l) good.service layers.layering) in
    let capped_small : AreSmall most_cost (capped (six_costs s w cost)) = subst (AreSmall most_cost) is small in
    record {
      flow = flow;
      accepted = record {
        flow = w;
        acceptable = good;
        rank = rank_laid l;
        layering = layers.layering;
        small = small_uncapped most_cost (six_costs s w cost) below_top capped_small;
      };
      by = refl;
      bounds = sym (is ∙ all_uncapped most_cost (six_costs s w cost) below_top capped_small);
    }

-- by layers with a bound that is too large it is not, for any exact costs
pub costly_by : (s : Service) (f : Solved) (l : Layered) (k : InputKind) → IsAcceptableBy s (flow_in s f) → AreLayersOf s f l → IsFirstAbove most_cost l.bounds k → IsCostly s (flow_in s f) k
costly_by s f l k good layers first = record {
  acceptable = good;
  rank = rank_laid l;
  layering = layers.layering;
  first = λ cost exact.
      first_uncapped most_cost (six_costs s (flow_in s f) cost) k below_top (subst (λ (b : Bounds). IsFirstAbove most_cost b k) (layers.bounds cost exact) first);
}
