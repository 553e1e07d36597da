-- What is refused for a cycle, or for too many steps, is accepted by no flow.
use Rattle.std.specs.Prelude.{◌≡◌, ◌<◌, ◌≤◌, ℕ, false, true, List, [], ◌∷◌, length}
use Rattle.std.proofs.Common.{arith}
use Rattle.mh_model.specs.Configuration.{is_service}
use Rattle.mh_model.specs.Service.{Service}
use Rattle.mh_laws.specs.Budget.{AreSmall, Bounds, IsAccepted, six_costs}
use Rattle.mh_laws.specs.Costs.{Effect, effect_price}
use Rattle.mh_laws.specs.Flow.{Flow}
use Rattle.mh_laws.specs.Layers.{Causes, IsLayering, IsOn, costs}
use Rattle.mh_laws.specs.Least.{IsLeast}
use Rattle.mh_laws.proofs.LayerLemmas.{costs_exist}
use Rattle.mh_laws.proofs.NodeLemmas.{effect_nodes}
use Rattle.mh_laws.proofs.PriceLemmas.{of_nodes}
use Rattle.mh_layers.specs.declared.arrows.arrow.Arrow.{Arrow}
use Rattle.mh_layers.specs.declared.bounds.InputKind.{InputKind}
use Rattle.mh_layers.specs.declared.bounds.InputKind.TheVariants as kind
use Rattle.mh_layers.specs.Arrows.{AreFirstArrows}
use Rattle.mh_layers.specs.Bounding.{bound_by}
use Rattle.mh_layers.specs.Cheapest.{IsCheapest}
use Rattle.mh_layers.specs.Cycle.{Leads, NoCycles, onward, once}
use Rattle.mh_layers.proofs.CheapestLemmas.{least_is_cheapest}
use Rattle.mh_verify.specs.Refusals.{CostlyIsNot, CyclicIsNot}

-- Cycles

-- what an active effect causes is active
caused_on : (v : Service) (w : Flow) (x y : Effect) → is_service v ≡ true → IsOn v w x → Causes v w x y → IsOn v w y
caused_on v w x y good on causes = of_nodes (IsOn v w) (effect_price v w x) (effect_nodes v w x good on) y causes

falls : (v : Service) (w : Flow) (rank : Effect → ℕ) → is_service v ≡ true → IsLayering v w rank → (x : Effect) (zs : List Effect) (z : Effect) → IsOn v w x → Leads v w x zs z → rank z < rank x
falls v w rank good layering x [] z on (once _ _ causes) = layering x z on causes
falls v w rank good layering x (y ∷ zs) z on (onward _ _ _ _ causes more) =
    further (rank z) (rank y) (rank x) (falls v w rank good layering y zs z (caused_on v w x y good on causes) more) (layering x y on causes)
  where
    further : (a b c : ℕ) → a < b → b < c → a < c
    further a b c h k = omega (arith, h, k)

-- where there is a layering no effect puts itself to work
layered_has_none : (v : Service) (w : Flow) (rank : Effect → ℕ) → is_service v ≡ true → IsLayering v w rank → NoCycles v w
layered_has_none v w rank good layering x zs cycle = never (rank x) (falls v w rank good layering x zs x cycle.on cycle.leads)
  where
    never : (n : ℕ) → n < n → ⊥
    never n h = omega (arith, h)

cheapest : (most : ℕ) (s : Service) (w : Flow) → IsLeast s w → (k : IsAccepted most s) → IsCheapest s w k.flow
cheapest most s w least k = least_is_cheapest s w k.flow least k.acceptable.solution

pub cyclic_is_not : CyclicIsNot
cyclic_is_not s w cs least first most k =
    layered_has_none s w k.rank k.acceptable.service ((cheapest most s w least k).layering k.rank k.layering) first.effect first.behind first.first.cycle

-- what goes round has an arrow
pub some_arrows : (v : Service) (w : Flow) (arrows : List Arrow) → AreFirstArrows v w arrows → 0 < length arrows
some_arrows v w [] first = absurd (never first.round)
  where
    never : false ≡ true → ⊥
    never e = cc
some_arrows v w (a ∷ rest) first = omega arith

-- Steps

small_by : (most : ℕ) (b : Bounds) (k : InputKind) → AreSmall most b → bound_by b k ≤ most
small_by most b kind.Start small = small.start
small_by most b kind.Key small = small.key
small_by most b kind.Tick small = small.tick
small_by most b kind.Stream small = small.stream
small_by most b kind.Engine small = small.engine
small_by most b kind.Arrive small = small.arrive

pub costly_is_not : CostlyIsNot
costly_is_not s w most input least above k =
    let c = cheapest most s w least k in
    let exact = costs_exist s w k.rank k.acceptable.service (c.layering k.rank k.layering) in
    let cost = costs s w k.rank in
    apart (bound_by (six_costs s w cost) input) most (small_by most (six_costs s w cost) input (c.small k.rank most k.small)) (above cost exact).above
  where
    apart : (a b : ℕ) → a ≤ b → b < a → ⊥
    apart a b h g = omega (arith, h, g)
