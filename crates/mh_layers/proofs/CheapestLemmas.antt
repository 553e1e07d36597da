-- By the least flow effects cost least, and cause least.
use Rattle.std.specs.Prelude.{◌≤◌, ℕ, zero, suc, [], filter, pos}
use Rattle.std.specs.List.{flat_map}
use Rattle.std.proofs.Common.{arith}
use Rattle.mh_model.specs.declared.config.Config.{Config}
use Rattle.mh_model.specs.declared.input.Input.{Input}
use Rattle.mh_model.specs.declared.input.Input.TheVariants as input
use Rattle.mh_model.specs.declared.key.Key.TheVariants as key
use Rattle.mh_model.specs.Configuration.{present, starting}
use Rattle.mh_model.specs.Service.{Service}
use Rattle.mh_laws.specs.Active.{is_active}
use Rattle.mh_laws.specs.Budget.{AreSmall, input_cost, six_costs, start_cost}
use Rattle.mh_laws.specs.Costs.{Costing, Effect, effect_price, input_price}
use Rattle.mh_laws.specs.Flow.{Flow}
use Rattle.mh_laws.specs.Layers.{active_effects, costs, counted_to, effects_in, most_of}
use Rattle.mh_laws.proofs.PriceLemmas.{le_trans, worth_at_most}
use Rattle.mh_layers.specs.Cheapest.{LeastIsCheapest}
use Rattle.mh_layers.proofs.CheapCostLemmas.{effect_below, enter_below}
use Rattle.mh_layers.proofs.CheapFlowLemmas.{IsWithin, configs_within, least_within}
use Rattle.mh_layers.proofs.CheapListLemmas.{Within, joined_within, most_within}
use Rattle.mh_layers.proofs.CheapPriceLemmas.{below_dearest}
use Rattle.mh_layers.proofs.CheapTimerLemmas.{input_below}

-- what is active by a flow within another is active by the other
effects_within : (v : Service) (least w : Flow) → IsWithin least w → Within (active_effects v least) (active_effects v w)
effects_within v least w k =
    joined_within (λ (c : Config). flat_map (effects_in c) (filter (is_active (present v c)) (present v c))) (λ (c : Config). flat_map (effects_in c) (filter (is_active (present v c)) (present v c)))
    least.configs w.configs (configs_within least w k) (λ c x there. there)

-- Costs

counted_less : (v : Service) (least w : Flow) → IsWithin least w → (n : ℕ) (x : Effect) → counted_to v least n x ≤ counted_to v w n x
counted_less v least w k zero x = omega arith
counted_less v least w k (suc n) x = (effect_below v least w k x).costs (counted_to v least n) (counted_to v w n) (counted_less v least w k n)

-- counted deeper, an effect costs no less
counted_grows : (v : Service) (w : Flow) (n m : ℕ) → n ≤ m → (x : Effect) → counted_to v w n x ≤ counted_to v w m x
counted_grows v w zero m h x = least (counted_to v w m x)
  where
    least : (a : ℕ) → 0 ≤ a
    least a = omega arith
counted_grows v w (suc n) zero h x = absurd (omega (arith, h))
counted_grows v w (suc n) (suc m) h x = worth_at_most (counted_to v w n) (counted_to v w m) (counted_grows v w n m (omega (arith, h))) (effect_price v w x)

costs_less : (v : Service) (least w : Flow) → IsWithin least w → (rank : Effect → ℕ) (x : Effect) → costs v least rank x ≤ costs v w rank x
costs_less v least w k rank x =
    let few : ℕ = suc (most_of rank (active_effects v least)) in
    let many : ℕ = suc (most_of rank (active_effects v w)) in
    le_trans (counted_to v least few x) (counted_to v least many x) (counted_to v w many x)
    (counted_grows v least few many (next (most_of rank (active_effects v least)) (most_of rank (active_effects v w)) (most_within rank (active_effects v least) (active_effects v w) (effects_within v least w k))) x)
    (counted_less v least w k many x)
  where
    next : (a b : ℕ) → a ≤ b → suc a ≤ suc b
    next a b h = omega (arith, h)

-- The six costs

start_less : (v : Service) (least w : Flow) → IsWithin least w → (f g : Costing) → ((x : Effect) → f x ≤ g x) → start_cost v least f ≤ start_cost v w g
start_less v least w k f g less = (enter_below v least w k (starting v) v.start).costs f g less

input_less : (v : Service) (least w : Flow) → IsWithin least w → (f g : Costing) → ((x : Effect) → f x ≤ g x) → (i : Input) → input_cost v least f i ≤ input_cost v w g i
input_less v least w k f g less i =
    (below_dearest (λ (c : Config). input_price v least c i) (λ (c : Config). input_price v w c i) (λ c. input_below v least w k c i) least.configs w.configs (configs_within least w k)).costs f g less

six_less : (v : Service) (least w : Flow) → IsWithin least w → (f g : Costing) → ((x : Effect) → f x ≤ g x) → (most : ℕ) → AreSmall most (six_costs v w g) → AreSmall most (six_costs v least f)
six_less v least w k f g less most small =
    record {
      start = le_trans _ _ _ (start_less v least w k f g less) small.start;
      key = le_trans _ _ _ (input_less v least w k f g less (input.Key key.Red)) small.key;
      tick = le_trans _ _ _ (input_less v least w k f g less (input.Tick 0)) small.tick;
      stream = le_trans _ _ _ (input_less v least w k f g less (input.Stream (pos 0))) small.stream;
      engine = le_trans _ _ _ (input_less v least w k f g less (input.Engine (pos 0))) small.engine;
      arrive = le_trans _ _ _ (input_less v least w k f g less (input.Arrive (record { name = []; content = [] }))) small.arrive;
    }

pub least_is_cheapest : LeastIsCheapest
least_is_cheapest v least w k solution =
    let within = least_within v least w k solution in
    record {
      active = effects_within v least w within;
      causes = λ x y. (effect_below v least w within x).counts y;
      layering = λ rank layering x y on caused. layering x y (effects_within v least w within x on) ((effect_below v least w within x).counts y caused);
      small = λ rank most small. six_less v least w within (costs v least rank) (costs v w rank) (costs_less v least w within rank) most small;
    }
