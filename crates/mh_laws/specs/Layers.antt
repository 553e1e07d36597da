-- Layerings and costs. A cost is exact where it is just what the effect comes to; where no effect causes itself, by however
-- many others, such costs exist, and there is but one for each active effect.
use Rattle.std.specs.Prelude.{◌≡◌, ◌<◌, ◌≤◌, ℕ, zero, suc, nat_lt, max, Bool, true, List, [], ◌∷◌, map, filter, length}
use Rattle.std.specs.List.{flat_map, list_all, range_with_len}
use Rattle.mh_model.specs.declared.config.Config.{Config}
use Rattle.mh_model.specs.declared.object.Fixed.{Fixed}
use Rattle.mh_model.specs.Configuration.{is_service, present}
use Rattle.mh_model.specs.Service.{Service}
use Rattle.mh_laws.specs.Active.{is_active}
use Rattle.mh_laws.specs.Costs.{Costing, Effect, effect_price, effects}
use Rattle.mh_laws.specs.Each.{Among}
use Rattle.mh_laws.specs.Flow.{Flow}
use Rattle.mh_laws.specs.Price.{counted_in, worth}

-- Active effects

abbrev pub effects_in : Config → Fixed → List Effect
effects_in c p = map (λ n. record { config = c; object = p.key; number = n }) (range_with_len 0 (length (effects p)))

-- all that are active in what may be reached
abbrev pub active_effects : Service → Flow → List Effect
active_effects v w = flat_map (λ c. flat_map (effects_in c) (filter (is_active (present v c)) (present v c))) w.configs

abbrev pub IsOn : Service → Flow → Effect → Type 0
IsOn v w x = Among (active_effects v w) x

-- Layerings

-- the first effect puts the second to work: what it comes to counts it
abbrev pub Causes : Service → Flow → Effect → Effect → Type 0
Causes v w x y = Among (counted_in (effect_price v w x)) y

-- a number for each effect, larger for an active one than for those that it causes
abbrev pub IsLayering : Service → Flow → (Effect → ℕ) → Type 0
IsLayering v w rank = (x y : Effect) → IsOn v w x → Causes v w x y → rank y < rank x

abbrev pub is_layering : Service → Flow → (Effect → ℕ) → Bool
is_layering v w rank =
    list_all (λ x. list_all (λ y. nat_lt (rank y) (rank x)) (counted_in (effect_price v w x))) (active_effects v w)

-- Costs

-- no active effect costs less than it comes to
abbrev pub Covers : Service → Flow → Costing → Type 0
Covers v w f = (x : Effect) → IsOn v w x → worth f (effect_price v w x) ≤ f x

-- each costs just that
abbrev pub IsCost : Service → Flow → Costing → Type 0
IsCost v w f = (x : Effect) → IsOn v w x → f x ≡ worth f (effect_price v w x)

-- the largest number of these
abbrev pub most_of : {X : Type 0} → (X → ℕ) → List X → ℕ
most_of f [] = 0
most_of f (x ∷ xs) = max (f x) (most_of f xs)

-- what effects cost, counted so many causes deep
abbrev pub counted_to : Service → Flow → ℕ → Costing
counted_to v w zero x = 0
counted_to v w (suc n) x = worth (counted_to v w n) (effect_price v w x)

-- counted deeper than any layer
abbrev pub costs : Service → Flow → (Effect → ℕ) → Costing
costs v w rank = counted_to v w (suc (most_of rank (active_effects v w)))

-- The laws

abbrev pub CostsExist : Type 0
CostsExist =
    (v : Service) (w : Flow) (rank : Effect → ℕ) → is_service v ≡ true → IsLayering v w rank → IsCost v w (costs v w rank)

abbrev pub CostsAgree : Type 0
CostsAgree =
    (v : Service) (w : Flow) (rank : Effect → ℕ) → is_service v ≡ true → IsLayering v w rank → (f g : Costing) → IsCost v w f →
    IsCost v w g → (x : Effect) → IsOn v w x → f x ≡ g x

-- a layering can be told
abbrev pub LayeringsAreTold : Type 0
LayeringsAreTold = (v : Service) (w : Flow) (rank : Effect → ℕ) → is_layering v w rank ≡ true → IsLayering v w rank
