-- The dearest ways: of what the start and an input of each kind can put to work what costs most, effect by effect.
use Rattle.std.specs.Prelude.{◌≡◌, ◌<◌, ◌≤◌, ℕ, ◌+◌, min, false, List, [], ◌∷◌, map, slice_get, Some}
use Rattle.std.specs.Option.{option_map_or}
use Rattle.std.specs.Ordering.{is_lt}
use Rattle.mh_model.specs.declared.act.Act.{Act}
use Rattle.mh_model.specs.declared.config.Config.{Config}
use Rattle.mh_model.specs.Configuration.{present, starting}
use Rattle.mh_model.specs.Service.{Service, part_at}
use Rattle.mh_laws.specs.Costs.{Costing, Effect, act, effect_at}
use Rattle.mh_laws.specs.Each.{Among}
use Rattle.mh_laws.specs.Flow.{Flow}
use Rattle.mh_laws.specs.Layers.{Causes, IsCost}
use Rattle.mh_laws.specs.Price.{Price, counted_in, worth}
use Rattle.mh_layers.specs.declared.bounds.InputKind.{InputKind}
use Rattle.mh_layers.specs.declared.bounds.InputKind.TheVariants as kind
use Rattle.mh_layers.specs.declared.ways.way.Stage.{Stage}
use Rattle.mh_layers.specs.declared.ways.way.Way.{Way}
use Rattle.mh_layers.specs.Cycle.{by_effect_site, cause_of}
use Rattle.mh_layers.specs.CostNodes.{takes}
use Rattle.mh_layers.specs.Known.{top}

-- Numbers as 64 bits tell them

abbrev pub cost_told : Costing → Effect → ℕ
cost_told f x = min (f x) top

abbrev pub price_told : Costing → Price Effect → ℕ
price_told f p = min (worth f p) top

-- What costs most

-- of all these the first whose number is the largest, at this place
pub record IsFirstLargest {X : Type 0} (number : X → ℕ) (xs : List X) (n : ℕ) (x : X) : Type 0 where
  pub place : slice_get xs n ≡ Some x
  pub most : (m : ℕ) (y : X) → slice_get xs m ≡ Some y → number y ≤ number x
  pub first : (m : ℕ) (y : X) → m < n → slice_get xs m ≡ Some y → number y < number x

-- the dearest of such effects: it costs something, none costs more, and of those that cost as much none comes before it, by
-- place and then by configuration
pub record IsDearest (v : Service) (f : Costing) (Is : Effect → Type 0) (x : Effect) : Type 0 where
  pub one : Is x
  pub costs : 0 < cost_told f x
  pub most : (y : Effect) → Is y → cost_told f y ≤ cost_told f x
  pub first : (y : Effect) → Is y → cost_told f y ≡ cost_told f x → is_lt (by_effect_site (cause_of v y) (cause_of v x)) ≡ false

-- the actions of an effect
abbrev pub acts_of : Service → Effect → List Act
acts_of v x = option_map_or (λ p. effect_at p x.number) (part_at x.object (present v x.config)) []

-- Stages

-- a stage tells of an effect: what it costs, and the first of its actions that cost most
pub record IsStage (v : Service) (w : Flow) (f : Costing) (x : Effect) (s : Stage) : Type 0 where
  pub offset : ℕ
  pub action : Act
  pub dearest : IsFirstLargest (λ a. price_told f (act v w x.config a)) (acts_of v x) offset action
  pub cause : s.cause ≡ cause_of v x
  pub cost : s.cost ≡ cost_told f x
  pub index : s.index ≡ s.cause.index + offset
  pub name : s.action ≡ action.name
  pub part : s.part ≡ price_told f (act v w x.config action)

-- the stages tell of the dearest of such effects, of the dearest of those that this one puts to work, and so on, as long as
-- there is one that costs something
abbrev pub AreStages : Service → Flow → Costing → (Effect → Type 0) → List Stage → Type 0
AreStages v w f Is [] = (x : Effect) → Is x → cost_told f x ≡ 0
AreStages v w f Is (s ∷ ss) = (x : Effect) × IsDearest v f Is x × IsStage v w f x s × AreStages v w f (Causes v w x) ss

-- Ways

-- the configurations in which an input of the kind may be taken; the start, in which it enters the application
abbrev pub configs_for : Service → Flow → InputKind → List Config
configs_for v w kind.Start = starting v ∷ []
configs_for v w _ = w.configs

abbrev pub taken_told : Service → Flow → Costing → InputKind → Config → ℕ
taken_told v w f k c = price_told f (takes v w c k)

-- an input of the kind puts the effect to work that is taken in the configuration
abbrev pub Puts : Service → Flow → InputKind → Config → Effect → Type 0
Puts v w k c x = Among (counted_in (takes v w c k)) x

-- the way of a kind begins in the first configuration in which that costs most
pub record IsWay (v : Service) (w : Flow) (f : Costing) (y : Way) : Type 0 where
  pub place : ℕ
  pub costliest : IsFirstLargest (taken_told v w f y.kind) (configs_for v w y.kind) place y.config
  pub cost : y.cost ≡ taken_told v w f y.kind y.config
  pub stages : AreStages v w f (Puts v w y.kind y.config) y.stages.items

abbrev pub all_kinds : List InputKind
all_kinds = kind.Start ∷ kind.Key ∷ kind.Tick ∷ kind.Stream ∷ kind.Engine ∷ kind.Arrive ∷ []

-- THE DEAREST WAYS, one for each kind
pub record AreDearestWays (v : Service) (w : Flow) (ways : List Way) : Type 0 where
  pub kinds : map (λ (y : Way). y.kind) ways ≡ all_kinds
  pub each : (f : Costing) → IsCost v w f → (n : ℕ) (y : Way) → slice_get ways n ≡ Some y → IsWay v w f y
