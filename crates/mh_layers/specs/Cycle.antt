-- Effects that put themselves to work, by way of others: the first of them, and the first of the shortest ways.
use Rattle.std.specs.Prelude.{◌≡◌, ◌≢◌, ◌≤◌, ℕ, suc, false, take, List, [], ◌∷◌, length, map, slice_get, Option, None}
use Rattle.std.specs.List.{flat_map}
use Rattle.std.specs.Option.{option_map, option_map_or}
use Rattle.std.specs.Ordering.{is_lt, nat_cmp, on, then_cmp}
use Rattle.std.specs.declared.cmp.Ordering.{Ordering}
use Rattle.std.specs.declared.cmp.Ordering.TheVariants.{Less}
use Rattle.std.specs.Cmp.Lexicographic.{slice_cmp}
use Rattle.mh_group.specs.declared.action_name.ActionName.{ActionName}
use Rattle.mh_model.specs.declared.act.Act.{Act}
use Rattle.mh_model.specs.declared.object.Fixed.{Fixed}
use Rattle.mh_model.specs.Configuration.{present}
use Rattle.mh_model.specs.Service.{Service, part_at}
use Rattle.mh_laws.specs.Costs.{Effect, effect_at, effects}
use Rattle.mh_laws.specs.Flow.{Flow}
use Rattle.mh_laws.specs.Layers.{Causes, IsOn}
use Rattle.mh_laws.specs.Least.{by_reference}
use Rattle.mh_flow.specs.Orders.{by_config}
use Rattle.mh_layers.specs.declared.cause.Cause.{Cause}

-- the first effect puts the last to work, by way of those between, each of which puts the next to work
pub data Leads (v : Service) (w : Flow) : Effect → List Effect → Effect → Type 0 where
  once : (x y : Effect) → Causes v w x y → Leads v w x [] y
  onward : (x y : Effect) (zs : List Effect) (z : Effect) → Causes v w x y → Leads v w y zs z → Leads v w x (y ∷ zs) z

-- an active effect puts itself to work, by way of these
pub record IsCycle (v : Service) (w : Flow) (x : Effect) (zs : List Effect) : Type 0 where
  pub on : IsOn v w x
  pub leads : Leads v w x zs x

-- none does
abbrev pub NoCycles : Service → Flow → Type 0
NoCycles v w = (x : Effect) (zs : List Effect) → IsCycle v w x zs → ⊥

-- Places: that of an effect is the place of its first action

-- the number of the first action of an effect through the effects of its object, from 1 on
abbrev pub first_number : ℕ → Fixed → ℕ
first_number n p = suc (length (flat_map (λ e. e) (take n (effects p))))

abbrev pub index_of : Service → Effect → ℕ
index_of v x = option_map_or (first_number x.number) (part_at x.object (present v x.config)) 1

-- its first action
abbrev pub first_action : Service → Effect → Option ActionName
first_action v x =
    option_map_or (λ p. option_map (λ (a : Act). a.name) (slice_get (effect_at p x.number) 0)) (part_at x.object (present v x.config)) None

abbrev pub cause_of : Service → Effect → Cause
cause_of v x = record { config = x.config; at = x.object; index = index_of v x; action = first_action v x }

-- Orders: by place, and then by configuration, by name of the application and of the scene, no scene before any

abbrev pub by_place : Cause → Cause → Ordering
by_place = then_cmp (on (λ x. x.at) by_reference) (on (λ x. x.index) nat_cmp)

abbrev pub by_effect_site : Cause → Cause → Ordering
by_effect_site = then_cmp by_place (on (λ x. x.config) by_config)

-- THE FIRST CYCLE. The effect puts itself to work, and none that comes before it does; by way of these, and of no fewer; and of
-- as many, of none whose places come before theirs.
pub record IsFirstCycle (v : Service) (w : Flow) (x : Effect) (zs : List Effect) : Type 0 where
  pub cycle : IsCycle v w x zs
  pub first : (y : Effect) (ys : List Effect) → IsCycle v w y ys → is_lt (by_effect_site (cause_of v y) (cause_of v x)) ≡ false
  pub shortest : (ys : List Effect) → IsCycle v w x ys → length zs ≤ length ys
  pub least :
      (ys : List Effect) → IsCycle v w x ys → length ys ≡ length zs →
      slice_cmp by_place (map (cause_of v) ys) (map (cause_of v) zs) ≢ Less

-- these are the effects of the first cycle, from the first on
pub record AreFirstCycle (v : Service) (w : Flow) (cs : List Cause) : Type 0 where
  pub effect : Effect
  pub behind : List Effect
  pub first : IsFirstCycle v w effect behind
  pub causes : cs ≡ map (cause_of v) (effect ∷ behind)
