-- The dearest effect among nodes that are counted, by its number; and the first of numbers that is largest.
use Rattle.std.specs.Prelude.{◌≡◌, ◌<◌, ◌≤◌, ◌==◌, ◌&&◌, ◌||◌, nat_lt, ℕ, Bool, false, List, [], ◌∷◌, ◌++◌, length, slice_get, unwrap_or, Option, Some, None}
use Rattle.std.specs.Ordering.{is_lt}
use Rattle.mh_laws.specs.Each.{Among}
use Rattle.mh_layers.specs.declared.cause.Cause.{Cause}
use Rattle.mh_layers.specs.declared.ways.dearest.Dearest.{Dearest}
use Rattle.mh_layers.specs.declared.numbered_node.NumberedNode.{NumberedNode}
use Rattle.mh_layers.specs.declared.numbered_node.NumberedNode.TheVariants as node
use Rattle.mh_layers.specs.Cycle.{by_effect_site}
use Rattle.mh_layers.specs.Dearest.{IsFirstLargest}
use Rattle.mh_layers.specs.Layering.{Places, cost_in}
use Rattle.mh_layers.specs.Reading.{Reading}
use Rattle.mh_layers.specs.EffectSites.{cause_named}
use Rattle.mh_layers.specs.Taking.{or_nothing}

-- what is laid of an effect's cost; of another node nothing
abbrev pub effect_cost : Places → NumberedNode → ℕ
effect_cost ts (node.Effect c o n) = or_nothing (cost_in ts (node.Effect c o n))
effect_cost ts _ = 0

-- of the nodes that were seen this is the effect that costs most, and of those that cost as much the first
pub record IsChosen (r : Reading) (ts : Places) (seen : List NumberedNode) (b : Dearest) : Type 0 where
  pub there : Among seen b.node
  pub cause : b.cause ≡ cause_named r b.node
  pub cost : b.cost ≡ effect_cost ts b.node
  pub costs : 0 < b.cost
  pub most : (k : NumberedNode) → Among seen k → effect_cost ts k ≤ b.cost
  pub first : (k : NumberedNode) → Among seen k → effect_cost ts k ≡ b.cost → is_lt (by_effect_site (cause_named r k) b.cause) ≡ false

-- or none costs anything
abbrev pub AreChosen : Reading → Places → List NumberedNode → Option Dearest → Type 0
AreChosen r ts seen None = (k : NumberedNode) → Among seen k → effect_cost ts k ≡ 0
AreChosen r ts seen (Some b) = IsChosen r ts seen b

abbrev pub is_dearer : ℕ → Cause → Dearest → Bool
is_dearer n x b = nat_lt b.cost n || (n == b.cost && is_lt (by_effect_site x b.cause))

-- with one more node that was seen
pub record IsSeen (r : Reading) (ts : Places) (k : NumberedNode) (old new : Option Dearest) : Type 0 where
  pub best : (seen : List NumberedNode) → AreChosen r ts seen old → AreChosen r ts (seen ++ k ∷ []) new

-- Numbers

abbrev pub number_at : List ℕ → ℕ → ℕ
number_at ns n = unwrap_or (slice_get ns n) 0

-- this is the first place of the largest of these
abbrev pub IsLargest : List ℕ → ℕ → Type 0
IsLargest ns n = IsFirstLargest (λ (m : ℕ). m) ns n (number_at ns n)

-- the same of the first of these
pub record IsLargestTo (ns : List ℕ) (k n : ℕ) : Type 0 where
  pub within : n < length ns
  pub most : (m : ℕ) → m < k → number_at ns m ≤ number_at ns n
  pub first : (m : ℕ) → m < n → number_at ns m < number_at ns n
