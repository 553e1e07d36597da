-- Effects by their numbers: what stands where, the labels of places, and arrows.
use Rattle.std.specs.Prelude.{◌≡◌, ◌==◌, ◌&&◌, ℕ, Bool, true, List, map, position, slice_get, unwrap_or, Option, None}
use Rattle.std.specs.declared.cmp.Ordering.{Ordering}
use Rattle.std.specs.List.{list_any}
use Rattle.std.specs.List.Sorted.{IsSorted}
use Rattle.std.specs.Ordering.{nat_cmp, on, then_cmp}
use Rattle.mh_paths.specs.declared.graph.Arrow.{Arrow}
use Rattle.mh_model.specs.Reference.{same_key as same_ref_key}
use Rattle.mh_laws.specs.Costs as costs
use Rattle.mh_laws.specs.Each.{Among}
use Rattle.mh_laws.specs.Least.{by_reference}
use Rattle.mh_layers.specs.declared.cause.Cause.{Cause}
use Rattle.mh_layers.specs.declared.numbered_node.NumberedNode.{NumberedNode}
use Rattle.mh_layers.specs.declared.numbered_node.NumberedNode.TheVariants as node
use Rattle.mh_layers.specs.declared.cycle.effect_site.EffectSite.{EffectSite}
use Rattle.mh_layers.specs.Cycle.{cause_of}
use Rattle.mh_layers.specs.NumberedNodes.{same_node}
use Rattle.mh_layers.specs.Reading.{Reading, config_named, object_named}
use Rattle.mh_layers.specs.NodeGraph.{effect_to}

-- the effect with such numbers; of another node any
abbrev pub effect_by : Reading → ℕ → ℕ → ℕ → costs.Effect
effect_by r c o n = record { config = config_named r c; object = object_named r o; number = n }

abbrev pub effect_named : Reading → NumberedNode → costs.Effect
effect_named r (node.Effect c o n) = effect_by r c o n
effect_named r _ = effect_by r 0 0 0

-- the same as causes
abbrev pub cause_by : Reading → ℕ → ℕ → ℕ → Cause
cause_by r c o n = cause_of r.service (effect_by r c o n)

abbrev pub cause_named : Reading → NumberedNode → Cause
cause_named r k = cause_of r.service (effect_named r k)

-- where a cause stands
abbrev pub effect_site_of : Cause → EffectSite
effect_site_of x = record { at = x.at; index = x.index }

abbrev pub effect_site_named : Reading → NumberedNode → EffectSite
effect_site_named r k = effect_site_of (cause_named r k)

abbrev pub same_effect_site : EffectSite → EffectSite → Bool
same_effect_site a b = same_ref_key a.at b.at && a.index == b.index

-- by the object, then by the number
abbrev pub effect_site_cmp : EffectSite → EffectSite → Ordering
effect_site_cmp = then_cmp (on (λ s. s.at) by_reference) (on (λ s. s.index) nat_cmp)

-- where the effects with these numbers stand is among these places, which are in order
pub record AreEffectSites (r : Reading) (ks : List NumberedNode) (ss : List EffectSite) : Type 0 where
  pub sorted : IsSorted effect_site_cmp ss
  pub each : (k : NumberedNode) → Among ks k → list_any (same_effect_site (effect_site_named r k)) ss ≡ true

-- Labels

abbrev pub effect_site_number : List EffectSite → EffectSite → ℕ
effect_site_number ss s = unwrap_or (position (same_effect_site s) ss) 0

abbrev pub label_in : Reading → List EffectSite → NumberedNode → ℕ
label_in r ss k = effect_site_number ss (effect_site_named r k)

-- Arrows

abbrev pub node_index : List NumberedNode → NumberedNode → ℕ
node_index ks k = unwrap_or (position (same_node k) ks) 0

abbrev pub label_at : List (Option ℕ) → ℕ → Option ℕ
label_at ls n = unwrap_or (slice_get ls n) None

abbrev pub arrow_by : List NumberedNode → List (Option ℕ) → NumberedNode → Arrow
arrow_by ks ls k = record { label = label_at ls (node_index ks k); to = node_index ks k }

-- the causes to which arrows lead
abbrev pub causes_to : Reading → List NumberedNode → Arrow → List Cause
causes_to r ks a = map (cause_named r) (effect_to ks a)
