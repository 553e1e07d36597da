-- The late scenes to which an action leads, and the bounds that are laid.
use Rattle.std.specs.Prelude.{ℕ, List, [], ◌∷◌, filter, map, Option, Some, None, max}
use Rattle.mh_base.specs.declared.obj_ref.ObjRef.{ObjRef}
use Rattle.mh_group.specs.declared.action_name.ActionName.{ActionName}
use Rattle.mh_model.specs.declared.config.Config.{Config}
use Rattle.mh_model.specs.Configuration.{starting}
use Rattle.mh_model.specs.Service.{Service}
use Rattle.mh_laws.specs.Budget.{Bounds}
use Rattle.mh_laws.specs.Costs.{can_lead_to_late}
use Rattle.mh_layers.specs.declared.bounds.InputKind.{InputKind}
use Rattle.mh_layers.specs.declared.bounds.InputKind.TheVariants as kind
use Rattle.mh_layers.specs.declared.numbered_node.NumberedNode.TheVariants as node
use Rattle.mh_layers.specs.Layering.{Places, cost_in}
use Rattle.mh_layers.specs.Reading.{Reading, config_number, flow_read}

-- the late scenes to which an action of this name leads, done to these objects
abbrev pub late_among : Service → ActionName → List ObjRef → List (List ℕ)
late_among v n rs = map (λ (r : ObjRef). r.group) (filter (can_lead_to_late v n) rs)

-- Bounds that are laid

abbrev pub or_nothing : Option ℕ → ℕ
or_nothing None = 0
or_nothing (Some n) = n

-- what an input of this kind costs that is taken in the configuration, if that is laid
unfoldable pub taken_laid : Reading → Places → InputKind → Config → ℕ
taken_laid r ts k c = or_nothing (cost_in ts (node.Taken (config_number r c) k))

-- the largest of these, and of what it was
abbrev pub largest_from : {X : Type 0} → (X → ℕ) → ℕ → List X → ℕ
largest_from f n [] = n
largest_from f n (x ∷ xs) = largest_from f (max n (f x)) xs

abbrev pub bound_laid : Reading → Places → InputKind → ℕ
bound_laid r ts k = largest_from (taken_laid r ts k) 0 (flow_read r).configs

abbrev pub bounds_laid : Reading → Places → Bounds
bounds_laid r ts = record {
  start = taken_laid r ts kind.Start (starting r.service);
  key = bound_laid r ts kind.Key;
  tick = bound_laid r ts kind.Tick;
  stream = bound_laid r ts kind.Stream;
  engine = bound_laid r ts kind.Engine;
  arrive = bound_laid r ts kind.Arrive;
}
