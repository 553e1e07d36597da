-- What an active effect has: its configuration and its object stand at their numbers, and of the object something is said.
use Rattle.std.specs.Prelude.{◌≡◌, ℕ, true, [], length, slice_get, is_some, unwrap_or, Option, Some, None, refl}
use Rattle.std.proofs.Common.{inl, ap, ◌∙◌, subst, sym}
use Rattle.mh_base.specs.declared.obj_ref.ObjRef.{ObjRef}
use Rattle.mh_model.specs.declared.config.Config.{Config}
use Rattle.mh_model.specs.declared.object.Fixed.{Fixed}
use Rattle.mh_model.specs.Configuration.{present}
use Rattle.mh_model.specs.Reference.{same_key}
use Rattle.mh_model.specs.Service.{is_there, part_at}
use Rattle.mh_laws.specs.Flow.{reached}
use Rattle.mh_laws.proofs.NodeLemmas.{config_among}
use Rattle.mh_layers.specs.declared.numbered_node.NumberedNode.{NumberedNode}
use Rattle.mh_layers.specs.declared.numbered_node.NumberedNode.TheVariants as node
use Rattle.mh_layers.specs.Applied.{object_in}
use Rattle.mh_layers.specs.Reading.{CostContext, IsReading, Reading, config_number, context_in, flow_read, has_object, object_named, object_number, same_setting, settings}
use Rattle.mh_layers.specs.EffectSites.{effect_named}
use Rattle.mh_layers.specs.Trails.{IsActive, IsStep}
use Rattle.mh_layers.proofs.ListeningLemmas.{objects_numbered, present_among, tells_objects}
use Rattle.mh_layers.proofs.MetLemmas.{found_among, there_found}
use Rattle.mh_layers.proofs.PositionLemmas.{position_is, position_there, put_all}
use Rattle.mh_layers.proofs.ReadingLemmas.{setting_itself, tells_settings}
use Rattle.mh_layers.proofs.ContextLemmas.{got_there}
use Rattle.mh_layers.proofs.NodeGraphLemmas.{active_kept}

config_at : (r : Reading) (c : Config) → reached (flow_read r) c ≡ true → slice_get (settings r) (config_number r c) ≡ Some c
config_at r c here =
    let at = position_there (same_setting c) (settings r) (put_all same_setting setting_itself [] (flow_read r).configs c (config_among (flow_read r).configs c here)) in
    ap (λ (o : Option ℕ). slice_get (settings r) (unwrap_or o (length (settings r)))) at.1 ∙ position_is same_setting tells_settings (settings r) c at.0 at.1

object_at : (r : Reading) → IsReading r → (c : Config) (o : ObjRef) → is_there o (present r.service c) ≡ true → slice_get r.listeners.objects (object_number r o) ≡ Some o
object_at r read c o there =
    let part = there_found o (present r.service c) there in
    let found = found_among o (present r.service c) part.0 part.1 in
    let at = (objects_numbered r.service r.listeners read.listening).all part.0 o (present_among r.service c part.0 found.1) (inl (sym found.0)) in
    ap (λ (n : Option ℕ). slice_get r.listeners.objects (unwrap_or n (length r.listeners.objects))) at.1
    ∙ position_is same_key tells_objects r.listeners.objects o at.0 at.1

abbrev config_in : NumberedNode → ℕ
config_in (node.Effect c o n) = c
config_in _ = 0

pub config_there : (r : Reading) → IsReading r → (k : NumberedNode) → IsActive r k → (c o n : ℕ) → k ≡ node.Effect c o n → slice_get (settings r) c ≡ None → ⊥
config_there r read k active c o n is none =
    let x = effect_named r k in
    let same : config_number r x.config ≡ c = ap config_in (sym active.own ∙ is) in
    let at = sym none ∙ ap (slice_get (settings r)) (sym same) ∙ config_at r x.config (active_kept r read x active.on).0 in
    absurd cc

pub object_there : (r : Reading) → IsReading r → (k : NumberedNode) → IsActive r k → (c o n : ℕ) → k ≡ node.Effect c o n → slice_get r.listeners.objects o ≡ None → ⊥
object_there r read k active c o n is none =
    let x = effect_named r k in
    let same : object_number r x.object ≡ o = ap object_in (sym active.own ∙ is) in
    let at = sym none ∙ ap (slice_get r.listeners.objects) (sym same) ∙ object_at r read x.config x.object (active_kept r read x active.on).1 in
    absurd cc

-- the object has a number, by which it is named
pub object_has : (r : Reading) → IsReading r → (k : NumberedNode) → IsActive r k → has_object r (object_in k) ≡ true
object_has r read k active =
    let x = effect_named r k in
    let same : object_number r x.object ≡ object_in k = ap object_in (sym active.own) in
    ap is_some (ap (slice_get r.listeners.objects) (sym same) ∙ object_at r read x.config x.object (active_kept r read x active.on).1)

pub object_by : (r : Reading) (k : NumberedNode) → object_named r (object_in k) ≡ (effect_named r k).object
object_by r (node.Effect c o n) = refl
object_by r _ = refl

-- and something is said of it where the effect is
pub part_active : (r : Reading) → IsReading r → (k : NumberedNode) → IsActive r k → (p : Fixed) × (part_at (effect_named r k).object (present r.service (effect_named r k).config) ≡ Some p)
part_active r read k active =
    let x = effect_named r k in
    there_found x.object (present r.service x.config) (active_kept r read x active.on).1

-- where the configuration of the effect was found
pub part_at_here : (r : Reading) (k : NumberedNode) (s : CostContext) (p : Fixed) → s ≡ context_in r (effect_named r k).config → part_at (effect_named r k).object (present r.service (effect_named r k).config) ≡ Some p
    → part_at (effect_named s.reading k).object (present s.reading.service s.config) ≡ Some p
part_at_here r k s p context at = subst (λ (t : CostContext). part_at (effect_named t.reading k).object (present t.reading.service t.config) ≡ Some p) (sym context) at

pub part_at_there : (r : Reading) (k : NumberedNode) (s : CostContext) (p : Fixed) → s ≡ context_in r (effect_named r k).config → part_at (effect_named r k).object (present r.service (effect_named r k).config) ≡ Some p
    → part_at (effect_named s.reading k).object (present s.reading.service (effect_named s.reading k).config) ≡ Some p
part_at_there r k s p context at = subst (λ (t : CostContext). part_at (effect_named t.reading k).object (present t.reading.service (effect_named t.reading k).config) ≡ Some p) (sym context) at

pub part_there : (r : Reading) → IsReading r → (k : NumberedNode) → IsActive r k → part_at (effect_named r k).object (present r.service (effect_named r k).config) ≡ None → ⊥
part_there r read k active none =
    let x = effect_named r k in
    let at = there_found x.object (present r.service x.config) (active_kept r read x active.on).1 in
    let never = sym none ∙ at.1 in
    absurd cc

-- the object at the number is the effect's
pub named_object : (r : Reading) (k : NumberedNode) (c o n : ℕ) (at : ObjRef) → k ≡ node.Effect c o n → slice_get r.listeners.objects o ≡ Some at → (effect_named r k).object ≡ at
named_object r k c o n at is there = ap (λ (j : NumberedNode). (effect_named r j).object) is ∙ sym (got_there r o at there)

-- the effects of a step are active

pub first_active : (r : Reading) (from first to : NumberedNode) → IsStep r from first to → IsActive r from
first_active r from first to step = record { own = step.from_number; on = step.from_on }

pub last_active : (r : Reading) (from first to : NumberedNode) → IsStep r from first to → IsActive r to
last_active r from first to step = record { own = step.to_number; on = step.to_on }
