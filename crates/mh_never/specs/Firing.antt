-- Firing. An event that is dealt with puts the effects of the links to work that run and wait for it. Which events may be dealt
-- with next, and which links they fire.
use Rattle.std.specs.Prelude.{◌≡◌, ℕ, Bool, true, false, ◌&&◌, not, List, slice_get, Some, ℤ}
use Rattle.mh_base.specs.declared.obj_ref.ObjRef.{ObjRef}
use Rattle.mh_group.specs.declared.attribute.Attribute.TheVariants as attribute
use Rattle.mh_model.specs.declared.event.Event.{Event}
use Rattle.mh_model.specs.declared.input.Waiting.TheVariants as waiting
use Rattle.mh_model.specs.declared.item.Item.TheVariants as item
use Rattle.mh_model.specs.declared.key.Key.{Key}
use Rattle.mh_model.specs.declared.object.Fixed.{Fixed}
use Rattle.mh_model.specs.declared.object.Object.{Object}
use Rattle.mh_model.specs.Items.{matches}
use Rattle.mh_model.specs.Property.{as_effect, held}
use Rattle.mh_model.specs.Reference.{group_ref}
use Rattle.mh_model.specs.State.{State, all}
use Rattle.mh_model.specs.Step.{engine_event, is_empty, key_event}
use Rattle.mh_laws.specs.Costs.{Effect, link_effect}
use Rattle.mh_laws.specs.Each.{Among}
use Rattle.mh_laws.specs.Safe.{config_of}
use Rattle.mh_laws.specs.Weighing.{hears_key}

-- what the link does has an action
abbrev pub has_action : Fixed → Bool
has_action p = not (is_empty (as_effect (held attribute.LinkEffect p.properties)))

-- the event puts what the link does to work: the link runs and waits for it, and does something
abbrev pub fires : Event → Object → Bool
fires e o = matches e o && has_action o.fixed

-- It holds of each event that may be dealt with next: of the one that will be emitted first, of those that wait, and, whether
-- posted or not, of each key that the register of the scene lets through and of each number of the engine. By no other does a
-- step put the effects of links to work.
pub record HoldsOfNext (P : Event → Type 0) (s : State) : Type 0 where
  pub work : (e : Event) → slice_get s.work 0 ≡ Some (item.Emit e) → P e
  pub queue : (e : Event) → Among s.queue (waiting.Event e) → P e
  pub keys : (x : Key) (g : List ℕ) → s.scene ≡ Some g → hears_key s g x ≡ true → P (key_event x (group_ref g))
  pub engine : (n : ℤ) → P (engine_event n s.application)

-- what it fires is of the set
abbrev pub FiresLiving : (Effect → Bool) → State → Event → Type 0
FiresLiving lives s e =
    (o : Object) → Among (all s.objects) o → fires e o ≡ true →
    lives (record { config = config_of s; object = o.fixed.key; number = link_effect }) ≡ true

-- it fires no link at the reference
abbrev pub FiresNone : ObjRef → State → Event → Type 0
FiresNone r s e = (o : Object) → Among (all s.objects) o → o.fixed.key ≡ r → fires e o ≡ false

-- The link is put to work by nothing that may come next.
abbrev pub IsUnput : ObjRef → State → Type 0
IsUnput r s = HoldsOfNext (FiresNone r s) s
