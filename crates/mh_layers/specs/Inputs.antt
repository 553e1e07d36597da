-- What inputs put, object by object, over whatever is counted in a configuration.
use Rattle.std.specs.Prelude.{Bool, false, List, ℕ, Option, Some, None}
use Rattle.mh_base.specs.declared.obj_ref.ObjRef.{ObjRef}
use Rattle.mh_base.specs.declared.value.Value.TheVariants as value
use Rattle.mh_base.specs.declared.event.EventType.TheVariants as event
use Rattle.mh_group.specs.declared.class.Class.{Class}
use Rattle.mh_group.specs.declared.class.Class.TheVariants as class
use Rattle.mh_group.specs.Table.{has_content, is_stream}
use Rattle.mh_model.specs.declared.object.Fixed.{Fixed}
use Rattle.mh_model.specs.Reference.{group_ref}
use Rattle.mh_laws.specs.Costs.{TimerKey}
use Rattle.mh_laws.specs.Price.{Price, Nothing, Plus, Most, if_price}
use Rattle.mh_laws.specs.View.{Around, View, plain_emit}
use Rattle.mh_laws.specs.Ways.{Sure, Unsure}

-- what a key makes an object of this class put that interacts
abbrev pub pressed_by : {K : Type 0} → View K → ObjRef → Class → Price K
pressed_by a r class.EntryField = Most (plain_emit a r event.EntryFieldFull) (plain_emit a r event.InteractionCompleted)
pressed_by a r class.PushButton = Most (plain_emit a r event.IsSelected) (plain_emit a r event.InteractionCompleted)
pressed_by a r _ = Nothing

abbrev pub pressed : {K : Type 0} → View K → Fixed → Price K
pressed a p = pressed_by a p.key p.class

-- what streams have to tell
abbrev pub stream_told : {K : Type 0} → View K → Fixed → Price K
stream_told a p = if_price (is_stream p.class) (a.dealt_with p.key event.StreamEvent Unsure)

-- what there is that has content, and can wait for a file
abbrev pub reads : Option Fixed → Bool
reads None = false
reads (Some p) = has_content p.class

abbrev pub content_told : {K : Type 0} → View K → Fixed → Price K
content_told a p = if_price (reads (a.part p.key)) (a.dealt_with p.key event.ContentAvailable (Sure None))

-- what a transition to a scene puts
abbrev pub scene_change : {K : Type 0} → Around K → List ℕ → Price K
scene_change a g = Plus (a.leave false) (a.exchange g)

-- a timer of the configuration is due
abbrev pub timer_due : {K : Type 0} → View K → (List ℕ → Bool) → TimerKey → Price K
timer_due a here t = if_price (here t.0) (a.dealt_with (group_ref t.0) event.TimerFired (Sure (Some (value.Int t.1))))
