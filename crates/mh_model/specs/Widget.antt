-- What comes of what is done to a widget: a list, a token group, an entry field or a push button.
use Rattle.std.specs.Prelude.{List, [], Some}
use Rattle.mh_base.specs.declared.obj_ref.ObjRef.{ObjRef}
use Rattle.mh_base.specs.declared.value.Value.{Value}
use Rattle.mh_base.specs.declared.event.EventType.{EventType}
use Rattle.mh_group.specs.declared.written.Position.{Position}
use Rattle.mh_model.specs.declared.item.Item.{Item}
use Rattle.mh_model.specs.declared.item.Item.TheVariants as item
use Rattle.mh_model.specs.declared.object.Body.{Body}

-- What a widget's action comes to: what is made of the widget's body, the objects that are placed and where, and
-- the items that are put.
pub record Worked : Type 0 where
  pub body : Body
  pub placed : List (ObjRef × Position)
  pub items : List Item

-- nothing
abbrev pub no_work : Body → Worked
no_work b = record { body = b; placed = []; items = [] }

-- an event with this value
abbrev pub event_with : ObjRef → EventType → Value → Item
event_with r kind v = item.Emit (record { source = r; kind = kind; «data» = Some v })
