-- What is put where it is known whether content is there.
use Rattle.std.specs.Prelude.{Bool, ◌&&◌, List, ◌++◌, Option}
use Rattle.mh_base.specs.declared.obj_ref.ObjRef.{ObjRef}
use Rattle.mh_base.specs.declared.event.EventType.TheVariants as event
use Rattle.mh_model.specs.declared.item.Item.{Item}
use Rattle.mh_model.specs.declared.object.Object.{Object}
use Rattle.mh_model.specs.Lifecycle.{emit_if, is_unavailable_at, is_unprepared_at, started_items}

abbrev pub rise_told : Bool → (Option Object → Bool) → ObjRef → Option Object → List Item
rise_told there becomes r o =
    emit_if (becomes o) r event.IsAvailable ++ emit_if (becomes o && there) r event.ContentAvailable

abbrev pub prepare_told : Bool → ObjRef → Option Object → List Item
prepare_told there r o = rise_told there is_unavailable_at r o

abbrev pub run_told : Bool → ObjRef → Option Object → List Item
run_told there r o = rise_told there is_unprepared_at r o ++ started_items r o

abbrev pub content_told : Bool → ObjRef → List Item
content_told there r = emit_if there r event.ContentAvailable
