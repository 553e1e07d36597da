-- An object that runs or stops by itself.
use Rattle.std.specs.Prelude.{Bool, true, false, ◌&&◌, not, if◌then◌else◌, ◌∷◌, drop, Option, Some, None}
use Rattle.mh_base.specs.declared.obj_ref.ObjRef.{ObjRef}
use Rattle.mh_base.specs.declared.event.EventType.TheVariants as event
use Rattle.mh_group.specs.Table.{is_visible}
use Rattle.mh_group.specs.declared.class.Class.{Class}
use Rattle.mh_group.specs.declared.class.Class.TheVariants as class
use Rattle.mh_model.specs.declared.edit.Edit.TheVariants as edit
use Rattle.mh_model.specs.declared.object.Object.{Object}
use Rattle.mh_model.specs.Edits.{edited}
use Rattle.mh_model.specs.Files.{forgotten}
use Rattle.mh_model.specs.Items.{plain_event}
use Rattle.mh_model.specs.Rules.{changed}
use Rattle.mh_model.specs.State.{State}
use Rattle.mh_model.specs.Worked.{ended_of}
use Rattle.mh_machine.specs.declared.plan.Stacking.{Stacking}
use Rattle.mh_machine.specs.declared.plan.Stacking.TheVariants as stacking
use Rattle.mh_machine.specs.Plans.{restacked, taken_from}

-- an object of the class loads no content, and runs no other
abbrev pub runs_alone : Class → Bool
runs_alone class.Rectangle = true
runs_alone class.DynamicLineArt = true
runs_alone class.Link = true
runs_alone class.Stream = true
runs_alone _ = false

-- it runs by itself, and neither runs nor is available
abbrev pub is_asleep : Object → Bool
is_asleep o = not o.body.running && not o.body.available && runs_alone o.fixed.class

-- whether it is a visible then
abbrev pub asleep : Option Object → Option Bool
asleep None = None
asleep (Some o) = if is_asleep o then Some (is_visible o.fixed.class) else None

abbrev pub stops_others : Class → Bool
stops_others class.TokenGroup = true
stops_others class.ListGroup = true
stops_others _ = false

-- it runs, and stops no other
abbrev pub stops_alone : Option Object → Bool
stops_alone None = false
stops_alone (Some o) = o.body.running && not (stops_others o.fixed.class)

abbrev pub rise_if : Bool → ObjRef → Stacking
rise_if seen r = if seen then stacking.Rise r else stacking.Same

-- the state when the object at the reference has become available and runs; a visible is on top then
abbrev pub started_alone : Bool → ObjRef → State → State
started_alone seen r s = record (taken_from s) {
  objects = changed (edited (edit.Start None)) r s.objects;
  stack = restacked (rise_if seen r) s.stack;
  waits = forgotten r s.waits;
  work = plain_event r event.IsAvailable ∷ plain_event r event.IsRunning ∷ drop 1 s.work;
}

-- and when it has stopped
abbrev pub stopped_alone : ObjRef → State → State
stopped_alone r s = record (taken_from s) {
  objects = changed (edited edit.Halt) r s.objects;
  interaction = ended_of r s.interaction;
  work = plain_event r event.IsStopped ∷ drop 1 s.work;
}
