-- Plans: what an item does, worked out before anything is changed.
use Rattle.std.specs.Prelude.{◌≡◌, ℕ, ◌+◌, Bool, true, false, not, ◌&&◌, ◌==◌, if◌then◌else◌, List, [], ◌∷◌, ◌++◌, length, drop, Option, Some, None}
use Rattle.mh_base.specs.declared.obj_ref.ObjRef.{ObjRef}
use Rattle.mh_model.specs.declared.edit.Edit.{Edit}
use Rattle.mh_model.specs.declared.edit.Edit.TheVariants as edit
use Rattle.mh_model.specs.declared.event.Event.{Event}
use Rattle.mh_model.specs.declared.fault.Fault.{Fault}
use Rattle.mh_model.specs.declared.input.Waiting.{Waiting}
use Rattle.mh_model.specs.declared.input.Waiting.TheVariants as waiting
use Rattle.mh_group.specs.declared.written.Position.{Position}
use Rattle.mh_model.specs.declared.interaction.Interaction.{Interaction}
use Rattle.mh_model.specs.declared.item.Item.{Item}
use Rattle.mh_model.specs.declared.object.Body.{Body}
use Rattle.mh_model.specs.declared.object.Fixed.{Fixed}
use Rattle.mh_model.specs.declared.object.Object.{Object}
use Rattle.mh_base.specs.declared.value.Value.{Value}
use Rattle.mh_base.specs.declared.value.Value.TheVariants as value
use Rattle.mh_actions.specs.Moved.{moved}
use Rattle.mh_model.specs.Bodies.{stored, text_of}
use Rattle.mh_model.specs.Edits.{edited}
use Rattle.mh_model.specs.Lifecycle.{is_visible_at}
use Rattle.mh_model.specs.Stack.{without}
use Rattle.mh_model.specs.Rules.{changed, all_placed}
use Rattle.mh_model.specs.Worked.{ended_of}
use Rattle.mh_model.specs.Service.{object_at}
use Rattle.mh_model.specs.State.{State, Objects, all}
use Rattle.mh_model.specs.declared.file.Wait.{Wait}
use Rattle.mh_model.specs.Files.{forgotten, awaited}
use Rattle.mh_work.specs.declared.batch.Batch.{Batch}
use Rattle.mh_machine.specs.declared.plan.Awaiting.{Awaiting}
use Rattle.mh_machine.specs.declared.plan.Awaiting.TheVariants as awaiting
use Rattle.mh_machine.specs.declared.plan.Change.{Change}
use Rattle.mh_machine.specs.declared.plan.Change.TheVariants as change
use Rattle.mh_machine.specs.declared.plan.Gift.{Gift}
use Rattle.mh_machine.specs.declared.plan.Interacting.{Interacting}
use Rattle.mh_machine.specs.declared.plan.Interacting.TheVariants as interacting
use Rattle.mh_machine.specs.declared.plan.Plan.{Plan}
use Rattle.mh_machine.specs.declared.plan.Stacking.{Stacking}
use Rattle.mh_machine.specs.declared.plan.Stacking.TheVariants as stacking
use Rattle.mh_machine.specs.declared.plan.Turn.{Turn}
use Rattle.mh_work.specs.Batches.{written}

-- variables are given values that they can hold, one after another
abbrev pub given_all : List Gift → Objects → Objects
given_all [] os = os
given_all (g ∷ gs) os = given_all gs (changed (λ p b. stored g.value b) g.at os)

-- receivers, each with its answer
abbrev pub gifts : List ObjRef → List Value → List Gift
gifts [] vs = []
gifts (r ∷ rs) [] = []
gifts (r ∷ rs) (v ∷ vs) = record { at = r; value = v } ∷ gifts rs vs

-- a visible places nothing
abbrev pub placed_unless : Bool → List (ObjRef × Position) → Objects → Objects
placed_unless true ps os = os
placed_unless false ps os = all_placed ps os

abbrev pub changed_as : Change → Objects → Objects
changed_as change.Nothing os = os
changed_as (change.Edit r e) os = changed (edited e) r os
changed_as (change.Give gs) os = given_all gs os
changed_as (change.Place r e ps) os =
    placed_unless (is_visible_at (object_at r (all os))) ps (changed (edited e) r os)

-- the change of the object at the reference, if there is one
abbrev pub change_at : ObjRef → Option Edit → Change
change_at r None = change.Nothing
change_at r (Some e) = change.Edit r e

-- what is changed of the object at the reference, if anything is, and what is placed with it
abbrev pub change_with : ObjRef → Option Edit → List (ObjRef × Position) → Change
change_with r None ps = change.Nothing
change_with r (Some e) ps = if length ps == 0 then change.Edit r e else change.Place r e ps

-- the change makes of the object that was found what the rule makes of it
abbrev pub Makes : Change → (Fixed → Body → Body) → ObjRef → Option Object → Type 0
Makes c f r found = (os : Objects) → found ≡ object_at r (all os) → changed_as c os ≡ changed f r os

-- the edit, or none, makes of the object that was found what the rule makes of it, whatever its reference
abbrev pub MakesFound : Option Edit → (Fixed → Body → Body) → Option Object → Type 0
MakesFound e f found = (r : ObjRef) → Makes (change_at r e) f r found

abbrev pub restacked : Stacking → List ObjRef → List ObjRef
restacked stacking.Same stack = stack
restacked (stacking.Rise r) stack = stack ++ r ∷ []
restacked (stacking.Fall r) stack = without r stack
restacked (stacking.Move r how) stack = moved how r stack

-- who interacts
abbrev pub interacted : Interacting → Option Interaction → Option Interaction
interacted interacting.Same i = i
interacted (interacting.Ends r) i = ended_of r i
interacted (interacting.Begins x) i = Some x

-- what becomes of who interacts where this is said of an object that does, or does not
abbrev pub begins_as : Bool → ObjRef → Option Object → Interacting
begins_as interacts r None = interacting.Same
begins_as interacts r (Some o) =
    if o.body.running && not interacts
    then interacting.Begins (record { object = r; before = text_of o.body })
    else interacting.Same

abbrev pub interacting_as : List Value → Bool → ObjRef → Option Object → Interacting
interacting_as (value.Bool true ∷ []) interacts r o = begins_as interacts r o
interacting_as (value.Bool false ∷ []) interacts r o = interacting.Ends r
interacting_as vs interacts r o = interacting.Same

-- who waits for a file
abbrev pub rewaited : Awaiting → List Wait → List Wait
rewaited awaiting.Same ws = ws
rewaited (awaiting.Forget r) ws = forgotten r ws
rewaited (awaiting.Wait w) ws = awaited (Some w.name) w.object ws

-- the object waits for this file, if there is one
abbrev pub wait_of : ObjRef → Option (List ℕ) → Awaiting
wait_of r None = awaiting.Forget r
wait_of r (Some name) = awaiting.Wait (record { object = r; name = name })

-- where it loads now
abbrev pub wait_if : Bool → ObjRef → Option (List ℕ) → Awaiting
wait_if b r m = if b then wait_of r m else awaiting.Same

abbrev pub queued : Option Event → List Waiting → List Waiting
queued None queue = queue
queued (Some e) queue = queue ++ waiting.Event e ∷ []

abbrev pub noted : Option Fault → List Fault → List Fault
noted None fs = fs
noted (Some f) fs = fs ++ f ∷ []

-- the state when the plan is carried out
abbrev pub committed : Plan → State → State
committed p s = record s {
  objects = changed_as p.change s.objects;
  stack = restacked p.stacking s.stack;
  interaction = interacted p.interacting s.interaction;
  waits = rewaited p.awaiting s.waits;
  queue = queued p.waits s.queue;
  work = written p.batches ++ drop 1 s.work;
  taken = s.taken + 1;
  faults = noted p.fault s.faults;
}

-- a plan that changes objects, and puts batches in the place of the item
abbrev pub plan_of : Change → Stacking → Awaiting → List Batch → Plan
plan_of c x a ps = record { change = c; stacking = x; awaiting = a; interacting = interacting.Same; batches = ps; waits = None; fault = None }

-- of the object at the reference, which runs
abbrev pub turn_plan : ObjRef → Turn → Plan
turn_plan r t = plan_of (change_with r (Some (edit.Start t.text)) t.places.items) t.stacking t.awaiting t.batches.items

-- of one that stops, whose interaction ends
abbrev pub halt_plan : ObjRef → List Batch → Plan
halt_plan r ps = record (plan_of (change.Edit r edit.Halt) stacking.Same awaiting.Same ps) { interacting = interacting.Ends r }

-- the state with these items in the place of its first
abbrev pub put_for_first : List Item → State → State
put_for_first is s = record s { work = is ++ drop 1 s.work; taken = s.taken + 1 }

-- the state with its first item taken
abbrev pub taken_from : State → State
taken_from s = record s { work = drop 1 s.work; taken = s.taken + 1 }
