-- What is put, and what becomes of the display stack, when an object is prepared, runs, stops and is dropped.
use Rattle.std.specs.Prelude.{ℕ, Bool, true, false, ◌&&◌, not, if◌then◌else◌, List, [], ◌∷◌, ◌++◌, map, Option, Some, None, pos}
use Rattle.std.specs.Option.{option_map_or, is_some}
use Rattle.mh_base.specs.declared.obj_ref.ObjRef.{ObjRef}
use Rattle.mh_base.specs.declared.value.Value.TheVariants as value
use Rattle.mh_base.specs.declared.event.EventType.{EventType}
use Rattle.mh_base.specs.declared.event.EventType.TheVariants as event
use Rattle.mh_group.specs.Table.{is_visible}
use Rattle.mh_group.specs.declared.class.Class.{Class}
use Rattle.mh_group.specs.declared.class.Class.TheVariants as class
use Rattle.mh_group.specs.declared.written.Position.{Position}
use Rattle.mh_model.specs.declared.item.Item.{Item}
use Rattle.mh_model.specs.declared.item.Item.TheVariants as item
use Rattle.mh_model.specs.declared.object.member.Member.{Member}
use Rattle.mh_model.specs.declared.object.Object.{Object}
use Rattle.mh_model.specs.declared.file.File.{File}
use Rattle.mh_model.specs.declared.file.Wait.{Wait}
use Rattle.mh_model.specs.Bodies.{loaded, lacking}
use Rattle.mh_model.specs.Files.{awaited}
use Rattle.mh_model.specs.Items.{plain_event}
use Rattle.mh_model.specs.Lists.{nothing_shown, shows, halted_members, list_items, cells_placed}
use Rattle.mh_model.specs.Tokens.{members}
use Rattle.mh_model.specs.Widget.{event_with}

abbrev pub is_available_at : Option Object → Bool
is_available_at o = option_map_or (λ x. x.body.available) o false

-- the object is there, and is not available
abbrev pub is_unavailable_at : Option Object → Bool
is_unavailable_at o = option_map_or (λ x. not x.body.available) o false

-- the object is there, does not run, and is not available
abbrev pub is_unprepared_at : Option Object → Bool
is_unprepared_at o = option_map_or (λ x. not x.body.running && not x.body.available) o false

-- Content, where these files are there.

-- what is loaded of the object's content when it becomes available
abbrev pub loaded_at : List File → Option Object → Option (List ℕ)
loaded_at fs None = None
loaded_at fs (Some o) = loaded fs o.fixed o.body

-- the file for which it then waits, if there is one
abbrev pub lacking_at : List File → Option Object → Option (List ℕ)
lacking_at fs None = None
lacking_at fs (Some o) = lacking fs o.fixed o.body

-- its content is loaded now
abbrev pub loads_if : List File → (Option Object → Bool) → Option Object → Bool
loads_if fs becomes o = becomes o && is_some (loaded_at fs o)

-- who waits, behind an object that loads now
abbrev pub waits_if : List File → Bool → ObjRef → Option Object → List Wait → List Wait
waits_if fs b r o ws = if b then awaited (lacking_at fs o) r ws else ws

abbrev pub is_visible_at : Option Object → Bool
is_visible_at o = option_map_or (λ x. is_visible x.fixed.class) o false

-- an event that comes or not
abbrev pub emit_if : Bool → ObjRef → EventType → List Item
emit_if b r kind = if b then plain_event r kind ∷ [] else []

-- that it becomes available, if it does, and that its content is there
abbrev pub rise_items : List File → (Option Object → Bool) → ObjRef → Option Object → List Item
rise_items fs becomes r o =
    emit_if (becomes o) r event.IsAvailable ++ emit_if (loads_if fs becomes o) r event.ContentAvailable

abbrev pub prepare_items : List File → ObjRef → Option Object → List Item
prepare_items fs r o = rise_items fs is_unavailable_at r o

-- Groups of objects run and halt others: a token group all its members, a list those that it shows.

abbrev pub members_run : List Member → List Item
members_run ms = map (λ m. item.RunMember m.object) ms

abbrev pub members_halted : List Member → List Item
members_halted ms = map (λ m. item.HaltMember m.object) ms

abbrev pub group_runs : Class → ObjRef → Object → List Item
group_runs class.TokenGroup r o = members_run (members o.fixed)
group_runs class.ListGroup r o = list_items r nothing_shown (shows true o.fixed o.body.list)
group_runs _ r o = []

abbrev pub group_halts : Class → Object → List Item
group_halts class.TokenGroup o = members_halted (members o.fixed)
group_halts class.ListGroup o = halted_members (shows o.body.running o.fixed o.body.list).items []
group_halts _ o = []

-- the token of a token group is told when that runs
abbrev pub token_told : Class → ObjRef → List Item
token_told class.TokenGroup r = event_with r event.TokenMovedTo (value.Int (pos 1)) ∷ []
token_told _ r = []

-- what is put by an object that begins to run
abbrev pub running_items : ObjRef → Object → List Item
running_items r o =
    group_runs o.fixed.class r o ++ plain_event r event.IsRunning ∷ token_told o.fixed.class r

abbrev pub stopping_items : ObjRef → Object → List Item
stopping_items r o = group_halts o.fixed.class o ++ plain_event r event.IsStopped ∷ []

-- where it did not run
abbrev pub started_items : ObjRef → Option Object → List Item
started_items r None = []
started_items r (Some o) = if o.body.running then [] else running_items r o

-- that it became available, if it did, what it runs, and that it runs
abbrev pub run_items : List File → ObjRef → Option Object → List Item
run_items fs r o = rise_items fs is_unprepared_at r o ++ started_items r o

abbrev pub halt_items : ObjRef → Option Object → List Item
halt_items r None = []
halt_items r (Some o) = if o.body.running then stopping_items r o else []

-- where a list that begins to run places what it shows
abbrev pub places_of : Class → Object → List (ObjRef × Position)
places_of class.ListGroup o = cells_placed o.fixed (shows true o.fixed o.body.list)
places_of _ o = []

abbrev pub run_places : Option Object → List (ObjRef × Position)
run_places None = []
run_places (Some o) = if o.body.running then [] else places_of o.fixed.class o

abbrev pub drop_items : ObjRef → Option Object → List Item
drop_items r o = emit_if (is_available_at o) r event.IsDeleted
