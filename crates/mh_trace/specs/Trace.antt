-- The trace of a script: a line a step, and what a step, a command and a script make of what is traced.
use Rattle.std.specs.Prelude.{ℕ, zero, suc, ◌+◌, ◌-◌, ◌==◌, ◌&&◌, Bool, true, false, not, if◌then◌else◌, List, [], ◌∷◌, ◌++◌, drop, length, Option, Some, None}
use Rattle.std.specs.List.{list_any}
use Rattle.std.specs.Str.{bytes_eq}
use Rattle.mh_base.specs.declared.obj_ref.ObjRef.{ObjRef}
use Rattle.mh_group.specs.declared.action_name.ActionName.{ActionName}
use Rattle.mh_group.specs.declared.action_name.ActionName.TheVariants as action
use Rattle.mh_group.specs.declared.attribute.Attribute.TheVariants as attribute
use Rattle.mh_model.specs.declared.act.Act.{Act}
use Rattle.mh_model.specs.declared.event.Event.{Event}
use Rattle.mh_model.specs.declared.file.File.{File}
use Rattle.mh_model.specs.declared.input.Obstacle.{Obstacle}
use Rattle.mh_model.specs.declared.item.Item.{Item}
use Rattle.mh_model.specs.declared.item.Item.TheVariants as item
use Rattle.mh_model.specs.declared.object.Object.{Object}
use Rattle.mh_model.specs.Arguments.{values, referred}
use Rattle.mh_model.specs.Limits.{most_steps}
use Rattle.mh_model.specs.Rules.{is_begun}
use Rattle.mh_model.specs.Service.{Service, object_at}
use Rattle.mh_model.specs.State.{State, all}
use Rattle.mh_model.specs.Step.{is_settled, obstacle as obstacle_to, posted, preset, preset_obstacle, step}
use Rattle.mh_machine.specs.Rest.{answer_of, rest_of}
use Rattle.mh_machine.specs.declared.stepped.Stepped.{Stepped}
use Rattle.mh_script.specs.declared.script.Command.{Command}
use Rattle.mh_script.specs.declared.script.Command.TheVariants as command
use Rattle.mh_trace.specs.declared.seen.Seen.{Seen}
use Rattle.mh_trace.specs.declared.seen.marks.Marks.{Marks}
use Rattle.mh_trace.specs.declared.site.EffectKind.TheVariants as kind
use Rattle.mh_trace.specs.declared.site.Site.{Site}
use Rattle.mh_trace.specs.Changes.{notes}
use Rattle.mh_trace.specs.Glance.{glance_of, is_same}
use Rattle.mh_trace.specs.declared.form.Form.{Form}
use Rattle.mh_trace.specs.declared.form.Telling.{Telling}
use Rattle.mh_trace.specs.Ears.{told}
use Rattle.mh_trace.specs.Form.{tells, tells_behind}
use Rattle.mh_trace.specs.Sites.{group_sites, heard_sites, same_site, slot_sites}
use Rattle.mh_trace.specs.Touched.{restacks, touched}
use Rattle.mh_trace.specs.Why.{why_of}
use Rattle.mh_trace.specs.Directory.{Directory}
use Rattle.mh_trace.specs.Head.{front, first, place_of, head_by}
use Rattle.mh_trace.specs.Quiet.{is_quiet}
use Rattle.mh_trace.specs.Outcome.{is_fault, may_be_nothing, outcome_by}
use Rattle.mh_trace.specs.Commands.{post_by, preset_by, did_by, total_by, show_by}

-- What is traced: the machine's state, where the actions on its work list stand, in their order, which actions were done,
-- and which groups were entered, each once; where the entries stand that were faults, in their order; and where actions are
-- written.
pub record Tracing : Type 0 where
  pub state : State
  pub places : List Site
  pub done : List Site
  pub entered : List (List ℕ)
  pub faulted : List (Option Site)
  pub directory : Directory

-- before the first command
abbrev pub untraced : Directory → State → Tracing
untraced ws s = record { state = s; places = []; done = []; entered = []; faulted = []; directory = ws }

-- Where the actions stand that a step puts

abbrev pub told_sites : Option Event → List Object → List Site
told_sites None os = []
told_sites (Some e) os = heard_sites e os

-- the object to which an action is done, if it comes to one
abbrev pub target_at : Option ObjRef → List Object → Option Object
target_at None os = None
target_at (Some r) os = object_at r os

abbrev pub called_sites : ActionName → Act → List Object → List Site
called_sites action.CallActionSlot a os = slot_sites (values os a.arguments) (target_at (referred a.target os) os)
called_sites _ a os = []

abbrev pub opened_by : Item → State → List Site
opened_by (item.Act a) s = called_sites a.name a (all s.objects)
opened_by (item.Enter g) s = group_sites kind.StartUp attribute.OnStartUp s.service g
opened_by i s = told_sites (told (Some i) None s) (all s.objects)

abbrev pub opened : Option Item → State → List Site
opened (Some i) s = opened_by i s
opened None s = told_sites (told None (first s) s) (all s.objects)

-- where a transition begins, the scene closes down, and perhaps the application

abbrev pub leaves_name : ActionName → Bool
leaves_name action.Launch = true
leaves_name action.Quit = true
leaves_name _ = false

abbrev pub leaves : Option Item → Bool
leaves (Some (item.Act a)) = leaves_name a.name
leaves _ = false

abbrev pub scene_closing : Service → Option (List ℕ) → List Site
scene_closing v None = []
scene_closing v (Some g) = group_sites kind.CloseDown attribute.OnCloseDown v g

abbrev pub application_closing : Bool → State → List Site
application_closing b s = if b then group_sites kind.CloseDown attribute.OnCloseDown s.service s.application else []

-- an entry with which a transition can begin: an action, or what is taken
abbrev pub may_begin : Option Item → Bool
may_begin None = true
may_begin (Some (item.Act a)) = true
may_begin (Some _) = false

abbrev pub closing : Option Item → State → List Site
closing i s = if may_begin i then scene_closing s.service s.scene ++ application_closing (leaves i) s else []

-- a transition has begun that had not before, where whether one had begun is known
abbrev pub starts : Bool → State → Bool
starts begun t = not begun && is_begun t.transition

-- what a step puts that does not begin a transition: nothing where its entry is a fault
abbrev pub put_sites : Bool → List Site → List Site
put_sites true put = []
put_sites false put = put

-- an action that is done stands first among the places
abbrev pub places_behind : Option Item → List Site → List Site
places_behind (Some (item.Act a)) ps = drop 1 ps
places_behind _ ps = ps

-- where a transition begins nothing else is left
abbrev pub places_with : Bool → List Site → List Site → List Site → List Site
places_with true closed put left = closed
places_with false closed put left = put ++ left

-- What is done

abbrev pub add_site : Site → List Site → List Site
add_site x xs = if list_any (same_site x) xs then xs else xs ++ x ∷ []

abbrev pub add_option : Option Site → List Site → List Site
add_option None xs = xs
add_option (Some x) xs = add_site x xs

abbrev pub add_name : List ℕ → List (List ℕ) → List (List ℕ)
add_name g gs = if list_any (bytes_eq g) gs then gs else gs ++ g ∷ []

abbrev pub done_with : Bool → Option Site → List Site → List Site
done_with true at xs = xs
done_with false at xs = add_option at xs

-- what is no action has no place
abbrev pub faulted_with : Bool → Option Site → List (Option Site) → List (Option Site)
faulted_with true at xs = xs ++ at ∷ []
faulted_with false at xs = xs

abbrev pub entered_with : Option Item → List (List ℕ) → List (List ℕ)
entered_with (Some (item.Enter g)) gs = add_name g gs
entered_with _ gs = gs

-- how many waited before, what is taken aside
abbrev pub waiting_left : Option Item → State → ℕ
waiting_left (Some i) s = length s.queue
waiting_left None s = length s.queue - 1

-- WHAT IS SEEN OF A STATE BEFORE ITS STEP, and what a step makes of it

-- what every step is noted by, told or not
abbrev pub marks_of : Option Item → State → List Site → Marks
marks_of i s ps = record { opened = opened i s; closing = closing i s; begun = is_begun s.transition; place = place_of i ps }

-- what the line of a step is told by
abbrev pub seen_of : Option Item → State → List Site → Seen
seen_of i s ps = record {
  marks = marks_of i s ps;
  dropped = length (places_behind i ps);
  waiting = waiting_left i s;
  quiet = is_quiet i (first s) s.interaction (opened i s);
  stacks = restacks i;
  glance = glance_of (restacks i) (waiting_left i s) s;
  touched = touched i (first s) s;
  why = why_of i (is_begun s.transition) (all s.objects);
}

-- behind the step nothing but objects has changed, as far as it was seen, where it answered this
abbrev pub has_rested : Seen → Stepped → State → Bool
has_rested x a t = may_be_nothing a x.quiet && is_same x.stacks x.glance t

-- what is told behind the step, in this state, where it answered this
abbrev pub settled_text : Form → Seen → Stepped → State → List ℕ
settled_text f x a t =
    outcome_by f (starts x.marks.begun t) x.dropped (x.waiting - length t.queue) (notes f x.touched (all t.objects)) (has_rested x a t) x.why a

-- what is traced behind the step, whether its entry was a fault being known
abbrev pub noted : Option Item → Marks → Bool → Tracing → Tracing
noted i m b p = record {
  state = p.state;
  places = places_with (starts m.begun p.state) m.closing (put_sites b m.opened) (places_behind i p.places);
  done = done_with b m.place p.done;
  entered = entered_with i p.entered;
  faulted = faulted_with b m.place p.faulted;
  directory = p.directory;
}

-- A STEP, and its line

abbrev pub traced_by : Option Item → Tracing → Tracing
traced_by i p =
    noted i (marks_of i p.state p.places) (is_fault (answer_of p.state)) (record p { state = step p.state })

abbrev pub traced_step : Tracing → Tracing
traced_step p = traced_by (front p.state) p

-- what is told where it is to be
abbrev pub told_if : Bool → List ℕ → List ℕ
told_if b text = if b then text else []

abbrev pub told_line : Form → Option Item → Tracing → List ℕ
told_line f i p =
    head_by f p.directory i (first p.state) p.state p.places
    ++ settled_text f (seen_of i p.state p.places) (answer_of p.state) (step p.state)

abbrev pub line_by : Telling → Option Item → Tracing → List ℕ
line_by t i p = told_if (tells t (p.state.taken + 1)) (told_line t.form i p)

abbrev pub step_line : Telling → Tracing → List ℕ
step_line t p = line_by t (front p.state) p

-- STEPS AND COMMANDS

-- there is something to do, and a step can be counted
abbrev pub can_step : State → Bool
can_step s = if is_settled s then false else not (s.taken == most_steps)

-- so many are left to make, one at least, and one can be made
abbrev pub goes_on : ℕ → State → Bool
goes_on zero s = false
goes_on (suc n) s = can_step s

-- so many steps, or as many as there are

abbrev pub steps : ℕ → Tracing → Tracing
steps zero p = p
steps (suc n) p = if can_step p.state then steps n (traced_step p) else p

abbrev pub steps_text : Telling → ℕ → Tracing → List ℕ
steps_text t zero p = []
steps_text t (suc n) p = if can_step p.state then step_line t p ++ steps_text t n (traced_step p) else []

abbrev pub traced : Command → Tracing → Tracing
traced (command.Post i) p = record p { state = posted i p.state }
traced (command.Step n) p = steps n p
traced command.Show p = p

-- a file is there, unless something is in the way
abbrev pub preset_unless : Option Obstacle → File → State → State
preset_unless None f s = preset f s
preset_unless (Some o) f s = s

abbrev pub preset_text_by : Telling → Option Obstacle → File → List ℕ
preset_text_by t None f = []
preset_text_by t (Some o) f = preset_by t.form f o

abbrev pub preset_one : File → Tracing → Tracing
preset_one f p = record p { state = preset_unless (preset_obstacle f p.state) f p.state }

abbrev pub preset_text : Telling → File → Tracing → List ℕ
preset_text t f p = preset_text_by t (preset_obstacle f p.state) f

abbrev pub preset_all : List File → Tracing → Tracing
preset_all [] p = p
preset_all (f ∷ fs) p = preset_all fs (preset_one f p)

abbrev pub presets_text : Telling → List File → Tracing → List ℕ
presets_text t [] p = []
presets_text t (f ∷ fs) p = preset_text t f p ++ presets_text t fs (preset_one f p)

-- the steps of a command, and what the report says of them
abbrev pub stepped_text : Telling → ℕ → Tracing → List ℕ
stepped_text t n p =
    steps_text t n p
    ++ told_if (tells_behind t (steps n p).state.taken) (did_by t.form ((steps n p).state.taken - p.state.taken) (rest_of (steps n p).state))

abbrev pub command_text : Telling → Command → Tracing → List ℕ
command_text t (command.Post i) p = told_if (tells_behind t p.state.taken) (post_by t.form i (obstacle_to i p.state))
command_text t (command.Step n) p = stepped_text t n p
command_text t command.Show p = told_if (tells_behind t p.state.taken) (show_by t.form)

-- THE TRACE OF A SCRIPT: what its commands print, and at the end the report's count of steps

abbrev pub trace_text : Telling → List Command → Tracing → List ℕ
trace_text t [] p = total_by t.form p.state.taken
trace_text t (c ∷ cs) p = command_text t c p ++ trace_text t cs (traced c p)

abbrev pub traced_all : List Command → Tracing → Tracing
traced_all [] p = p
traced_all (c ∷ cs) p = traced_all cs (traced c p)
