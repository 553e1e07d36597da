-- One rule for each item and each action. A rule finds its item taken from the work list.
use Rattle.std.specs.Prelude.{ℕ, ◌+◌, ◌-◌, ◌==◌, Bool, true, false, ◌&&◌, not, if◌then◌else◌, List, [], ◌∷◌, ◌++◌, map, filter, Option, Some, None, unwrap_or, option_and_then}
use Rattle.std.specs.List.{list_any}
use Rattle.std.specs.Str.{bytes_eq}
use Rattle.mh_base.specs.declared.obj_ref.ObjRef.{ObjRef}
use Rattle.mh_base.specs.declared.value.Value.{Value}
use Rattle.mh_base.specs.Event.{is_sync}
use Rattle.mh_base.specs.declared.value.Value.TheVariants as value
use Rattle.mh_group.specs.Table.{is_application, is_visible}
use Rattle.mh_group.specs.declared.attribute.Attribute.TheVariants as attribute
use Rattle.mh_group.specs.declared.written.Position.{Position}
use Rattle.mh_group.specs.declared.action_name.ActionName.{ActionName}
use Rattle.mh_group.specs.declared.action_name.ActionName.TheVariants as action
use Rattle.mh_model.specs.declared.act.Act.{Act}
use Rattle.mh_model.specs.declared.act.Argument.{Argument}
use Rattle.mh_model.specs.declared.event.Event.{Event}
use Rattle.mh_model.specs.declared.held.Held.TheVariants as of
use Rattle.mh_model.specs.declared.input.Waiting.{Waiting}
use Rattle.mh_model.specs.declared.input.Waiting.TheVariants as waiting
use Rattle.mh_model.specs.declared.interaction.Interaction.{Interaction}
use Rattle.mh_model.specs.declared.item.Item.{Item}
use Rattle.mh_model.specs.declared.item.Item.TheVariants as item
use Rattle.mh_model.specs.declared.object.Body.{Body}
use Rattle.mh_model.specs.declared.object.Fixed.{Fixed}
use Rattle.mh_model.specs.declared.object.Object.{Object}
use Rattle.mh_model.specs.declared.time.Moments.{Moments}
use Rattle.mh_model.specs.declared.transition.Transition.{Transition}
use Rattle.mh_model.specs.declared.transition.Transition.TheVariants as transition
use Rattle.mh_model.specs.declared.program.Builtin.{Builtin}
use Rattle.mh_model.specs.declared.program.Now.{Now}
use Rattle.mh_model.specs.declared.program.Outcome.{Outcome}
use Rattle.mh_model.specs.declared.program.Param.{Param}
use Rattle.mh_model.specs.declared.sort.Sort.{Sort}
use Rattle.mh_model.specs.declared.sort.Sort.TheVariants as sort
use Rattle.mh_model.specs.First.{change_first}
use Rattle.mh_model.specs.Files.{comes_to, missing, is_loadable, forgotten, awaited}
use Rattle.mh_model.specs.Faults.{passed}
use Rattle.mh_model.specs.Known.{program_name, params_in}
use Rattle.mh_model.specs.Programs.{builtin_named, ins, outs, said_by, outcome_of}
use Rattle.mh_model.specs.Service.{part_at, parts, object_at, group_parts, group_objects, with_parts}
use Rattle.mh_model.specs.Reference.{same_ref}
use Rattle.mh_model.specs.State.{State, Objects, all}
use Rattle.mh_model.specs.Configuration.{is_group_of}
use Rattle.mh_model.specs.Items.{heard}
use Rattle.mh_model.specs.Groups.{entering, leaving, quitting}
use Rattle.mh_model.specs.Sort.{sort_of}
use Rattle.mh_model.specs.Arguments.{values, receivers, referred}
use Rattle.mh_model.specs.Bodies.{prepared, started, halted, dropped, put, stored, replaced, brought, text_of, changed_by}
use Rattle.mh_model.specs.Lifecycle.{prepare_items, run_items, halt_items, drop_items, is_available_at, is_unavailable_at, is_unprepared_at, loaded_at, run_places, waits_if}
use Rattle.mh_model.specs.Stack.{with_risen, without, reordered}
use Rattle.mh_model.specs.Picture.{looked}
use Rattle.mh_model.specs.Time.{set_timers}
use Rattle.mh_model.specs.Widget.{Worked}
use Rattle.mh_model.specs.Late.{is_late_scene}
use Rattle.mh_model.specs.Worked.{worked, is_interacting, ended_of, interaction_of}
use Rattle.mh_model.specs.Saying.{answers_at, put_items_at, load_items, call_items, interaction_items}

-- A rule changes the body of an object; what its file says of it stays.

abbrev pub is_at : ObjRef → Object → Bool
is_at r o = same_ref r o.fixed.key

abbrev pub on_body : (Fixed → Body → Body) → Object → Object
on_body f o = record o { body = f o.fixed o.body }

abbrev pub changed_in : (Fixed → Body → Body) → ObjRef → List Object → List Object
changed_in f r os = change_first (is_at r) (on_body f) os

-- the objects with the body of the one at this reference changed
abbrev pub changed : (Fixed → Body → Body) → ObjRef → Objects → Objects
changed f r os =
    if list_any (is_at r) os.application then record os { application = changed_in f r os.application }
    else record os { scene = changed_in f r os.scene }

-- the objects with this text, where it is brought to them
abbrev pub with_text : (ObjRef → Bool) → List ℕ → List Object → List Object
with_text is text os = map (λ (o : Object). if is o.fixed.key then record o { body = brought text o.body } else o) os

abbrev pub text_brought : (ObjRef → Bool) → List ℕ → Objects → Objects
text_brought is text os = record {
  application = with_text is text os.application;
  scene = with_text is text os.scene;
}

-- Actions, by what kind of thing they do.

-- the body of what the action is done to is changed
abbrev pub change_rule : ActionName → List Value → ObjRef → State → State
change_rule n vs r s = record s { objects = changed (changed_by n vs) r s.objects }

-- each receiver is given its answer, in written order; one that is too long is not received
abbrev pub filled : List ObjRef → List Value → Objects → Objects
filled [] vs os = os
filled (r ∷ rs) [] os = os
filled (r ∷ rs) (v ∷ vs) os = filled rs vs (changed (λ p b. stored v b) r os)

-- what the action is done to is asked
abbrev pub ask_rule : ActionName → List Value → List ObjRef → ObjRef → State → State
ask_rule n vs rs r s =
    record s { objects = filled rs (answers_at n vs (object_at r (all s.objects))) s.objects }

-- items are put
abbrev pub put_rule : ActionName → List Value → ObjRef → State → State
put_rule n vs r s = record s { work = put_items_at n vs r (object_at r (all s.objects)) ++ s.work }

-- what it is done to gets new content, which is loaded where it is available
abbrev pub loaded_with : Value → ObjRef → State → State
loaded_with v r s = record s {
  objects = changed (λ p b. replaced v (comes_to s.files v) b) r s.objects;
  waits =
      if is_available_at (object_at r (all s.objects)) then awaited (missing s.files v) r s.waits else s.waits;
  work = load_items s.files (v ∷ []) r (object_at r (all s.objects)) ++ s.work;
}

-- what is too long changes nothing
abbrev pub load_rule : List Value → ObjRef → State → State
load_rule (v ∷ []) r s = if is_loadable v then loaded_with v r s else s
load_rule vs r s = s

-- an object that is available is moved in the display stack
abbrev pub order_rule : ActionName → List Value → ObjRef → State → State
order_rule n vs r s = record s {
  stack =
      if is_available_at (object_at r (all s.objects)) then reordered n vs r (all s.objects) s.stack
      else s.stack;
}

-- Widgets. What a list shows is placed, where it is a visible that is there.

abbrev pub placed_at : Position → Fixed → Body → Body
placed_at q p b = if is_visible p.class then put attribute.OrigPosition (of.Pair q.x q.y) b else b

abbrev pub all_placed : List (ObjRef × Position) → Objects → Objects
all_placed [] os = os
all_placed (p ∷ ps) os = all_placed ps (changed (placed_at p.1) p.0 os)

abbrev pub with_work : Worked → ObjRef → State → State
with_work w r s = record s {
  objects = all_placed w.placed (changed (λ p b. w.body) r s.objects);
  work = w.items ++ s.work;
}

abbrev pub widget_at : ActionName → List Value → ObjRef → Option Object → State → State
widget_at n vs r None s = s
widget_at n vs r (Some o) s = with_work (worked n vs r o.fixed o.body) r s

abbrev pub widget_rule : ActionName → List Value → ObjRef → State → State
widget_rule n vs r s = widget_at n vs r (object_at r (all s.objects)) s

-- Interaction. An object that runs and does not interact begins to, in the place of any other; one that interacts
-- ends, and that is told.

abbrev pub begins_with : ObjRef → Option Object → Option Interaction → Option Interaction
begins_with r None i = i
begins_with r (Some o) i =
    if o.body.running && not (is_interacting r i)
    then Some (record { object = r; before = text_of o.body })
    else i

abbrev pub interaction_set : List Value → ObjRef → Option Object → Option Interaction → Option Interaction
interaction_set (value.Bool true ∷ []) r o i = begins_with r o i
interaction_set (value.Bool false ∷ []) r o i = ended_of r i
interaction_set vs r o i = i

abbrev pub interact_rule : ActionName → List Value → List ObjRef → ObjRef → State → State
interact_rule action.SetInteractionStatus vs rs r s = record s {
  interaction = interaction_set vs r (object_at r (all s.objects)) s.interaction;
  work = interaction_items vs (is_interacting r s.interaction) r ++ s.work;
}
interact_rule action.GetInteractionStatus vs rs r s =
    record s { objects = filled rs (value.Bool (is_interacting r s.interaction) ∷ []) s.objects }
interact_rule _ vs rs r s = s

-- The lock. The first one keeps the picture that is there, and while it is above 0 that one is shown.

abbrev pub locked : State → State
locked s = record s { locks = s.locks + 1; frozen = if s.locks == 0 then looked s else s.frozen }

abbrev pub unlocked : State → State
unlocked s = record s { locks = s.locks - 1 }

-- a timer of the group that is named is set or cancelled
abbrev pub timer_rule : List Value → ObjRef → State → State
timer_rule vs r s = record s { timers = set_timers vs s.application r.group s.moments s.timers }

-- Transitions. One replaces the whole work list, unless one has begun; to a scene that is still late it waits.

-- all that is done when the current application is left, and then this
abbrev pub quit_before : Item → State → List Item
quit_before last s =
    quitting s.application (group_parts s.service s.application) (with_parts s.service s.scene) last

-- what a transition puts
abbrev pub way_out : ActionName → ObjRef → State → List Item
way_out action.TransitionTo r s =
    leaving (group_parts s.service s.application) (with_parts s.service s.scene) r.group
way_out action.Launch r s = quit_before (item.Exchange r.group) s
way_out _ r s = quit_before item.End s

abbrev pub is_begun : Transition → Bool
is_begun transition.Begun = true
is_begun _ = false

-- one begins; no scene is waited for any more
abbrev pub begins : ActionName → ObjRef → State → State
begins n r s = record s { transition = transition.Begun; work = way_out n r s }

-- it leads to a scene that is still late
abbrev pub leads_to_late : ActionName → ObjRef → State → Bool
leads_to_late action.TransitionTo r s = is_late_scene r.group s.late
leads_to_late _ r s = false

-- such a one waits, in the place of an earlier one, and the work goes on
abbrev pub begins_or_waits : Bool → ActionName → ObjRef → State → State
begins_or_waits true n r s = record s { transition = transition.Awaits r.group }
begins_or_waits false n r s = begins n r s

abbrev pub transition_rule : ActionName → ObjRef → State → State
transition_rule n r s = if is_begun s.transition then s else begins_or_waits (leads_to_late n r s) n r s

-- Programs. The variable that is written first is told whether the call went well; what it answers goes into those
-- that are passed for it.

abbrev pub called : Outcome → ActionName → List Param → List Argument → ObjRef → State → State
called said n ps xs r s = record s {
  objects = filled (receivers xs ++ outs ps (passed xs)) (said_by said) s.objects;
  work = call_items n r ++ s.work;
}

-- the day on which the engine began, and the present moment
abbrev pub now_of : State → Now
now_of s = record { mjd = s.mjd; moment = s.moments.present }

-- the built-in program of the name that is written in this part, if it is there
abbrev pub builtin_in : Option Fixed → Option Builtin
builtin_in None = None
builtin_in (Some p) = option_and_then builtin_named (program_name p)

-- what comes of a call of the program that is found
abbrev pub outcome_at : Option Fixed → List Param → List Argument → State → Outcome
outcome_at p ps xs s = outcome_of (builtin_in p) s.said (now_of s) (values (all s.objects) (ins ps (passed xs)))

abbrev pub called_with : Option Fixed → List Param → ActionName → List Argument → ObjRef → State → State
called_with p ps n xs r s = called (outcome_at p ps xs s) n ps xs r s

-- the program at the reference is called
abbrev pub call_rule : ActionName → List Argument → ObjRef → State → State
call_rule n xs r s =
    called_with (part_at r (parts (all s.objects)))
    (unwrap_or (params_in s.service.programs (part_at r (parts (all s.objects)))) []) n xs r s

-- what is a matter of the whole machine
abbrev pub whole_rule : ActionName → List Value → ObjRef → State → State
whole_rule action.TransitionTo vs r s = transition_rule action.TransitionTo r s
whole_rule action.Launch vs r s = transition_rule action.Launch r s
whole_rule action.Quit vs r s = transition_rule action.Quit r s
whole_rule action.LockScreen vs r s = locked s
whole_rule action.UnlockScreen vs r s = unlocked s
whole_rule action.SetTimer vs r s = timer_rule vs r s
whole_rule _ vs r s = s

-- an action, done with these arguments to the object at the reference
abbrev pub rule_by : Sort → ActionName → List Argument → ObjRef → State → State
rule_by sort.Change n xs r s = change_rule n (values (all s.objects) xs) r s
rule_by sort.Ask n xs r s = ask_rule n (values (all s.objects) xs) (receivers xs) r s
rule_by sort.Put n xs r s = put_rule n (values (all s.objects) xs) r s
rule_by sort.Load n xs r s = load_rule (values (all s.objects) xs) r s
rule_by sort.Call n xs r s = call_rule n xs r s
rule_by sort.Order n xs r s = order_rule n (values (all s.objects) xs) r s
rule_by sort.Widget n xs r s = widget_rule n (values (all s.objects) xs) r s
rule_by sort.Interact n xs r s = interact_rule n (values (all s.objects) xs) (receivers xs) r s
rule_by sort.Whole n xs r s = whole_rule n (values (all s.objects) xs) r s

-- an action whose target comes to nothing does nothing
abbrev pub act_on : Option ObjRef → ActionName → List Argument → State → State
act_on None n xs s = s
act_on (Some r) n xs s = rule_by (sort_of n) n xs r s

abbrev pub act_rule : Act → State → State
act_rule a s = act_on (referred a.target (all s.objects)) a.name a.arguments s

-- Items

-- an event is dealt with at once, or waits in the queue
abbrev pub emitted : Event → State → State
emitted e s =
    if is_sync e.kind then record s { work = heard e (all s.objects) ++ s.work }
    else record s { queue = s.queue ++ waiting.Event e ∷ [] }

-- the moment in which a group is entered is noted
abbrev pub noted : List ℕ → State → Moments
noted g s =
    if bytes_eq g s.application then record s.moments { application = s.moments.present }
    else record s.moments { scene = s.moments.present }

-- Exchanges. Inputs wait on, whatever is left.

abbrev pub is_input : Waiting → Bool
is_input (waiting.Input i) = true
is_input (waiting.Event e) = false

-- an input, or an event of the application
abbrev pub stays : List ℕ → Waiting → Bool
stays application (waiting.Input i) = true
stays application (waiting.Event e) = bytes_eq e.source.group application

-- another scene: objects, stack places, interaction, timers, waiting events and awaited files of the application stay
abbrev pub scene_exchanged : List ℕ → State → State
scene_exchanged g s = record s {
  scene = Some g;
  objects = record { application = s.objects.application; scene = group_objects s.service g };
  stack = filter (λ r. bytes_eq r.group s.application) s.stack;
  interaction = interaction_of s.application s.interaction;
  timers = filter (λ t. bytes_eq t.group s.application) s.timers;
  waits = filter (λ w. bytes_eq w.object.group s.application) s.waits;
  queue = filter (stays s.application) s.queue;
  transition = transition.Rests;
  work = item.Enter g ∷ s.work;
}

-- another application: all of that goes
abbrev pub application_exchanged : List ℕ → State → State
application_exchanged g s = record s {
  application = g;
  scene = None;
  objects = record { application = group_objects s.service g; scene = [] };
  stack = [];
  interaction = None;
  timers = [];
  waits = [];
  queue = filter is_input s.queue;
  transition = transition.Rests;
  work = item.Enter g ∷ s.work;
}

abbrev pub exchange_rule : List ℕ → State → State
exchange_rule g s =
    if is_group_of is_application s.service g then application_exchanged g s else scene_exchanged g s

abbrev pub run_rule : ObjRef → State → State
run_rule r s = record s {
  objects =
      all_placed (run_places (object_at r (all s.objects)))
      (changed (λ p b. started (loaded_at s.files (object_at r (all s.objects))) p b) r s.objects);
  waits =
      waits_if s.files (is_unprepared_at (object_at r (all s.objects))) r (object_at r (all s.objects)) s.waits;
  stack = with_risen (is_unprepared_at (object_at r (all s.objects))) r (object_at r (all s.objects)) s.stack;
  work = run_items s.files r (object_at r (all s.objects)) ++ s.work;
}

abbrev pub halt_rule : ObjRef → State → State
halt_rule r s = record s {
  objects = changed (λ p b. halted b) r s.objects;
  interaction = ended_of r s.interaction;
  work = halt_items r (object_at r (all s.objects)) ++ s.work;
}

abbrev pub rule : Item → State → State
rule (item.Act a) s = act_rule a s
rule (item.Prepare r) s = record s {
  objects = changed (λ p b. prepared (loaded_at s.files (object_at r (all s.objects))) b) r s.objects;
  waits =
      waits_if s.files (is_unavailable_at (object_at r (all s.objects))) r (object_at r (all s.objects)) s.waits;
  stack = with_risen (is_unavailable_at (object_at r (all s.objects))) r (object_at r (all s.objects)) s.stack;
  work = prepare_items s.files r (object_at r (all s.objects)) ++ s.work;
}
rule (item.Run r) s = run_rule r s
rule (item.Halt r) s = halt_rule r s
rule (item.RunMember r) s = run_rule r s
rule (item.HaltMember r) s = halt_rule r s
rule (item.Drop r) s = record s {
  objects = changed (λ p b. dropped b) r s.objects;
  stack = without r s.stack;
  waits = forgotten r s.waits;
  work = drop_items r (object_at r (all s.objects)) ++ s.work;
}
rule (item.Emit e) s = emitted e s
rule (item.Enter g) s = record s {
  moments = noted g s;
  work = entering g (group_parts s.service g) ++ s.work;
}
rule (item.Exchange g) s = exchange_rule g s
rule item.End s = record s { ended = true; queue = [] }
