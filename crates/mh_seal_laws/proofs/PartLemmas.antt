-- A step beside another service that tells alike of what is there.
use Rattle.std.specs.Option.{option_map_or}
use Rattle.std.specs.List.{flat_map}
use Rattle.std.specs.Prelude.{◌++◌, ◌+◌, ◌∷◌, ◌≡◌, ◌==◌, ◌&&◌, Bool, List, None, Option, Some, [], drop, false, if◌then◌else◌, slice_get, true, ℕ, ℤ, map, unwrap_or}
use Rattle.std.proofs.Common.{ap, refl, subst, sym, ◌∙◌}
use Rattle.mh_base.specs.Event.{is_sync}
use Rattle.mh_base.specs.declared.obj_ref.ObjRef.{ObjRef}
use Rattle.mh_base.specs.declared.value.Kind.{Kind}
use Rattle.mh_base.specs.declared.value.Kind.TheVariants as kind
use Rattle.mh_base.specs.declared.value.Value.{Value}
use Rattle.mh_base.specs.declared.value.Value.TheVariants as value
use Rattle.mh_group.specs.Table.{is_application, admits, needs_of}
use Rattle.mh_group.specs.declared.class.Class.{Class}
use Rattle.mh_group.specs.declared.shape.Need.{Need}
use Rattle.mh_group.specs.declared.shape.Need.TheVariants as need
use Rattle.mh_group.specs.declared.action_name.ActionName.{ActionName}
use Rattle.mh_group.specs.declared.action_name.ActionName.TheVariants as action
use Rattle.mh_model.specs.declared.act.Act.{Act}
use Rattle.mh_model.specs.declared.act.Argument.{Argument}
use Rattle.mh_model.specs.declared.act.Argument.TheVariants as argument
use Rattle.mh_model.specs.declared.act.Target.{Target}
use Rattle.mh_model.specs.declared.act.Target.TheVariants as target
use Rattle.mh_model.specs.declared.event.Event.{Event}
use Rattle.mh_model.specs.declared.fault.Fault.{Fault}
use Rattle.mh_model.specs.declared.input.Input.TheVariants as input
use Rattle.mh_model.specs.declared.input.Waiting.{Waiting}
use Rattle.mh_model.specs.declared.input.Waiting.TheVariants as waiting
use Rattle.mh_model.specs.declared.interaction.Interaction.{Interaction}
use Rattle.mh_model.specs.declared.item.Item.{Item}
use Rattle.mh_model.specs.declared.item.Item.TheVariants as item
use Rattle.mh_model.specs.declared.key.Key.{Key}
use Rattle.mh_model.specs.declared.object.Fixed.{Fixed}
use Rattle.mh_model.specs.declared.object.Object.{Object}
use Rattle.mh_model.specs.declared.program.Signature.{Signature}
use Rattle.mh_model.specs.declared.sort.Sort.{Sort}
use Rattle.mh_model.specs.declared.sort.Sort.TheVariants as sort
use Rattle.mh_model.specs.declared.transition.Transition.TheVariants as transition
use Rattle.mh_model.specs.Arguments.{receivers, referred, values}
use Rattle.mh_model.specs.Faults.{Wrong, admitted_wrongs, argument_wrongs, arguments_wrongs, call_wrongs, called_wrongs, fault_by, fault_known, is_call, is_data_kind, is_content_kind, is_test, integer_wrongs, is_transition, least, machine_rank, needs_behind, object_wrongs, operator_wrongs, passed_wrongs, receiver_wrongs, reference_wrongs, target_variable, target_wrongs, targets, timer_wrongs, typed_wrongs, goes_with, untaken, untaken_through, unfit_through, value_wrongs, variable_wrongs, wrongs}
use Rattle.mh_model.specs.Files.{is_loadable}
use Rattle.mh_model.specs.Groups.{entering, leaving, quitting}
use Rattle.mh_model.specs.Items.{heard}
use Rattle.mh_model.specs.Known.{Known, class_at, known_in, params_in}
use Rattle.mh_model.specs.Late.{is_late_scene}
use Rattle.mh_model.specs.Reference.{group_ref}
use Rattle.mh_model.specs.Rules.{act_on, application_exchanged, begins, begins_or_waits, called_with, emitted, exchange_rule, interact_rule, is_begun, load_rule, loaded_with, noted, rule, rule_by, scene_exchanged, whole_rule, widget_at}
use Rattle.mh_model.specs.Service.{Service, fresh, group_parts, object_at, part_at, parts, with_parts}
use Rattle.mh_model.specs.Sort.{sort_of}
use Rattle.mh_model.specs.State.{State, all}
use Rattle.mh_model.specs.Step.{awaits, did, key_taken, pressed_at, scene_arrived, step_by, taking}
use Rattle.mh_model.specs.Stuck.{fault_at, stuck}
use Rattle.mh_model.specs.Variables.{is_operator, kind_of, same_kind}
use Rattle.mh_seal_laws.specs.Part.{IsAlike, NotLookedAt, ShownAlike, StuckAlike, TellsOf, beside}

-- what the first state comes to is the second beside the service, and there all is told alike
abbrev Follows : Service → State → State → Type 0
Follows w t u = (t ≡ beside w u) × IsAlike w u

load_beside : (w : Service) (vs : List Value) (r : ObjRef) (s : State) → IsAlike w s → Follows w (load_rule vs r (beside w s)) (load_rule vs r s)
load_beside w [] r s k = (refl, k)
load_beside w (v ∷ x ∷ vs) r s k = (refl, k)
load_beside w (v ∷ []) r s k = by (is_loadable v)
  where
    by : (t : Bool) → Follows w (if t then loaded_with v r (beside w s) else beside w s) (if t then loaded_with v r s else s)
    by true = (refl, k)
    by false = (refl, k)

widget_beside : (w : Service) (n : ActionName) (vs : List Value) (r : ObjRef) (m : Option Object) (s : State) → IsAlike w s → Follows w (widget_at n vs r m (beside w s)) (widget_at n vs r m s)
widget_beside w n vs r None s k = (refl, k)
widget_beside w n vs r (Some o) s k = (refl, k)

interact_beside : (w : Service) (n : ActionName) (vs : List Value) (rs : List ObjRef) (r : ObjRef) (s : State) → IsAlike w s → Follows w (interact_rule n vs rs r (beside w s)) (interact_rule n vs rs r s)
interact_beside w action.SetInteractionStatus vs rs r s k = (refl, k)
interact_beside w action.GetInteractionStatus vs rs r s k = (refl, k)
interact_beside w _ vs rs r s k = (refl, k)

-- a transition looks at the application and at the scene that are left

leaving_beside : (w : Service) (r : ObjRef) (s : State) → IsAlike w s → begins action.TransitionTo r (beside w s) ≡ beside w (begins action.TransitionTo r s)
leaving_beside w r s k =
    ap (λ (ps : List Fixed). beside w (record s { transition = transition.Begun; work = leaving ps (with_parts w s.scene) r.group })) k.own
    ∙ ap (λ (m : Option (List ℕ × List Fixed)). beside w (record s { transition = transition.Begun; work = leaving (group_parts s.service s.application) m r.group })) k.others

quitting_beside : (w : Service) (last : Item) (s : State) → IsAlike w s →
    beside w (record s { transition = transition.Begun; work = quitting s.application (group_parts w s.application) (with_parts w s.scene) last })
    ≡ beside w (record s { transition = transition.Begun; work = quitting s.application (group_parts s.service s.application) (with_parts s.service s.scene) last })
quitting_beside w last s k =
    ap (λ (ps : List Fixed). beside w (record s { transition = transition.Begun; work = quitting s.application ps (with_parts w s.scene) last })) k.own
    ∙ ap (λ (m : Option (List ℕ × List Fixed)). beside w (record s { transition = transition.Begun; work = quitting s.application (group_parts s.service s.application) m last })) k.others

course_beside : (w : Service) (n : ActionName) (r : ObjRef) (s : State) → IsAlike w s → begins n r (beside w s) ≡ beside w (begins n r s) → (b late : Bool) → Follows w (if b then beside w s else begins_or_waits late n r (beside w s)) (if b then s else begins_or_waits late n r s)
course_beside w n r s k e true late = (refl, k)
course_beside w n r s k e false true = (refl, k)
course_beside w n r s k e false false = (e, k)

whole_beside : (w : Service) (n : ActionName) (vs : List Value) (r : ObjRef) (s : State) → IsAlike w s → Follows w (whole_rule n vs r (beside w s)) (whole_rule n vs r s)
whole_beside w action.TransitionTo vs r s k = course_beside w action.TransitionTo r s k (leaving_beside w r s k) (is_begun s.transition) (is_late_scene r.group s.late)
whole_beside w action.Launch vs r s k = course_beside w action.Launch r s k (quitting_beside w (item.Exchange r.group) s k) (is_begun s.transition) false
whole_beside w action.Quit vs r s k = course_beside w action.Quit r s k (quitting_beside w item.End s k) (is_begun s.transition) false
whole_beside w action.LockScreen vs r s k = (refl, k)
whole_beside w action.UnlockScreen vs r s k = (refl, k)
whole_beside w action.SetTimer vs r s k = (refl, k)
whole_beside w _ vs r s k = (refl, k)

call_beside : (w : Service) (n : ActionName) (xs : List Argument) (r : ObjRef) (s : State) → IsAlike w s → rule_by sort.Call n xs r (beside w s) ≡ beside w (rule_by sort.Call n xs r s)
call_beside w n xs r s k =
    let p = part_at r (parts (all s.objects)) in
    ap (λ (ss : List Signature). called_with p (unwrap_or (params_in ss p) []) n xs r (beside w s)) k.programs

sort_beside : (w : Service) (o : Sort) (n : ActionName) (xs : List Argument) (r : ObjRef) (s : State) → IsAlike w s → Follows w (rule_by o n xs r (beside w s)) (rule_by o n xs r s)
sort_beside w sort.Change n xs r s k = (refl, k)
sort_beside w sort.Ask n xs r s k = (refl, k)
sort_beside w sort.Put n xs r s k = (refl, k)
sort_beside w sort.Load n xs r s k = load_beside w (values (all s.objects) xs) r s k
sort_beside w sort.Call n xs r s k = (call_beside w n xs r s k, k)
sort_beside w sort.Order n xs r s k = (refl, k)
sort_beside w sort.Widget n xs r s k = widget_beside w n (values (all s.objects) xs) r (object_at r (all s.objects)) s k
sort_beside w sort.Interact n xs r s k = interact_beside w n (values (all s.objects) xs) (receivers xs) r s k
sort_beside w sort.Whole n xs r s k = whole_beside w n (values (all s.objects) xs) r s k

act_beside : (w : Service) (m : Option ObjRef) (n : ActionName) (xs : List Argument) (s : State) → IsAlike w s → Follows w (act_on m n xs (beside w s)) (act_on m n xs s)
act_beside w None n xs s k = (refl, k)
act_beside w (Some r) n xs s k = sort_beside w (sort_of n) n xs r s k

emit_beside : (w : Service) (e : Event) (s : State) → IsAlike w s → Follows w (emitted e (beside w s)) (emitted e s)
emit_beside w e s k = by (is_sync e.kind)
  where
    by : (t : Bool) → Follows w (if t then record (beside w s) { work = heard e (all s.objects) ++ s.work } else record (beside w s) { queue = s.queue ++ waiting.Event e ∷ [] }) (if t then record s { work = heard e (all s.objects) ++ s.work } else record s { queue = s.queue ++ waiting.Event e ∷ [] })
    by true = (refl, k)
    by false = (refl, k)

-- an exchange looks at the group that it brings

brought_scene : (w : Service) (g : List ℕ) (s : State) → IsAlike w s → group_parts w g ≡ group_parts s.service g → IsAlike w (scene_exchanged g s)
brought_scene w g s k told = record { programs = k.programs; classes = k.classes; own = k.own; others = ap (λ (ps : List Fixed). Some (g, ps)) told }

brought_application : (w : Service) (g : List ℕ) (s : State) → IsAlike w s → group_parts w g ≡ group_parts s.service g → IsAlike w (application_exchanged g s)
brought_application w g s k told = record { programs = k.programs; classes = k.classes; own = told; others = refl }

exchange_beside : (w : Service) (g : List ℕ) (s : State) → IsAlike w s → group_parts w g ≡ group_parts s.service g → Follows w (exchange_rule g (beside w s)) (exchange_rule g s)
exchange_beside w g s k told =
    subst (λ (ps : List Fixed). Follows w (if option_map_or (λ (p : Fixed). is_application p.class) (part_at (group_ref g) ps) false then application_exchanged g (beside w s) else scene_exchanged g (beside w s)) (exchange_rule g s)) (sym told)
    (by (option_map_or (λ (p : Fixed). is_application p.class) (part_at (group_ref g) (group_parts s.service g)) false))
  where
    by : (t : Bool) → Follows w (if t then application_exchanged g (beside w s) else scene_exchanged g (beside w s)) (if t then application_exchanged g s else scene_exchanged g s)
    by true = (ap (λ (ps : List Fixed). beside w (record (application_exchanged g s) { objects = record { application = map fresh ps; scene = [] } })) told, brought_application w g s k told)
    by false = (ap (λ (ps : List Fixed). beside w (record (scene_exchanged g s) { objects = record { application = s.objects.application; scene = map fresh ps } })) told, brought_scene w g s k told)

rule_beside : (w : Service) (i : Item) (s : State) → IsAlike w s → TellsOf w s.service (Some i) → Follows w (rule i (beside w s)) (rule i s)
rule_beside w (item.Act a) s k told = act_beside w (referred a.target (all s.objects)) a.name a.arguments s k
rule_beside w (item.Emit e) s k told = emit_beside w e s k
rule_beside w (item.Enter g) s k told = (ap (λ (ps : List Fixed). beside w (record s { moments = noted g s; work = entering g ps ++ s.work })) told, k)
rule_beside w (item.Exchange g) s k told = exchange_beside w g s k told
rule_beside w _ s k told = (refl, k)

did_beside : (w : Service) (i : Item) (s : State) → IsAlike w s → TellsOf w s.service (Some i) → (m : Option Fault) → Follows w (did m i (beside w s)) (did m i s)
did_beside w i s k told None = rule_beside w i (record s { work = drop 1 s.work; taken = s.taken + 1 }) k told
did_beside w i s k told (Some f) = (refl, k)

key_beside : (w : Service) (x : Key) (m : Option Interaction) (s : State) → IsAlike w s → Follows w (key_taken x m (beside w s)) (key_taken x m s)
key_beside w x None s k = (refl, k)
key_beside w x (Some i) s k = by (object_at i.object (all s.objects))
  where
    by : (m : Option Object) → Follows w (pressed_at x i m (beside w s)) (pressed_at x i m s)
    by None = (refl, k)
    by (Some o) = (refl, k)

taking_beside : (w : Service) (x : Waiting) (s : State) → IsAlike w s → Follows w (taking x (beside w s)) (taking x s)
taking_beside w (waiting.Event e) s k = (refl, k)
taking_beside w (waiting.Input (input.Key x)) s k = key_beside w x s.interaction s k
taking_beside w (waiting.Input (input.Tick n)) s k = (refl, k)
taking_beside w (waiting.Input (input.Stream n)) s k = (refl, k)
taking_beside w (waiting.Input (input.Engine n)) s k = (refl, k)
taking_beside w (waiting.Input (input.Arrive f)) s k = (refl, k)
taking_beside w (waiting.Input (input.Scene g x)) s k = by (awaits g s.transition)
  where
    by : (b : Bool) → Follows w (if b then begins action.TransitionTo (group_ref g) (scene_arrived g (beside w s)) else scene_arrived g (beside w s)) (if b then begins action.TransitionTo (group_ref g) (scene_arrived g s) else scene_arrived g s)
    by true = (leaving_beside w (group_ref g) (scene_arrived g s) k, k)
    by false = (refl, k)

-- What is stuck. Of the groups of the service a judge asks the class alone, and of the groups themselves.

-- what is known, but this of the classes of groups
abbrev with_classes : (ObjRef → Option Class) → Known → Known
with_classes f k = record k { group_class = f }

abbrev AgreeOnGroups : (ObjRef → Option Class) → Known → Type 0
AgreeOnGroups f k = (r : ObjRef) → (r.number == 0) ≡ true → f r ≡ k.group_class r

admitted_same : (f : ObjRef → Option Class) (k : Known) → AgreeOnGroups f k → (n : ActionName) (v : Option ObjRef) (r : ObjRef) → admitted_wrongs (with_classes f k) n v r ≡ admitted_wrongs k n v r
admitted_same f k same n v r = ap (λ (m : Option Class). object_wrongs (λ c. admits c n) v r m) (by (is_transition n) (r.number == 0) refl)
  where
    by : (b c : Bool) → (r.number == 0) ≡ c → (if b && c then f r else k.class_of r) ≡ (if b && c then k.group_class r else k.class_of r)
    by true true e = same r e
    by true false e = refl
    by false c e = refl

all_admitted_same : (f : ObjRef → Option Class) (k : Known) → AgreeOnGroups f k → (n : ActionName) (v : Option ObjRef) (rs : List ObjRef) → flat_map (admitted_wrongs (with_classes f k) n v) rs ≡ flat_map (admitted_wrongs k n v) rs
all_admitted_same f k same n v [] = refl
all_admitted_same f k same n v (r ∷ rs) =
    ap (λ (ws : List Wrong). ws ++ flat_map (admitted_wrongs (with_classes f k) n v) rs) (admitted_same f k same n v r)
    ∙ ap (λ (ws : List Wrong). admitted_wrongs k n v r ++ ws) (all_admitted_same f k same n v rs)

target_same : (f : ObjRef → Option Class) (k : Known) → AgreeOnGroups f k → (n : ActionName) (t : Target) → target_wrongs (with_classes f k) n t ≡ target_wrongs k n t
target_same f k same n (target.Direct r) = admitted_same f k same n None r
target_same f k same n (target.Through v) = ap (λ (ws : List Wrong). variable_wrongs (same_kind kind.Object) v (k.class_of v) ++ ws) (all_admitted_same f k same n (Some v) (k.refers v))

targets_same : (f : ObjRef → Option Class) (k : Known) (t : Target) → targets (with_classes f k) t ≡ targets k t
targets_same f k (target.Direct r) = refl
targets_same f k (target.Through v) = refl

called_same : (f : ObjRef → Option Class) (k : Known) (a : Act) → called_wrongs (with_classes f k) a ≡ called_wrongs k a
called_same f k a = ap (λ (rs : List ObjRef). if is_call a.name then flat_map (call_wrongs k a) rs else []) (targets_same f k a.target)

value_same : (is : Kind → Bool) (f : ObjRef → Option Class) (k : Known) (a : Act) (x : Argument) → value_wrongs is (with_classes f k) a x ≡ value_wrongs is k a x
value_same is f k a (argument.Direct v) = refl
value_same is f k a (argument.Through v t) = refl
value_same is f k a (argument.Receiver v) = refl

operator_same : (f : ObjRef → Option Class) (k : Known) (a : Act) (x : Argument) → operator_wrongs (with_classes f k) a x ≡ operator_wrongs k a x
operator_same f k a (argument.Direct (value.Int n)) = ap (λ (rs : List ObjRef). flat_map (untaken k (λ t. is_operator t n) (target_variable a.target)) rs) (targets_same f k a.target)
operator_same f k a (argument.Direct _) = refl
operator_same f k a (argument.Through v t) = by (k.number v)
  where
    by : (m : Option ℤ) → unfit_through (with_classes f k) a v m ≡ unfit_through k a v m
    by None = refl
    by (Some n) = ap (λ (rs : List ObjRef). flat_map (untaken_through k (λ t. is_operator t n) v) rs) (targets_same f k a.target)
operator_same f k a (argument.Receiver v) = refl

integer_same : (f : ObjRef → Option Class) (k : Known) (a : Act) (x : Argument) → integer_wrongs (with_classes f k) a x ≡ integer_wrongs k a x
integer_same f k a x =
    ap (λ (ws : List Wrong). ws ++ (if is_test a.name then operator_wrongs (with_classes f k) a x else [])) (value_same (same_kind kind.Int) f k a x)
    ∙ ap (λ (ws : List Wrong). value_wrongs (same_kind kind.Int) k a x ++ (if is_test a.name then ws else [])) (operator_same f k a x)

reference_same : (f : ObjRef → Option Class) (k : Known) (a : Act) (x : Argument) → reference_wrongs (with_classes f k) a x ≡ reference_wrongs k a x
reference_same f k a (argument.Direct (value.Object r)) = refl
reference_same f k a (argument.Direct _) = refl
reference_same f k a (argument.Through v t) = refl
reference_same f k a (argument.Receiver v) = refl

receiver_same : (t : Kind) (f : ObjRef → Option Class) (k : Known) (a : Act) (x : Argument) → receiver_wrongs t (with_classes f k) a x ≡ receiver_wrongs t k a x
receiver_same t f k a (argument.Direct v) = refl
receiver_same t f k a (argument.Through v u) = refl
receiver_same t f k a (argument.Receiver v) = refl

typed_same : (f : ObjRef → Option Class) (k : Known) (a : Act) (x : Argument) → typed_wrongs (with_classes f k) a x ≡ typed_wrongs k a x
typed_same f k a (argument.Direct v) = ap (λ (rs : List ObjRef). flat_map (untaken k (λ t. goes_with a.name t (kind_of v)) (target_variable a.target)) rs) (targets_same f k a.target)
typed_same f k a (argument.Through v (Some u)) = ap (λ (rs : List ObjRef). variable_wrongs (same_kind u) v (k.class_of v) ++ flat_map (untaken_through k (λ t. goes_with a.name t u) v) rs) (targets_same f k a.target)
typed_same f k a (argument.Through v None) = refl
typed_same f k a (argument.Receiver v) = refl

passed_same : (f : ObjRef → Option Class) (k : Known) (a : Act) (x : Argument) → passed_wrongs (with_classes f k) a x ≡ passed_wrongs k a x
passed_same f k a (argument.Direct v) = refl
passed_same f k a (argument.Through v (Some u)) = refl
passed_same f k a (argument.Through v None) = refl
passed_same f k a (argument.Receiver v) = refl

argument_same : (f : ObjRef → Option Class) (k : Known) (a : Act) (n : Need) (x : Argument) → argument_wrongs (with_classes f k) a n x ≡ argument_wrongs k a n x
argument_same f k a need.Bool x = value_same (same_kind kind.Bool) f k a x
argument_same f k a need.Int x = integer_same f k a x
argument_same f k a need.Octets x = value_same (same_kind kind.Octets) f k a x
argument_same f k a need.Ref x = reference_same f k a x
argument_same f k a need.Content x = value_same is_content_kind f k a x
argument_same f k a need.Data x = value_same is_data_kind f k a x
argument_same f k a need.Event x = value_same (same_kind kind.Int) f k a x
argument_same f k a (need.Receiver t) x = receiver_same t f k a x
argument_same f k a need.Typed x = typed_same f k a x
argument_same f k a need.Arguments x = passed_same f k a x

arguments_same : (f : ObjRef → Option Class) (k : Known) (a : Act) (ns : List Need) (xs : List Argument) → arguments_wrongs (with_classes f k) a ns xs ≡ arguments_wrongs k a ns xs
arguments_same f k a [] xs = refl
arguments_same f k a (n ∷ ns) [] = refl
arguments_same f k a (n ∷ ns) (x ∷ xs) =
    ap (λ (ws : List Wrong). ws ++ arguments_wrongs (with_classes f k) a (needs_behind n ns) xs) (argument_same f k a n x)
    ∙ ap (λ (ws : List Wrong). argument_wrongs k a n x ++ ws) (arguments_same f k a (needs_behind n ns) xs)

wrongs_same : (f : ObjRef → Option Class) (k : Known) → AgreeOnGroups f k → (a : Act) → wrongs (with_classes f k) a ≡ wrongs k a
wrongs_same f k same a =
    let l = with_classes f k in
    ap (λ (ws : List Wrong). ws ++ called_wrongs l a ++ timer_wrongs a.name a.arguments ++ arguments_wrongs l a (needs_of a.name) a.arguments) (target_same f k same a.name a.target)
    ∙ ap (λ (ws : List Wrong). target_wrongs k a.name a.target ++ ws ++ timer_wrongs a.name a.arguments ++ arguments_wrongs l a (needs_of a.name) a.arguments) (called_same f k a)
    ∙ ap (λ (ws : List Wrong). target_wrongs k a.name a.target ++ called_wrongs k a ++ timer_wrongs a.name a.arguments ++ ws) (arguments_same f k a (needs_of a.name) a.arguments)

act_stuck : (w : Service) (s : State) → IsAlike w s → (a : Act) → stuck (item.Act a) (beside w s) ≡ stuck (item.Act a) s
act_stuck w s k a =
    let os = all s.objects in
    ap (λ (ss : List Signature). fault_known (record (known_in w os) { takes = λ r. params_in ss (part_at r (parts os)) }) a) k.programs
    ∙ ap (λ (ws : List Wrong). fault_by a.name (least machine_rank None ws)) (wrongs_same (λ r. class_at r (group_parts w r.group)) (known_in s.service os) k.classes a)

item_stuck : (w : Service) (s : State) → IsAlike w s → (i : Item) → stuck i (beside w s) ≡ stuck i s
item_stuck w s k (item.Act a) = act_stuck w s k a
item_stuck w s k (item.RunMember r) = refl
item_stuck w s k (item.HaltMember r) = refl
item_stuck w s k _ = refl

pub stuck_alike : StuckAlike
stuck_alike w s k = by (slice_get s.work 0)
  where
    by : (m : Option Item) → fault_at m (beside w s) ≡ fault_at m s
    by None = refl
    by (Some i) = item_stuck w s k i

pub step_beside : NotLookedAt
step_beside w s k told = unless_ended s.ended
  where
    by : (m : Option Item) (x : Option Waiting) → TellsOf w s.service m → Follows w (step_by m x (beside w s)) (step_by m x s)
    by None None t = (refl, k)
    by None (Some x) t = taking_beside w x (record s { queue = drop 1 s.queue; taken = s.taken + 1 }) k
    by (Some i) x t = subst (λ (m : Option Fault). Follows w (did m i (beside w s)) (did (stuck i s) i s)) (sym (item_stuck w s k i)) (did_beside w i s k t (stuck i s))

    unless_ended : (t : Bool) → Follows w (if t then beside w s else step_by (slice_get s.work 0) (slice_get s.queue 0) (beside w s)) (if t then s else step_by (slice_get s.work 0) (slice_get s.queue 0) s)
    unless_ended true = (refl, k)
    unless_ended false = by (slice_get s.work 0) (slice_get s.queue 0) told

pub shown_alike : ShownAlike
shown_alike w s = refl
