-- Beside an exchange, what the files say of the objects that are present stays.
use Rattle.std.specs.Prelude.{◌≡◌, ℕ, ◌||◌, ◌==◌, ◌+◌, Bool, true, false, not, if◌then◌else◌, List, [], ◌∷◌, ◌++◌, drop, map, slice_get, Option, Some, None, unwrap_or, refl}
use Rattle.std.specs.List.{list_any}
use Rattle.std.proofs.Common.{ap, sym, ◌∙◌}
use Rattle.std.proofs.lemmas.Bool.{false≢true}
use Rattle.std.proofs.lemmas.List.{map-append}
use Rattle.mh_base.specs.declared.obj_ref.ObjRef.{ObjRef}
use Rattle.mh_base.specs.declared.value.Value.{Value}
use Rattle.mh_base.specs.declared.value.Value.TheVariants as value
use Rattle.mh_base.specs.Event.{is_sync}
use Rattle.mh_group.specs.declared.action_name.ActionName.{ActionName}
use Rattle.mh_group.specs.declared.action_name.ActionName.TheVariants as action
use Rattle.mh_group.specs.declared.written.Position.{Position}
use Rattle.mh_model.specs.declared.act.Argument.{Argument}
use Rattle.mh_model.specs.declared.event.Event.{Event}
use Rattle.mh_model.specs.declared.fault.Fault.{Fault}
use Rattle.mh_model.specs.declared.input.Input.{Input}
use Rattle.mh_model.specs.declared.input.Input.TheVariants as input
use Rattle.mh_model.specs.declared.input.Waiting.{Waiting}
use Rattle.mh_model.specs.declared.input.Waiting.TheVariants as waiting
use Rattle.mh_model.specs.declared.interaction.Interaction.{Interaction}
use Rattle.mh_model.specs.declared.item.Item.{Item}
use Rattle.mh_model.specs.declared.item.Item.TheVariants as item
use Rattle.mh_model.specs.declared.key.Key.{Key}
use Rattle.mh_model.specs.declared.object.Body.{Body}
use Rattle.mh_model.specs.declared.object.Fixed.{Fixed}
use Rattle.mh_model.specs.declared.object.Object.{Object}
use Rattle.mh_model.specs.declared.sort.Sort.{Sort}
use Rattle.mh_model.specs.declared.sort.Sort.TheVariants as sort
use Rattle.mh_model.specs.Arguments.{receivers, values, referred}
use Rattle.mh_model.specs.Bodies.{brought, changed_by, dropped, halted, prepared, started, stored}
use Rattle.mh_model.specs.EntryFields.{pressed_of}
use Rattle.mh_model.specs.Faults.{passed}
use Rattle.mh_model.specs.Files.{comes_to, is_loadable, waits_for}
use Rattle.mh_model.specs.Items.{heard}
use Rattle.mh_model.specs.Known.{params_in}
use Rattle.mh_model.specs.Lifecycle.{loaded_at, run_places}
use Rattle.mh_model.specs.Programs.{outs, said_by}
use Rattle.mh_model.specs.Reference.{group_ref}
use Rattle.mh_model.specs.Rules.{act_on, act_rule, all_placed, begins, begins_or_waits, call_rule, changed, changed_in, emitted, filled, interact_rule, is_at, is_begun, leads_to_late, load_rule, loaded_with, on_body, outcome_at, placed_at, rule, rule_by, run_rule, text_brought, whole_rule, widget_at, widget_rule, with_text}
use Rattle.mh_model.specs.Saying.{answers_at}
use Rattle.mh_model.specs.Service.{object_at, part_at, parts}
use Rattle.mh_model.specs.Sort.{sort_of}
use Rattle.mh_model.specs.State.{Objects, State, all}
use Rattle.mh_model.specs.Step.{awaits, did, done, key_taken, faulted, file_taken, pressed_at, scene_arrived, scene_taken, step, step_by, taking, took}
use Rattle.mh_model.specs.Stuck.{stuck}
use Rattle.mh_model.specs.Worked.{is_interacting, worked}
use Rattle.mh_trace.specs.Listening.{is_exchange}

-- what the files say of all that are present
abbrev said : Objects → List Fixed
said os = parts (all os)

said_in : (f : Fixed → Body → Body) (r : ObjRef) (os : List Object) → parts (changed_in f r os) ≡ parts os
said_in f r [] = refl
said_in f r (o ∷ os) = by (is_at r o) (said_in f r os)
  where
    by : (b : Bool) → parts (changed_in f r os) ≡ parts os → parts (if b then on_body f o ∷ os else o ∷ changed_in f r os) ≡ o.fixed ∷ parts os
    by true below = refl
    by false below = ap (λ (ps : List Fixed). o.fixed ∷ ps) below

said_of_both : (os ps : List Object) → parts (os ++ ps) ≡ parts os ++ parts ps
said_of_both [] ps = refl
said_of_both (o ∷ os) ps = ap (λ (qs : List Fixed). o.fixed ∷ qs) (said_of_both os ps)

said_apart : (os now : Objects) → parts now.application ≡ parts os.application → parts now.scene ≡ parts os.scene → said now ≡ said os
said_apart os now own others =
    said_of_both now.application now.scene ∙ (λ i. own i ++ others i) ∙ sym (said_of_both os.application os.scene)

said_changed : (f : Fixed → Body → Body) (r : ObjRef) (os : Objects) → said (changed f r os) ≡ said os
said_changed f r os = by (list_any (is_at r) os.application)
  where
    by : (b : Bool) → said (if b then record os { application = changed_in f r os.application } else record os { scene = changed_in f r os.scene }) ≡ said os
    by true = said_apart os (record os { application = changed_in f r os.application }) (said_in f r os.application) refl
    by false = said_apart os (record os { scene = changed_in f r os.scene }) refl (said_in f r os.scene)

said_filled : (rs : List ObjRef) (vs : List Value) (os : Objects) → said (filled rs vs os) ≡ said os
said_filled [] vs os = refl
said_filled (r ∷ rs) [] os = refl
said_filled (r ∷ rs) (v ∷ vs) os = said_filled rs vs (changed (λ p b. stored v b) r os) ∙ said_changed (λ p b. stored v b) r os

said_placed : (ps : List (ObjRef × Position)) (os : Objects) → said (all_placed ps os) ≡ said os
said_placed [] os = refl
said_placed (p ∷ ps) os = said_placed ps (changed (placed_at p.1) p.0 os) ∙ said_changed (placed_at p.1) p.0 os

said_with : (is : ObjRef → Bool) (text : List ℕ) (os : List Object) → parts (with_text is text os) ≡ parts os
said_with is text [] = refl
said_with is text (o ∷ os) = by (is o.fixed.key) (said_with is text os)
  where
    by : (b : Bool) → parts (with_text is text os) ≡ parts os → (if b then record o { body = brought text o.body } else o).fixed ∷ parts (with_text is text os) ≡ o.fixed ∷ parts os
    by true below = ap (λ (ps : List Fixed). o.fixed ∷ ps) below
    by false below = ap (λ (ps : List Fixed). o.fixed ∷ ps) below

said_brought : (is : ObjRef → Bool) (text : List ℕ) (os : Objects) → said (text_brought is text os) ≡ said os
said_brought is text os = said_apart os (text_brought is text os) (said_with is text os.application) (said_with is text os.scene)

-- actions

said_loaded : (b : Bool) (v : Value) (r : ObjRef) (s : State) → said (if b then loaded_with v r s else s).objects ≡ said s.objects
said_loaded true v r s = said_changed _ r s.objects
said_loaded false v r s = refl

said_load : (vs : List Value) (r : ObjRef) (s : State) → said (load_rule vs r s).objects ≡ said s.objects
said_load [] r s = refl
said_load (v ∷ []) r s = said_loaded (is_loadable v) v r s
said_load (v ∷ w ∷ vs) r s = refl

said_widget : (n : ActionName) (vs : List Value) (r : ObjRef) (m : Option Object) (s : State) → said (widget_at n vs r m s).objects ≡ said s.objects
said_widget n vs r None s = refl
said_widget n vs r (Some o) s =
    let w = worked n vs r o.fixed o.body in
    said_placed w.placed (changed (λ p b. w.body) r s.objects) ∙ said_changed (λ p b. w.body) r s.objects

said_interact : (n : ActionName) (vs : List Value) (rs : List ObjRef) (r : ObjRef) (s : State) → said (interact_rule n vs rs r s).objects ≡ said s.objects
said_interact action.SetInteractionStatus vs rs r s = refl
said_interact action.GetInteractionStatus vs rs r s = said_filled rs (value.Bool (is_interacting r s.interaction) ∷ []) s.objects
said_interact _ vs rs r s = refl

said_moved : (begun late : Bool) (n : ActionName) (r : ObjRef) (s : State) → said (if begun then s else begins_or_waits late n r s).objects ≡ said s.objects
said_moved true late n r s = refl
said_moved false true n r s = refl
said_moved false false n r s = refl

said_whole : (n : ActionName) (vs : List Value) (r : ObjRef) (s : State) → said (whole_rule n vs r s).objects ≡ said s.objects
said_whole action.TransitionTo vs r s = said_moved (is_begun s.transition) (leads_to_late action.TransitionTo r s) action.TransitionTo r s
said_whole action.Launch vs r s = said_moved (is_begun s.transition) (leads_to_late action.Launch r s) action.Launch r s
said_whole action.Quit vs r s = said_moved (is_begun s.transition) (leads_to_late action.Quit r s) action.Quit r s
said_whole _ vs r s = refl

said_acted : (so : Sort) (n : ActionName) (xs : List Argument) (r : ObjRef) (s : State) → said (rule_by so n xs r s).objects ≡ said s.objects
said_acted sort.Change n xs r s = said_changed (changed_by n (values (all s.objects) xs)) r s.objects
said_acted sort.Ask n xs r s = said_filled (receivers xs) (answers_at n (values (all s.objects) xs) (object_at r (all s.objects))) s.objects
said_acted sort.Put n xs r s = refl
said_acted sort.Load n xs r s = said_load (values (all s.objects) xs) r s
said_acted sort.Call n xs r s =
    let taken = unwrap_or (params_in s.service.programs (part_at r (parts (all s.objects)))) [] in
    said_filled (receivers xs ++ outs taken (passed xs)) (said_by (outcome_at (part_at r (parts (all s.objects))) taken xs s)) s.objects
said_acted sort.Order n xs r s = refl
said_acted sort.Widget n xs r s = said_widget n (values (all s.objects) xs) r (object_at r (all s.objects)) s
said_acted sort.Interact n xs r s = said_interact n (values (all s.objects) xs) (receivers xs) r s
said_acted sort.Whole n xs r s = said_whole n (values (all s.objects) xs) r s

said_acted_on : (m : Option ObjRef) (n : ActionName) (xs : List Argument) (s : State) → said (act_on m n xs s).objects ≡ said s.objects
said_acted_on None n xs s = refl
said_acted_on (Some r) n xs s = said_acted (sort_of n) n xs r s

-- items, and what is taken

said_emitted : (b : Bool) (e : Event) (s : State) → said (if b then record s { work = heard e (all s.objects) ++ s.work } else record s { queue = s.queue ++ waiting.Event e ∷ [] }).objects ≡ said s.objects
said_emitted true e s = refl
said_emitted false e s = refl

said_run : (r : ObjRef) (s : State) → said (run_rule r s).objects ≡ said s.objects
said_run r s =
    let text = loaded_at s.files (object_at r (all s.objects)) in
    said_placed (run_places (object_at r (all s.objects))) (changed (λ p b. started text p b) r s.objects)
    ∙ said_changed (λ p b. started text p b) r s.objects

said_ruled : (i : Item) (s : State) → is_exchange (Some i) ≡ false → said (rule i s).objects ≡ said s.objects
said_ruled (item.Act a) s other = said_acted_on (referred a.target (all s.objects)) a.name a.arguments s
said_ruled (item.Prepare r) s other = said_changed (λ p b. prepared (loaded_at s.files (object_at r (all s.objects))) b) r s.objects
said_ruled (item.Run r) s other = said_run r s
said_ruled (item.Halt r) s other = said_changed (λ p b. halted b) r s.objects
said_ruled (item.RunMember r) s other = said_run r s
said_ruled (item.HaltMember r) s other = said_changed (λ p b. halted b) r s.objects
said_ruled (item.Drop r) s other = said_changed (λ p b. dropped b) r s.objects
said_ruled (item.Emit e) s other = said_emitted (is_sync e.kind) e s
said_ruled (item.Enter g) s other = refl
said_ruled (item.Exchange g) s other = absurd (false≢true (sym other))
said_ruled item.End s other = refl

said_did : (m : Option Fault) (i : Item) (s : State) → is_exchange (Some i) ≡ false → said (did m i s).objects ≡ said s.objects
said_did None i s other = said_ruled i (record s { work = drop 1 s.work; taken = s.taken + 1 }) other
said_did (Some f) i s other = refl

said_pressed : (k : Key) (i : Interaction) (m : Option Object) (s : State) → said (pressed_at k i m s).objects ≡ said s.objects
said_pressed k i None s = refl
said_pressed k i (Some o) s =
    let w = pressed_of o.fixed.class k i.before i.object o.fixed o.body in
    said_changed (λ p b. w.body) i.object s.objects

said_keyed : (k : Key) (m : Option Interaction) (s : State) → said (key_taken k m s).objects ≡ said s.objects
said_keyed k None s = refl
said_keyed k (Some i) s = said_pressed k i (object_at i.object (all s.objects)) s

said_arrived : (b : Bool) (g : List ℕ) (s : State) → said (if b then begins action.TransitionTo (group_ref g) (scene_arrived g s) else scene_arrived g s).objects ≡ said s.objects
said_arrived true g s = refl
said_arrived false g s = refl

said_taking : (w : Waiting) (s : State) → said (taking w s).objects ≡ said s.objects
said_taking (waiting.Event e) s = refl
said_taking (waiting.Input (input.Key k)) s = said_keyed k s.interaction s
said_taking (waiting.Input (input.Tick n)) s = refl
said_taking (waiting.Input (input.Stream n)) s = refl
said_taking (waiting.Input (input.Engine n)) s = refl
said_taking (waiting.Input (input.Arrive f)) s = said_brought (waits_for f.name s.waits) f.content s.objects
said_taking (waiting.Input (input.Scene g w)) s = said_arrived (awaits g s.transition) g s

said_stepped : (i : Option Item) (w : Option Waiting) (s : State) → is_exchange i ≡ false → said (step_by i w s).objects ≡ said s.objects
said_stepped (Some i) w s other = said_did (stuck i s) i s other
said_stepped None (Some w) s other = said_taking w (record s { queue = drop 1 s.queue; taken = s.taken + 1 })
said_stepped None None s other = refl

pub parts_stay : (s : State) → is_exchange (slice_get s.work 0) ≡ false → parts (all (step s).objects) ≡ parts (all s.objects)
parts_stay s other = by s.ended
  where
    by : (b : Bool) → said (if b then s else step_by (slice_get s.work 0) (slice_get s.queue 0) s).objects ≡ said s.objects
    by true = refl
    by false = said_stepped (slice_get s.work 0) (slice_get s.queue 0) s other
