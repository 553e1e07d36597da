-- The keys that the registers of scenes let through are of a closed set. An object keeps its register but by the action that
-- sets it, and that one may come; an object that has just come has the register that is written.
use Rattle.std.specs.List.{list_any}
use Rattle.std.specs.Option.{option_map, option_map_or, option_or}
use Rattle.std.specs.Prelude.{if◌then◌else◌, ◌++◌, ◌+◌, ◌∷◌, ◌≡◌, [], Bool, cond, drop, false, List, map, None, Option, pos, refl, slice_get, Some, true, unwrap_or, ℕ, ℤ}
use Rattle.std.proofs.Common.{◌∙◌, ap, inl, inr, subst, sym}
use Rattle.std.proofs.lemmas.List.Folds.{find-append}
use Rattle.std.proofs.lemmas.Slice.Eq.{bytes_eq-Decides}
use Rattle.mh_base.specs.declared.obj_ref.ObjRef.{ObjRef}
use Rattle.mh_base.specs.declared.value.Value.{Value}
use Rattle.mh_base.specs.declared.value.Value.TheVariants as value
use Rattle.mh_base.specs.Event.{is_sync}
use Rattle.mh_group.specs.declared.action_name.ActionName.{ActionName}
use Rattle.mh_group.specs.declared.action_name.ActionName.TheVariants as action
use Rattle.mh_group.specs.declared.attribute.Attribute.TheVariants as attribute
use Rattle.mh_group.specs.declared.written.Position.{Position}
use Rattle.mh_group.specs.Table.{is_application, is_scene, is_visible}
use Rattle.mh_model.specs.declared.act.Act.{Act}
use Rattle.mh_model.specs.declared.config.Config.{Config}
use Rattle.mh_model.specs.declared.fault.Fault.{Fault}
use Rattle.mh_model.specs.declared.file.File.{File}
use Rattle.mh_model.specs.declared.held.Held.{Held}
use Rattle.mh_model.specs.declared.held.Held.TheVariants as of
use Rattle.mh_model.specs.declared.input.Input.{Input}
use Rattle.mh_model.specs.declared.input.Input.TheVariants as input
use Rattle.mh_model.specs.declared.input.Obstacle.{Obstacle}
use Rattle.mh_model.specs.declared.input.Waiting.{Waiting}
use Rattle.mh_model.specs.declared.input.Waiting.TheVariants as waiting
use Rattle.mh_model.specs.declared.interaction.Interaction.{Interaction}
use Rattle.mh_model.specs.declared.item.Item.{Item}
use Rattle.mh_model.specs.declared.item.Item.TheVariants as item
use Rattle.mh_model.specs.declared.key.Key.{Key}
use Rattle.mh_model.specs.declared.object.Body.{Body}
use Rattle.mh_model.specs.declared.object.Fixed.{Fixed}
use Rattle.mh_model.specs.declared.object.Object.{Object}
use Rattle.mh_model.specs.declared.program.Outcome.{Outcome}
use Rattle.mh_model.specs.declared.program.Param.{Param}
use Rattle.mh_model.specs.declared.sort.Sort.{Sort}
use Rattle.mh_model.specs.declared.sort.Sort.TheVariants as sort
use Rattle.mh_model.specs.Arguments.{receivers, referred, values}
use Rattle.mh_model.specs.Bodies.{brought, changed_by, dropped, fits_value, given, halted, prepared, replaced, started, stored}
use Rattle.mh_model.specs.Configuration.{is_group_of, is_service, present, scene_parts, starting}
use Rattle.mh_model.specs.EntryFields.{Pressed, pressed_of}
use Rattle.mh_model.specs.Faults.{passed}
use Rattle.mh_model.specs.Files.{comes_to, is_loadable, waits_for}
use Rattle.mh_model.specs.Items.{heard}
use Rattle.mh_model.specs.Key.{passes}
use Rattle.mh_model.specs.Known.{params_in}
use Rattle.mh_model.specs.Lifecycle.{loaded_at, run_places}
use Rattle.mh_model.specs.Programs.{outs, said_by}
use Rattle.mh_model.specs.Property.{as_int, held}
use Rattle.mh_model.specs.Receiver.{told}
use Rattle.mh_model.specs.Reference.{group_ref, same_ref}
use Rattle.mh_model.specs.Rules.{act_on, all_placed, application_exchanged, begins, begins_or_waits, changed, changed_in, filled, interact_rule, is_at, is_begun, leads_to_late, load_rule, loaded_with, on_body, outcome_at, placed_at, rule, rule_by, scene_exchanged, transition_rule, whole_rule, widget_at, with_text}
use Rattle.mh_model.specs.Service.{fresh, group_parts, is_in, object_at, part_at, parts, Service}
use Rattle.mh_model.specs.Sort.{sort_of}
use Rattle.mh_model.specs.State.{all, Objects, State}
use Rattle.mh_model.specs.Step.{awaits, did, key_event, key_taken, obstacle, posted, posted_by, pressed_at, register_of, scene_arrived, step, step_by, taking}
use Rattle.mh_model.specs.Widget.{Worked}
use Rattle.mh_model.specs.Worked.{worked}
use Rattle.mh_model.proofs.ListLemmas.{found, some_same}
use Rattle.mh_model.proofs.PartLemmas.{part_at-parts}
use Rattle.mh_model.proofs.ServiceLemmas.{group_parts_in, same_ref-same}
use Rattle.mh_laws.specs.Acceptable.{IsAcceptableBy}
use Rattle.mh_laws.specs.Costs.{data_sent}
use Rattle.mh_laws.specs.Each.{Among, Each}
use Rattle.mh_laws.specs.Flow.{Flow, reached}
use Rattle.mh_laws.specs.Headline.{begun_with}
use Rattle.mh_laws.specs.Safe.{config_of, is_scene_if_any, IsFine, IsSafeBy, IsSafeItem}
use Rattle.mh_laws.specs.Ways.{IsKnown}
use Rattle.mh_laws.specs.Weighing.{hears_key}
use Rattle.mh_laws.proofs.ActLemmas.{IsSound}
use Rattle.mh_laws.proofs.EachLemmas.{among_left, among_right, each_found, each_joined}
use Rattle.mh_laws.proofs.HeldLemmas.{found_key, none_found}
use Rattle.mh_laws.proofs.ReadyLemmas.{first_item, free_first, sound_now, target_among}
use Rattle.mh_laws.proofs.ShareLemmas.{known_sent}
use Rattle.mh_laws.proofs.StateLemmas.{group_there, parts_present}
use Rattle.mh_never.proofs.BodyLemmas.{changed_register, changes_stay, if_stays, pressed_keeps, put_if, put_stays, register_or, set_by_name, set_to, Stays, worked_keeps}
use Rattle.mh_never.specs.Never.{IsSo}
use Rattle.mh_never.specs.Running.{Doings}
use Rattle.mh_never.specs.Saying.{AreHeardIn, IsHeardIn, IsSaidClosed, Sayings}

-- OBJECTS

abbrev KeepsHeard : Sayings → (Fixed → Body → Body) → Object → Type 0
KeepsHeard u f o = IsHeardIn u o → IsHeardIn u (on_body f o)

stays_heard : (u : Sayings) (f : Fixed → Body → Body) (o : Object) → Stays o.body (f o.fixed o.body) → KeepsHeard u f o
stays_heard u f o same h is x lets = h is x (subst (λ (m : Option Held). passes (as_int (pos 4) (option_or m (held attribute.InputEventReg o.fixed.properties))) x ≡ true) same lets)

first_heard : (u : Sayings) (f : Fixed → Body → Body) (r : ObjRef) (os : List Object) → ((o : Object) → object_at r os ≡ Some o → KeepsHeard u f o) → Each (IsHeardIn u) os → Each (IsHeardIn u) (changed_in f r os)
first_heard u f r [] keeps h = tt
first_heard u f r (o ∷ os) keeps h = by (is_at r o) keeps (λ below. first_heard u f r os below h.1)
  where
    by : (b : Bool) → ((x : Object) → cond b (Some o) (object_at r os) ≡ Some x → KeepsHeard u f x) → (((x : Object) → object_at r os ≡ Some x → KeepsHeard u f x) → Each (IsHeardIn u) (changed_in f r os)) → Each (IsHeardIn u) (if b then on_body f o ∷ os else o ∷ changed_in f r os)
    by true keeps below = (keeps o refl h.0, h.1)
    by false keeps below = (h.0, below keeps)

changed_heard : (u : Sayings) (f : Fixed → Body → Body) (r : ObjRef) (os : Objects) → ((o : Object) → object_at r (all os) ≡ Some o → KeepsHeard u f o) → AreHeardIn u os → AreHeardIn u (changed f r os)
changed_heard u f r os keeps h = by (list_any (is_at r) os.application) refl
  where
    joined : object_at r (all os) ≡ option_or (object_at r os.application) (object_at r os.scene)
    joined = find-append (λ (o : Object). same_ref r o.fixed.key) os.application os.scene

    or_scene : Option Object → Option Object
    or_scene m = option_or m (object_at r os.scene)

    by : (b : Bool) → list_any (is_at r) os.application ≡ b → AreHeardIn u (if b then record os { application = changed_in f r os.application } else record os { scene = changed_in f r os.scene })
    by true e = (first_heard u f r os.application (λ o found. keeps o (joined ∙ ap or_scene found)) h.0, h.1)
    by false e = (h.0, first_heard u f r os.scene (λ o found. keeps o (joined ∙ ap or_scene (none_found r os.application e) ∙ found)) h.1)

left_heard : (u : Sayings) (f : Fixed → Body → Body) (r : ObjRef) (os : Objects) → ((p : Fixed) (b : Body) → Stays b (f p b)) → AreHeardIn u os → AreHeardIn u (changed f r os)
left_heard u f r os same h = changed_heard u f r os (λ o found. stays_heard u f o (same o.fixed o.body)) h

-- the body of the object that was found is another one
given_heard : (u : Sayings) (d : Body) (r : ObjRef) (o : Object) (os : Objects) → object_at r (all os) ≡ Some o → Stays o.body d → AreHeardIn u os → AreHeardIn u (changed (λ p b. d) r os)
given_heard u d r o os at same h =
    changed_heard u (λ p b. d) r os (λ x found. subst (KeepsHeard u (λ p b. d)) (some_same (sym at ∙ found)) (stays_heard u (λ p b. d) o same)) h

filled_heard : (u : Sayings) (rs : List ObjRef) (vs : List Value) (os : Objects) → AreHeardIn u os → AreHeardIn u (filled rs vs os)
filled_heard u [] vs os h = h
filled_heard u (r ∷ rs) [] os h = h
filled_heard u (r ∷ rs) (v ∷ vs) os h = filled_heard u rs vs (changed (λ p b. stored v b) r os) (left_heard u (λ p b. stored v b) r os (λ p b. if_stays (fits_value v) (given v b) b b refl refl) h)

placed_heard : (u : Sayings) (ps : List (ObjRef × Position)) (os : Objects) → AreHeardIn u os → AreHeardIn u (all_placed ps os)
placed_heard u [] os h = h
placed_heard u (p ∷ ps) os h =
    placed_heard u ps (changed (placed_at p.1) p.0 os) (left_heard u (placed_at p.1) p.0 os (λ x b. put_if (is_visible x.class) attribute.OrigPosition refl (of.Pair (p.1).x (p.1).y) b) h)

text_heard : (u : Sayings) (is : ObjRef → Bool) (text : List ℕ) (os : List Object) → Each (IsHeardIn u) os → Each (IsHeardIn u) (with_text is text os)
text_heard u is text [] h = tt
text_heard u is text (o ∷ os) h = (by (is o.fixed.key), text_heard u is text os h.1)
  where
    by : (t : Bool) → IsHeardIn u (if t then record o { body = brought text o.body } else o)
    by true = h.0
    by false = h.0

-- an object that has just come has the register that is written
fresh_heard : {fw : Flow} (u : Sayings) (comes : Doings) (v : Service) (c : Config) → IsSaidClosed v fw comes u → reached fw c ≡ true → (ps : List Fixed) → ((p : Fixed) → Among ps p → Among (present v c) p) → Each (IsHeardIn u) (map fresh ps)
fresh_heard u comes v c closed among [] into = tt
fresh_heard u comes v c closed among (p ∷ ps) into = (closed.keys c among p (into p (inl refl)), fresh_heard u comes v c closed among ps (λ x there. into x (inr there)))

-- RULES. Here `rest` is the work behind the item, and `n` the number of steps.

transition_leaves : (n : ActionName) (r : ObjRef) (s : State) → (transition_rule n r s).objects ≡ s.objects
transition_leaves n r s = by (is_begun s.transition) (leads_to_late n r s)
  where
    by : (begun late : Bool) → (if begun then s else begins_or_waits late n r s).objects ≡ s.objects
    by true late = refl
    by false true = refl
    by false false = refl

whole_leaves : (n : ActionName) (vs : List Value) (r : ObjRef) (s : State) → (whole_rule n vs r s).objects ≡ s.objects
whole_leaves action.TransitionTo vs r s = transition_leaves action.TransitionTo r s
whole_leaves action.Launch vs r s = transition_leaves action.Launch r s
whole_leaves action.Quit vs r s = transition_leaves action.Quit r s
whole_leaves _ vs r s = refl

load_hears : (u : Sayings) (s : State) (vs : List Value) (r : ObjRef) → AreHeardIn u s.objects → AreHeardIn u (load_rule vs r s).objects
load_hears u s [] r h = h
load_hears u s (v ∷ x ∷ vs) r h = h
load_hears u s (v ∷ []) r h = by (is_loadable v)
  where
    by : (t : Bool) → AreHeardIn u (if t then loaded_with v r s else s).objects
    by true = left_heard u (λ p b. replaced v (comes_to s.files v) b) r s.objects (λ p b. put_stays attribute.OrigContent refl (of.Value v) b) h
    by false = h

interact_hears : (u : Sayings) (s : State) (n : ActionName) (vs : List Value) (rs : List ObjRef) (r : ObjRef) → AreHeardIn u s.objects → AreHeardIn u (interact_rule n vs rs r s).objects
interact_hears u s action.GetInteractionStatus vs rs r h = filled_heard u rs _ s.objects h
interact_hears u s _ vs rs r h = h

-- an action that sets a register may come, and is done to what it may be done to
set_heard : {fw : Flow} (u : Sayings) (comes : Doings) (s : State) (k : IsSafeBy fw s) → IsSaidClosed s.service fw comes u → (a : Act) (r : ObjRef) → IsSound fw s k a r → comes (config_of s) a ≡ true → (o : Object) → object_at r (all s.objects) ≡ Some o → KeepsHeard u (changed_by a.name (values (all s.objects) a.arguments)) o
set_heard {fw} u comes s k closed a r so come o at = by (set_to a.name vs) refl
  where
    vs : List Value
    vs = values (all s.objects) a.arguments

    by : (m : Option ℤ) → set_to a.name vs ≡ m → KeepsHeard u (changed_by a.name vs) o
    by None e = stays_heard u (changed_by a.name vs) o (changed_register a.name vs o.fixed o.body ∙ ap (λ (m : Option ℤ). register_or m o.body) e)
    by (Some n) e = λ h is x lets.
        let set = set_by_name a.name vs n e in
        let known : IsKnown (data_sent a.arguments) (Some (value.Int n)) = subst (λ (ws : List Value). IsKnown (data_sent a.arguments) (slice_get ws 0)) set.1 (known_sent (all s.objects) a.arguments) in
        let now = changed_register a.name vs o.fixed o.body ∙ ap (λ (m : Option ℤ). register_or m o.body) e in
        let passing : passes n x ≡ true = subst (λ (m : Option Held). passes (as_int (pos 4) (option_or m (held attribute.InputEventReg o.fixed.properties))) x ≡ true) now lets in
        subst (λ (q : ObjRef). u (key_event x q) ≡ true) (found_key r (all s.objects) o at)
        (closed.registers (config_of s) k.among a (so.fine).active come set.0 n known r (target_among fw (config_of s) (present s.service (config_of s)) a.target r so.may) x passing)

sort_hears : {fw : Flow} (u : Sayings) (comes : Doings) (s : State) (k : IsSafeBy fw s) → IsSaidClosed s.service fw comes u → (a : Act) (r : ObjRef) → IsSound fw s k a r → comes (config_of s) a ≡ true → AreHeardIn u s.objects → (rest : List Item) (n : ℕ) (o : Sort) → AreHeardIn u (rule_by o a.name a.arguments r (record s { work = rest; taken = n })).objects
sort_hears {fw} u comes s k closed a r so come h rest n sort.Change =
    changed_heard u (changed_by a.name (values (all s.objects) a.arguments)) r s.objects (set_heard u comes s k closed a r so come) h
sort_hears {fw} u comes s k closed a r so come h rest n sort.Ask = filled_heard u (receivers a.arguments) _ s.objects h
sort_hears {fw} u comes s k closed a r so come h rest n sort.Put = h
sort_hears {fw} u comes s k closed a r so come h rest n sort.Load = load_hears u (record s { work = rest; taken = n }) (values (all s.objects) a.arguments) r h
sort_hears {fw} u comes s k closed a r so come h rest n sort.Call =
    let p : Option Fixed = part_at r (parts (all s.objects)) in
    let ps : List Param = unwrap_or (params_in s.service.programs p) [] in
    filled_heard u (receivers a.arguments ++ outs ps (passed a.arguments)) (said_by (outcome_at p ps a.arguments (record s { work = rest; taken = n }))) s.objects h
sort_hears {fw} u comes s k closed a r so come h rest n sort.Order = h
sort_hears {fw} u comes s k closed a r so come h rest n sort.Widget = by (object_at r (all s.objects)) refl
  where
    vs : List Value
    vs = values (all s.objects) a.arguments

    by : (m : Option Object) → object_at r (all s.objects) ≡ m → AreHeardIn u (widget_at a.name vs r m (record s { work = rest; taken = n })).objects
    by None e = h
    by (Some o) e =
        let w : Worked = worked a.name vs r o.fixed o.body in
        placed_heard u w.placed (changed (λ p b. w.body) r s.objects) (given_heard u w.body r o s.objects e (changes_stay o.body w.body (worked_keeps a.name vs r o.fixed o.body).1) h)
sort_hears {fw} u comes s k closed a r so come h rest n sort.Interact = interact_hears u (record s { work = rest; taken = n }) a.name (values (all s.objects) a.arguments) (receivers a.arguments) r h
sort_hears {fw} u comes s k closed a r so come h rest n sort.Whole = subst (AreHeardIn u) (sym (whole_leaves a.name (values (all s.objects) a.arguments) r (record s { work = rest; taken = n }))) h

act_hears : {fw : Flow} (u : Sayings) (comes : Doings) (s : State) (k : IsSafeBy fw s) → IsSaidClosed s.service fw comes u → (a : Act) → IsFine s.service fw (config_of s) a → comes (config_of s) a ≡ true → AreHeardIn u s.objects → (rest : List Item) (n : ℕ) → AreHeardIn u (rule (item.Act a) (record s { work = rest; taken = n })).objects
act_hears {fw} u comes s k closed a fine come h rest n = by (referred a.target (all s.objects)) refl
  where
    by : (m : Option ObjRef) → referred a.target (all s.objects) ≡ m → AreHeardIn u (act_on m a.name a.arguments (record s { work = rest; taken = n })).objects
    by None e = h
    by (Some r) e = sort_hears u comes s k closed a r (sound_now s k a fine r e) come h rest n (sort_of a.name)

run_hears : (u : Sayings) (s : State) (r : ObjRef) → AreHeardIn u s.objects → AreHeardIn u (all_placed (run_places (object_at r (all s.objects))) (changed (started (loaded_at s.files (object_at r (all s.objects)))) r s.objects))
run_hears u s r h =
    let text : Option (List ℕ) = loaded_at s.files (object_at r (all s.objects)) in
    placed_heard u (run_places (object_at r (all s.objects))) (changed (started text) r s.objects)
    (left_heard u (started text) r s.objects (λ p b. if_stays b.running b _ b refl (if_stays b.available b _ b refl refl)) h)

-- all objects of the configuration behind an exchange are those that were there, or have just come
exchange_hears : {fw : Flow} (u : Sayings) (comes : Doings) (s : State) → IsSaidClosed s.service fw comes u → (g : List ℕ) → IsSafeItem s.service fw (config_of s) (item.Exchange g) → AreHeardIn u s.objects → (rest : List Item) (n : ℕ) → AreHeardIn u (rule (item.Exchange g) (record s { work = rest; taken = n })).objects
exchange_hears {fw} u comes s closed g safe h rest n = by (is_group_of is_application s.service g) safe.1.0
  where
    to_application : Config
    to_application = record { app = g; scene = None }

    to_scene : Config
    to_scene = record { app = s.application; scene = Some g }

    by : (t : Bool) → reached fw (if t then to_application else to_scene) ≡ true → AreHeardIn u (if t then application_exchanged g (record s { work = rest; taken = n }) else scene_exchanged g (record s { work = rest; taken = n })).objects
    by true open_to = (fresh_heard u comes s.service to_application closed open_to (group_parts s.service g) (among_left (group_parts s.service g) []), tt)
    by false open_to = (h.0, fresh_heard u comes s.service to_scene closed open_to (group_parts s.service g) (among_right (group_parts s.service s.application) (group_parts s.service g)))

rule_hears : {fw : Flow} (u : Sayings) (comes : Doings) (s : State) (k : IsSafeBy fw s) → IsSaidClosed s.service fw comes u → (i : Item) → IsSafeItem s.service fw (config_of s) i → IsSo comes (config_of s) i → AreHeardIn u s.objects → (rest : List Item) (n : ℕ) → AreHeardIn u (rule i (record s { work = rest; taken = n })).objects
rule_hears {fw} u comes s k closed (item.Act a) safe so h rest n = act_hears u comes s k closed a safe so h rest n
rule_hears {fw} u comes s k closed (item.Prepare r) safe so h rest n = left_heard u (λ p b. prepared (loaded_at s.files (object_at r (all s.objects))) b) r s.objects (λ p b. if_stays b.available b _ b refl refl) h
rule_hears {fw} u comes s k closed (item.Run r) safe so h rest n = run_hears u s r h
rule_hears {fw} u comes s k closed (item.RunMember r) safe so h rest n = run_hears u s r h
rule_hears {fw} u comes s k closed (item.Halt r) safe so h rest n = left_heard u (λ p b. halted b) r s.objects (λ p b. refl) h
rule_hears {fw} u comes s k closed (item.HaltMember r) safe so h rest n = left_heard u (λ p b. halted b) r s.objects (λ p b. refl) h
rule_hears {fw} u comes s k closed (item.Drop r) safe so h rest n = left_heard u (λ p b. dropped b) r s.objects (λ p b. if_stays b.available _ b b refl refl) h
rule_hears {fw} u comes s k closed (item.Emit e) safe so h rest n = by (is_sync e.kind)
  where
    by : (t : Bool) → AreHeardIn u (if t then record s { work = heard e (all s.objects) ++ rest; taken = n } else record s { queue = s.queue ++ waiting.Event e ∷ []; work = rest; taken = n }).objects
    by true = h
    by false = h
rule_hears {fw} u comes s k closed (item.Enter g) safe so h rest n = h
rule_hears {fw} u comes s k closed (item.Exchange g) safe so h rest n = exchange_hears u comes s closed g safe h rest n
rule_hears {fw} u comes s k closed item.End safe so h rest n = h

-- Taking

taking_hears : (u : Sayings) (s : State) (x : Waiting) → AreHeardIn u s.objects → AreHeardIn u (taking x s).objects
taking_hears u s (waiting.Event e) h = h
taking_hears u s (waiting.Input (input.Key x)) h = by s.interaction
  where
    by : (i : Option Interaction) → AreHeardIn u (key_taken x i s).objects
    by None = h
    by (Some i) = by_object (object_at i.object (all s.objects)) refl
      where
        by_object : (m : Option Object) → object_at i.object (all s.objects) ≡ m → AreHeardIn u (pressed_at x i m s).objects
        by_object None e = h
        by_object (Some o) e = let w : Pressed = pressed_of o.fixed.class x i.before i.object o.fixed o.body in given_heard u w.body i.object o s.objects e (changes_stay o.body w.body (pressed_keeps o.fixed.class x i.before i.object o.fixed o.body).1) h
taking_hears u s (waiting.Input (input.Tick n)) h = h
taking_hears u s (waiting.Input (input.Stream n)) h = h
taking_hears u s (waiting.Input (input.Engine n)) h = h
taking_hears u s (waiting.Input (input.Arrive f)) h = (text_heard u (waits_for f.name s.waits) f.content s.objects.application h.0, text_heard u (waits_for f.name s.waits) f.content s.objects.scene h.1)
taking_hears u s (waiting.Input (input.Scene g w)) h = by (awaits g s.transition)
  where
    by : (t : Bool) → AreHeardIn u (if t then begins action.TransitionTo (group_ref g) (scene_arrived g s) else scene_arrived g s).objects
    by true = h
    by false = h

-- STEPS

pub step_hears : {fw : Flow} (u : Sayings) (comes : Doings) (s : State) (k : IsSafeBy fw s) → IsSaidClosed s.service fw comes u → ((i : Item) → slice_get s.work 0 ≡ Some i → IsSo comes (config_of s) i) → AreHeardIn u s.objects → AreHeardIn u (step s).objects
step_hears {fw} u comes s k closed so h = unless_ended s.ended
  where
    by : (m : Option Item) (x : Option Waiting) → slice_get s.work 0 ≡ m → AreHeardIn u (step_by m x s).objects
    by None None e = h
    by None (Some x) e = taking_hears u (record s { queue = drop 1 s.queue; taken = s.taken + 1 }) x h
    by (Some i) x e = subst (λ (m : Option Fault). AreHeardIn u (did m i s).objects) (sym (free_first s k i e)) (rule_hears u comes s k closed i (first_item s k i e) (so i e) h (drop 1 s.work) (s.taken + 1))

    unless_ended : (t : Bool) → AreHeardIn u (if t then s else step_by (slice_get s.work 0) (slice_get s.queue 0) s).objects
    unless_ended true = h
    unless_ended false = by (slice_get s.work 0) (slice_get s.queue 0) refl

pub posted_hears : (u : Sayings) (s : State) (i : Input) → AreHeardIn u s.objects → AreHeardIn u (posted i s).objects
posted_hears u s i h = by (obstacle i s)
  where
    by : (m : Option Obstacle) → AreHeardIn u (posted_by m i s).objects
    by None = h
    by (Some o) = h

pub told_hears : (u : Sayings) (s : State) (o : Outcome) → AreHeardIn u s.objects → AreHeardIn u (told o s).objects
told_hears u s o h = h

pub begun_hears : {fw : Flow} (u : Sayings) (comes : Doings) (v : Service) (k : IsAcceptableBy v fw) → IsSaidClosed v fw comes u → (mjd : ℕ) (fs : List File) → AreHeardIn u (begun_with v mjd fs).objects
begun_hears {fw} u comes v k closed mjd fs = (fresh_heard u comes v (starting v) closed k.solution.start (group_parts v v.start) (among_left (group_parts v v.start) []), tt)

-- THE SCENE

-- what stands for a scene is one: it is of the scene's own parts, or the application has the scene's name
scene_found : (v : Service) (app g : List ℕ) (p : Fixed) → is_service v ≡ true → is_group_of is_scene v g ≡ true → part_at (group_ref g) (group_parts v app ++ group_parts v g) ≡ Some p → is_scene p.class ≡ true
scene_found v app g p good is at = by (part_at (group_ref g) (group_parts v app)) refl (sym (find-append (λ (x : Fixed). same_ref (group_ref g) x.key) (group_parts v app) (group_parts v g)) ∙ at)
  where
    itself : (q : Fixed) → part_at (group_ref g) (group_parts v g) ≡ Some q → is_scene q.class ≡ true
    itself q there = sym (ap (λ (m : Option Fixed). option_map_or (λ (x : Fixed). is_scene x.class) m false) there) ∙ is

    by : (m : Option Fixed) → part_at (group_ref g) (group_parts v app) ≡ m → option_or m (part_at (group_ref g) (group_parts v g)) ≡ Some p → is_scene p.class ≡ true
    by None e there = itself p there
    by (Some q) e there =
        let hit = found (λ (x : Fixed). same_ref (group_ref g) x.key) (is_in app) (group_parts v app) q (group_parts_in v app good) e in
        let named : q.key.group ≡ app = (bytes_eq-Decides q.key.group app).0 hit.1 in
        let same : app ≡ g = sym named ∙ sym (ap (λ (r : ObjRef). r.group) (same_ref-same (group_ref g) q.key hit.0)) in
        itself p (sym (ap (λ (n : List ℕ). part_at (group_ref g) (group_parts v n)) same) ∙ e ∙ there)

pub scene_heard : (u : Sayings) (s : State) → AreHeardIn u s.objects → {fw : Flow} (k : IsSafeBy fw s) → (x : Key) (g : List ℕ) → s.scene ≡ Some g → hears_key s g x ≡ true → u (key_event x (group_ref g)) ≡ true
scene_heard u s h {fw} k x g here hears = by (object_at (group_ref g) (all s.objects)) refl hears
  where
    now : part_at (group_ref g) (present s.service (config_of s)) ≡ option_map (λ (o : Object). o.fixed) (object_at (group_ref g) (all s.objects))
    now = ap (part_at (group_ref g)) (sym (parts_present s k)) ∙ part_at-parts (group_ref g) (all s.objects)

    class_of : (o : Object) → object_at (group_ref g) (all s.objects) ≡ Some o → is_scene o.fixed.class ≡ true
    class_of o at =
        scene_found s.service s.application g o.fixed k.accepted.service (subst (λ (m : Option (List ℕ)). is_scene_if_any s.service m ≡ true) here k.scene)
        (ap (λ (m : Option (List ℕ)). part_at (group_ref g) (group_parts s.service s.application ++ scene_parts s.service m)) (sym here) ∙ now ∙ ap (option_map (λ (y : Object). y.fixed)) at)

    by : (m : Option Object) → object_at (group_ref g) (all s.objects) ≡ m → passes (register_of m) x ≡ true → u (key_event x (group_ref g)) ≡ true
    by None at lets =
        let none : part_at (group_ref g) (present s.service (config_of s)) ≡ None = now ∙ ap (option_map (λ (y : Object). y.fixed)) at in
        let never : false ≡ true = sym (ap (λ (m : Option Fixed). option_map_or (λ (p : Fixed). true) m false) none) ∙ group_there s k g (inr here) in
        absurd cc
    by (Some o) at lets =
        subst (λ (q : ObjRef). u (key_event x q) ≡ true) (sym (found_key (group_ref g) (all s.objects) o at))
        (each_found (IsHeardIn u) (λ (y : Object). same_ref (group_ref g) y.fixed.key) (all s.objects) o (each_joined (IsHeardIn u) s.objects.application s.objects.scene h.0 h.1) at (class_of o at) x lets)
