-- Nothing runs but what is of a closed set.
use Rattle.std.specs.Prelude.{◌≡◌, ◌⊎◌, ℕ, ◌+◌, ◌==◌, ◌||◌, ◌&&◌, not, nat_lt, nat_le, Bool, true, false, if◌then◌else◌, cond, List, [], ◌∷◌, ◌++◌, map, filter, length, drop, reverse, slice_get, Option, Some, None, ℤ, pos, negsuc, int_lt, int_div, int_rem, ◌+ℤ◌, ◌-ℤ◌, ◌*ℤ◌, refl}
use Rattle.std.specs.List.{list_any}
use Rattle.std.specs.Option.{is_some, option_map, option_map_or, option_or}
use Rattle.std.specs.Ordering.{int_eq}
use Rattle.std.proofs.Common.{inl, inr, ap, ◌∙◌, sym, subst}
use Rattle.std.proofs.lemmas.List.Folds.{find-append}
use Rattle.mh_base.specs.declared.event.EventType.{EventType}
use Rattle.mh_base.specs.declared.event.EventType.TheVariants as event
use Rattle.mh_base.specs.declared.obj_ref.ObjRef.{ObjRef}
use Rattle.mh_base.specs.declared.value.Value.{Value}
use Rattle.mh_base.specs.declared.value.Value.TheVariants as value
use Rattle.mh_base.specs.Event.{is_sync}
use Rattle.mh_group.specs.declared.action_name.ActionName.{ActionName}
use Rattle.mh_group.specs.declared.action_name.ActionName.TheVariants as action
use Rattle.mh_group.specs.declared.attribute.Attribute.{Attribute}
use Rattle.mh_group.specs.declared.attribute.Attribute.TheVariants as attribute
use Rattle.mh_group.specs.declared.class.Class.{Class}
use Rattle.mh_group.specs.declared.class.Class.TheVariants as class
use Rattle.mh_group.specs.declared.written.Position.{Position}
use Rattle.mh_group.specs.Table.{admits, is_application, is_list_group, is_runnable, is_token_group, is_visible}
use Rattle.mh_model.specs.declared.act.Act.{Act}
use Rattle.mh_model.specs.declared.config.Config.{Config}
use Rattle.mh_model.specs.declared.event.Event.{Event}
use Rattle.mh_model.specs.declared.fault.Fault.{Fault}
use Rattle.mh_model.specs.declared.file.File.{File}
use Rattle.mh_model.specs.declared.input.Input.{Input}
use Rattle.mh_model.specs.declared.input.Input.TheVariants as input
use Rattle.mh_model.specs.declared.input.Obstacle.{Obstacle}
use Rattle.mh_model.specs.declared.input.Waiting.{Waiting}
use Rattle.mh_model.specs.declared.input.Waiting.TheVariants as waiting
use Rattle.mh_model.specs.declared.interaction.Interaction.{Interaction}
use Rattle.mh_model.specs.declared.item.Item.{Item}
use Rattle.mh_model.specs.declared.item.Item.TheVariants as item
use Rattle.mh_model.specs.declared.key.Key.{Key}
use Rattle.mh_model.specs.declared.key.Key.TheVariants as key
use Rattle.mh_model.specs.declared.object.member.Member.{Member}
use Rattle.mh_model.specs.declared.object.Body.{Body}
use Rattle.mh_model.specs.declared.object.Fixed.{Fixed}
use Rattle.mh_model.specs.declared.object.Object.{Object}
use Rattle.mh_model.specs.declared.program.Outcome.{Outcome}
use Rattle.mh_model.specs.declared.sort.Sort.{Sort}
use Rattle.mh_model.specs.declared.sort.Sort.TheVariants as sort
use Rattle.mh_model.specs.Arguments.{receivers, referred, values}
use Rattle.mh_model.specs.Variables.{converted, fits_int}
use Rattle.mh_model.specs.Bodies.{brought, changed_by, coloured, divided, dropped, fits_value, given, given_number, halted, number_of, pointed, prepared, replaced, started, stored, text_of}
use Rattle.mh_model.specs.Configuration.{is_group_of, present, scene_parts}
use Rattle.mh_model.specs.EntryFields.{Pressed, button_pressed, field_pressed, most_typed, not_pressed, overtyped, pressed_by, pressed_of, put_in, typed}
use Rattle.mh_model.specs.Files.{comes_to, is_loadable, waits_for}
use Rattle.mh_model.specs.Key.{passes}
use Rattle.mh_model.specs.Groups.{effect_of, entering, group_effect, halts, is_initially_active, is_shared, leaving, quitting, runs, scene_closing, scene_halts}
use Rattle.mh_model.specs.Items.{acts, heard, matches, plain_event}
use Rattle.mh_model.specs.Lifecycle.{drop_items, emit_if, group_halts, group_runs, halt_items, is_available_at, is_unavailable_at, is_unprepared_at, loaded_at, loads_if, members_halted, members_run, prepare_items, rise_items, run_items, run_places, running_items, started_items, stopping_items, token_told}
use Rattle.mh_group.specs.Same.{are_same}
use Rattle.mh_model.specs.Lists.{Shown, count_told, halted_members, is_shown, list_events, list_items, nothing_shown, relisted, run_members, shows, truth_told}
use Rattle.std.specs.Prelude.{unwrap_or}
use Rattle.mh_model.specs.declared.act.Argument.{Argument}
use Rattle.mh_model.specs.declared.program.Param.{Param}
use Rattle.mh_model.specs.Faults.{passed}
use Rattle.mh_model.specs.Known.{params_in}
use Rattle.mh_model.specs.Service.{parts}
use Rattle.mh_model.specs.Rules.{begins, begins_or_waits, is_begun, leads_to_late, outcome_at, transition_rule}
use Rattle.mh_model.specs.Programs.{counted, outs, said_by}
use Rattle.mh_model.specs.Property.{as_effect, held}
use Rattle.mh_model.specs.Reference.{group_ref, same_ref}
use Rattle.mh_model.specs.Rules.{act_on, all_placed, application_exchanged, called, changed, changed_in, filled, interact_rule, is_at, load_rule, loaded_with, on_body, placed_at, rule, rule_by, scene_exchanged, way_out, whole_rule, widget_at, with_text}
use Rattle.mh_model.specs.Saying.{call_items, interaction_items, load_items, put_items, put_items_at}
use Rattle.mh_model.specs.Service.{Service, fresh, group_parts, object_at, part_at, with_parts}
use Rattle.mh_model.specs.Sort.{sort_of}
use Rattle.mh_model.specs.State.{Objects, State, all}
use Rattle.mh_model.specs.Step.{awaits, scene_arrived, engine_event, key_event, register_of, did, key_items, key_taken, obstacle, posted, posted_by, pressed_at, step, step_by, taking}
use Rattle.mh_model.specs.Tokens.{members}
use Rattle.mh_model.specs.Widget.{Worked, event_with, no_work}
use Rattle.mh_model.specs.Worked.{is_interacting, worked}
use Rattle.mh_laws.specs.Describing.{IsListed, IsOf, IsOneOf, AreOf, Piece, can_put, is_list_piece}
use Rattle.mh_laws.specs.Describing as piece
use Rattle.mh_laws.specs.Each.{Among, Each}
use Rattle.mh_laws.specs.Flow.{Flow, has, is_list_in, reached, refers}
use Rattle.mh_model.specs.declared.input.Move.{Move}
use Rattle.mh_model.specs.declared.input.Move.TheVariants as move
use Rattle.mh_model.specs.declared.program.Call.{Call}
use Rattle.mh_model.specs.declared.program.Signature.{Signature}
use Rattle.mh_model.specs.Limits.{most_steps}
use Rattle.mh_model.specs.Receiver.{IsCountedStep, IsMoved, IsRun, IsStepWith, anything, call_next}
use Rattle.mh_laws.specs.Headline.{begun_with}
use Rattle.mh_laws.proofs.BudgetLemmas.{posted_serves, step_serves}
use Rattle.mh_laws.proofs.StepLemmas.{safe_by_begun_with, safe_by_posted, safe_by_step, safe_by_told}
use Rattle.mh_never.proofs.BodyLemmas.{pressed_keeps, worked_keeps}
use Rattle.mh_never.specs.Never.{IsSo}
use Rattle.mh_never.specs.Running.{Doings, NeverRuns, AreOnlyIn, IsOnlyIn, IsRunClosed, IsRunIn, Runners, RunsOnly, any_act, is_run_piece}
use Rattle.mh_laws.specs.Safe.{IsFine, IsPartOf, IsSafeBy, IsSafeItem, config_of}
use Rattle.mh_model.proofs.ListLemmas.{some_same}
use Rattle.mh_model.specs.Receiver.{told}
use Rattle.mh_model.proofs.PartLemmas.{part_at-parts}
use Rattle.mh_laws.specs.Describing.{IsSaid, says}
use Rattle.mh_laws.proofs.ActLemmas.{IsSound, held_at, sets_of}
use Rattle.mh_laws.proofs.DescribingLemmas.{plain_puts, widget_puts}
use Rattle.mh_laws.proofs.HandLemmas.{given_held}
use Rattle.mh_laws.proofs.HeldLemmas.{class_found}
use Rattle.mh_laws.proofs.ListedLemmas.{own_among, shown_among}
use Rattle.mh_laws.proofs.MemberLemmas.{listing_class, plain_listing}
use Rattle.mh_laws.proofs.NodeLemmas.{part_among}
use Rattle.mh_laws.proofs.ReadyLemmas.{first_item, found_object, free_first, sound_now, target_among}
use Rattle.mh_laws.proofs.StateLemmas.{parts_present}
use Rattle.mh_laws.proofs.WidgetLemmas.{IsTight, no_put_list, none_listed, tight_or_none}
use Rattle.mh_laws.proofs.EachLemmas.{among_left, among_right, each_joined}
use Rattle.mh_laws.proofs.HeldLemmas.{found_key, none_found}

-- BODIES. What is made of them leaves alone whether they run.

abbrev Stays : Body → Body → Type 0
Stays b d = d.running ≡ b.running

if_stays : (t : Bool) (x y b : Body) → Stays b x → Stays b y → Stays b (if t then x else y)
if_stays true x y b h k = h
if_stays false x y b h k = k

coloured_stays : (a : Attribute) (os : List ℕ) (b : Body) → Stays b (coloured a os b)
coloured_stays a (r ∷ g ∷ x ∷ t ∷ []) b = refl
coloured_stays a _ b = refl

pointed_stays : (n : ℤ) (b : Body) → Stays b (pointed n b)
pointed_stays (pos n) b = if_stays (nat_le n (length (text_of b))) (record b { point = n }) b b refl refl
pointed_stays (negsuc n) b = refl

number_stays : (x : ℤ) (b : Body) → Stays b (given_number x b)
number_stays x b = if_stays (fits_int x) (given (value.Int x) b) b b refl refl

divided_stays : (by : ℤ → ℤ → ℤ) (m n : ℤ) (b : Body) → Stays b (divided by m n b)
divided_stays by m n b = if_stays (int_eq n (pos 0)) b (given_number (by m n) b) b refl (number_stays (by m n) b)

changed_stays : (n : ActionName) (vs : List Value) (p : Fixed) (b : Body) → Stays b (changed_by n vs p b)
changed_stays action.SetVariable (v ∷ []) p b = if_stays (fits_value (converted p.class v)) _ b b refl refl
changed_stays action.Add (value.Int n ∷ []) p b = number_stays (number_of p b +ℤ n) b
changed_stays action.Subtract (value.Int n ∷ []) p b = number_stays (number_of p b -ℤ n) b
changed_stays action.Multiply (value.Int n ∷ []) p b = number_stays (number_of p b *ℤ n) b
changed_stays action.Divide (value.Int n ∷ []) p b = divided_stays int_div (number_of p b) n b
changed_stays action.Modulo (value.Int n ∷ []) p b = divided_stays int_rem (number_of p b) n b
changed_stays action.Append (value.Octets os ∷ []) p b = if_stays _ _ b b refl refl
changed_stays action.SetPosition (value.Int x ∷ value.Int y ∷ []) p b = refl
changed_stays action.SetBoxSize (value.Int w ∷ value.Int h ∷ []) p b = if_stays _ _ b b refl refl
changed_stays action.SetFillColour (value.Octets os ∷ []) p b = coloured_stays attribute.OrigRefFillColour os b
changed_stays action.SetLineColour (value.Octets os ∷ []) p b = coloured_stays attribute.OrigRefLineColour os b
changed_stays action.SetLineWidth (value.Int n ∷ []) p b = if_stays _ _ b b refl refl
changed_stays action.Clear vs p b = refl
changed_stays action.DrawLine (value.Int x ∷ value.Int y ∷ value.Int u ∷ value.Int v ∷ []) p b = if_stays _ _ b b refl refl
changed_stays action.DrawRectangle (value.Int x ∷ value.Int y ∷ value.Int u ∷ value.Int v ∷ []) p b = if_stays _ _ b b refl refl
changed_stays action.SetInputRegister (value.Int n ∷ []) p b = refl
changed_stays action.SetTextColour (value.Octets os ∷ []) p b = coloured_stays attribute.TextColour os b
changed_stays action.SetEntryPoint (value.Int n ∷ []) p b = pointed_stays n b
changed_stays action.SetOverwriteMode (value.Bool on ∷ []) p b = refl
changed_stays action.SetLabel (value.Octets os ∷ []) p b = if_stays _ _ b b refl refl
changed_stays _ _ p b = refl

-- OBJECTS

abbrev KeepsOnly : Runners → (Fixed → Body → Body) → Object → Type 0
KeepsOnly u f o = IsOnlyIn u o → IsOnlyIn u (on_body f o)

leaves_only : (u : Runners) (f : Fixed → Body → Body) (o : Object) → Stays o.body (f o.fixed o.body) → KeepsOnly u f o
leaves_only u f o same k h = k (sym same ∙ h)

only_first : (u : Runners) (f : Fixed → Body → Body) (r : ObjRef) (os : List Object) → ((o : Object) → object_at r os ≡ Some o → KeepsOnly u f o) → Each (IsOnlyIn u) os → Each (IsOnlyIn u) (changed_in f r os)
only_first u f r [] keeps k = tt
only_first u f r (o ∷ os) keeps k = by (is_at r o) keeps (λ below. only_first u f r os below k.1)
  where
    by : (b : Bool) → ((x : Object) → cond b (Some o) (object_at r os) ≡ Some x → KeepsOnly u f x) → (((x : Object) → object_at r os ≡ Some x → KeepsOnly u f x) → Each (IsOnlyIn u) (changed_in f r os)) → Each (IsOnlyIn u) (if b then on_body f o ∷ os else o ∷ changed_in f r os)
    by true keeps below = (keeps o refl k.0, k.1)
    by false keeps below = (k.0, below keeps)

only_changed : (u : Runners) (f : Fixed → Body → Body) (r : ObjRef) (os : Objects) → ((o : Object) → object_at r (all os) ≡ Some o → KeepsOnly u f o) → AreOnlyIn u os → AreOnlyIn u (changed f r os)
only_changed u f r os keeps k = by (list_any (is_at r) os.application) refl
  where
    joined : object_at r (all os) ≡ option_or (object_at r os.application) (object_at r os.scene)
    joined = find-append (λ (o : Object). same_ref r o.fixed.key) os.application os.scene

    by : (b : Bool) → list_any (is_at r) os.application ≡ b → AreOnlyIn u (if b then record os { application = changed_in f r os.application } else record os { scene = changed_in f r os.scene })
    by true e = (only_first u f r os.application (λ o found. keeps o (joined ∙ ap (λ (m : Option Object). option_or m (object_at r os.scene)) found)) k.0, k.1)
    by false e = (k.0, only_first u f r os.scene (λ o found. keeps o (joined ∙ ap (λ (m : Option Object). option_or m (object_at r os.scene)) (none_found r os.application e) ∙ found)) k.1)

only_left : (u : Runners) (f : Fixed → Body → Body) (r : ObjRef) (os : Objects) → ((p : Fixed) (b : Body) → Stays b (f p b)) → AreOnlyIn u os → AreOnlyIn u (changed f r os)
only_left u f r os same k = only_changed u f r os (λ o found. leaves_only u f o (same o.fixed o.body)) k

only_filled : (u : Runners) (rs : List ObjRef) (vs : List Value) (os : Objects) → AreOnlyIn u os → AreOnlyIn u (filled rs vs os)
only_filled u [] vs os k = k
only_filled u (r ∷ rs) [] os k = k
only_filled u (r ∷ rs) (v ∷ vs) os k = only_filled u rs vs (changed (λ p b. stored v b) r os) (only_left u (λ p b. stored v b) r os (λ p b. if_stays (fits_value v) (given v b) b b refl refl) k)

only_placed : (u : Runners) (ps : List (ObjRef × Position)) (os : Objects) → AreOnlyIn u os → AreOnlyIn u (all_placed ps os)
only_placed u [] os k = k
only_placed u (p ∷ ps) os k = only_placed u ps (changed (placed_at p.1) p.0 os) (only_left u (placed_at p.1) p.0 os (λ x b. if_stays (is_visible x.class) _ b b refl refl) k)

only_text : (u : Runners) (is : ObjRef → Bool) (text : List ℕ) (os : List Object) → Each (IsOnlyIn u) os → Each (IsOnlyIn u) (with_text is text os)
only_text u is text [] k = tt
only_text u is text (o ∷ os) k = (by (is o.fixed.key), only_text u is text os k.1)
  where
    by : (t : Bool) → IsOnlyIn u (if t then record o { body = brought text o.body } else o)
    by true = k.0
    by false = k.0

only_fresh : (u : Runners) (ps : List Fixed) → Each (IsOnlyIn u) (map fresh ps)
only_fresh u [] = tt
only_fresh u (p ∷ ps) = (λ h. absurd cc, only_fresh u ps)

-- ITEMS. Most of what is put runs nothing.

abbrev AreRunIn : Runners → List Item → Type 0
AreRunIn u is = Each (IsRunIn u) is

emit_if_in : (u : Runners) (b : Bool) (r : ObjRef) (kind : EventType) → AreRunIn u (emit_if b r kind)
emit_if_in u true r kind = (tt, tt)
emit_if_in u false r kind = tt

rise_in : (u : Runners) (fs : List File) (becomes : Option Object → Bool) (r : ObjRef) (m : Option Object) → AreRunIn u (rise_items fs becomes r m)
rise_in u fs becomes r m =
    each_joined (IsRunIn u) (emit_if (becomes m) r event.IsAvailable) (emit_if (loads_if fs becomes m) r event.ContentAvailable)
    (emit_if_in u (becomes m) r event.IsAvailable) (emit_if_in u (loads_if fs becomes m) r event.ContentAvailable)

acts_in : (u : Runners) (e : List Act) → AreRunIn u (acts e)
acts_in u [] = tt
acts_in u (a ∷ e) = (tt, acts_in u e)

heard_in : (u : Runners) (e : Event) (os : List Object) → AreRunIn u (heard e os)
heard_in u e [] = tt
heard_in u e (o ∷ os) =
    each_joined (IsRunIn u) (if matches e o then acts done else []) (heard e os) (by (matches e o)) (heard_in u e os)
  where
    done : List Act
    done = as_effect (held attribute.LinkEffect o.fixed.properties)

    by : (b : Bool) → AreRunIn u (if b then acts done else [])
    by true = acts_in u done
    by false = tt

halts_in : (u : Runners) (ps : List Fixed) → AreRunIn u (halts ps)
halts_in u [] = tt
halts_in u (p ∷ ps) = (tt, halts_in u ps)

effect_in : (u : Runners) (m : Option Fixed) (a : Attribute) → AreRunIn u (effect_of m a)
effect_in u None a = tt
effect_in u (Some p) a = acts_in u (as_effect (held a p.properties))

members_halted_in : (u : Runners) (ms : List Member) → AreRunIn u (members_halted ms)
members_halted_in u [] = tt
members_halted_in u (m ∷ ms) = (tt, members_halted_in u ms)

halted_in : (u : Runners) (xs : List ObjRef) (p : ObjRef → Bool) → AreRunIn u (map item.HaltMember (filter p xs))
halted_in u [] p = tt
halted_in u (x ∷ xs) p = by (p x) (halted_in u xs p)
  where
    by : (b : Bool) → AreRunIn u (map item.HaltMember (filter p xs)) → AreRunIn u (map item.HaltMember (cond b (x ∷ filter p xs) (filter p xs)))
    by true below = (tt, below)
    by false below = below

-- those that run are of the set

run_in : (u : Runners) (xs : List ObjRef) (p : ObjRef → Bool) → Each (λ (x : ObjRef). u x ≡ true) xs → AreRunIn u (map item.RunMember (filter p xs))
run_in u [] p h = tt
run_in u (x ∷ xs) p h = by (p x) (run_in u xs p h.1)
  where
    by : (b : Bool) → AreRunIn u (map item.RunMember (filter p xs)) → AreRunIn u (map item.RunMember (cond b (x ∷ filter p xs) (filter p xs)))
    by true below = (h.0, below)
    by false below = below

told_in : (u : Runners) (b : Bool) (r : ObjRef) (kind : EventType) (x : Value) → AreRunIn u (if b then [] else event_with r kind x ∷ [])
told_in u true r kind x = tt
told_in u false r kind x = (tt, tt)

list_events_in : (u : Runners) (r : ObjRef) (a b : Shown) → AreRunIn u (list_events r a b)
list_events_in u r a b =
    let first = truth_told event.FirstItemPresented r a.has_first b.has_first in
    let last = truth_told event.LastItemPresented r a.has_last b.has_last in
    let head = count_told event.HeadItems r a.head b.head in
    let tail = count_told event.TailItems r a.tail b.tail in
    each_joined (IsRunIn u) (first ++ last ++ head) tail
    (each_joined (IsRunIn u) (first ++ last) head
    (each_joined (IsRunIn u) first last (told_in u (are_same a.has_first b.has_first) r event.FirstItemPresented (value.Bool b.has_first)) (told_in u (are_same a.has_last b.has_last) r event.LastItemPresented (value.Bool b.has_last)))
    (told_in u (a.head == b.head) r event.HeadItems (value.Int (counted b.head))))
    (told_in u (a.tail == b.tail) r event.TailItems (value.Int (counted b.tail)))

list_items_in : (u : Runners) (r : ObjRef) (a b : Shown) → Each (λ (x : ObjRef). u x ≡ true) b.items → AreRunIn u (list_items r a b)
list_items_in u r a b h =
    each_joined (IsRunIn u) (halted_members a.items b.items ++ run_members a.items b.items) (list_events r a b)
    (each_joined (IsRunIn u) (halted_members a.items b.items) (run_members a.items b.items) (halted_in u a.items (λ x. not (is_shown x b.items))) (run_in u b.items (λ x. not (is_shown x a.items)) h))
    (list_events_in u r a b)

members_run_in : (u : Runners) (ms : List Member) → Each (λ (m : Member). u m.object ≡ true) ms → AreRunIn u (members_run ms)
members_run_in u [] h = tt
members_run_in u (m ∷ ms) h = (h.0, members_run_in u ms h.1)

-- What the state gives

abbrev option_map_fixed : Option Object → Option Fixed
option_map_fixed m = option_map (λ (o : Object). o.fixed) m

list_now : {fw : Flow} (s : State) (k : IsSafeBy fw s) (r : ObjRef) (o : Object) → object_at r (all s.objects) ≡ Some o → is_list_group o.fixed.class ≡ true → is_list_in (present s.service (config_of s)) r ≡ true
list_now {fw} s k r o e list =
    ap (λ (ps : List Fixed). is_list_in ps r) (sym (parts_present s k)) ∙ ap (λ (m : Option Class). option_map_or is_list_group m false) (class_found r (all s.objects) o e) ∙ list

-- an item that a list has now
item_runs : {fw : Flow} {q : Doings} (u : Runners) (s : State) (k : IsSafeBy fw s) → IsRunClosed s.service fw q u → (r : ObjRef) (o : Object) → object_at r (all s.objects) ≡ Some o → is_list_group o.fixed.class ≡ true → (x : ObjRef) → has (sets_of s k) o.fixed.key x ≡ true → u x ≡ true
item_runs {fw} u s k closed r o e list x h =
    closed.lists (config_of s) k.among r x (list_now s k r o e list) (subst (λ (q : ObjRef). has (sets_of s k) q x ≡ true) (sym (found_key r (all s.objects) o e)) h)

shown_runs : {fw : Flow} {q : Doings} (u : Runners) (s : State) (k : IsSafeBy fw s) → IsRunClosed s.service fw q u → (r : ObjRef) (o : Object) → object_at r (all s.objects) ≡ Some o → is_list_group o.fixed.class ≡ true → (running : Bool) → Each (λ (x : ObjRef). u x ≡ true) (shows running o.fixed o.body.list).items
shown_runs {fw} u s k closed r o e list running = each (shows running o.fixed o.body.list).items (shown_among [] o running o.fixed o.body.list (own_among [] o))
  where
    one : (x : ObjRef) → IsListed [] o x → u x ≡ true
    one x (inl has) = item_runs u s k closed r o e list x ((held_at s k r o e).items list x has)
    one x (inr none) = absurd cc

    each : (xs : List ObjRef) → Each (IsListed [] o) xs → Each (λ (x : ObjRef). u x ≡ true) xs
    each [] h = tt
    each (x ∷ xs) h = (one x h.0, each xs h.1)

-- Life

group_runs_in : {fw : Flow} {q : Doings} (u : Runners) (s : State) (k : IsSafeBy fw s) → IsRunClosed s.service fw q u → (r : ObjRef) (o : Object) → object_at r (all s.objects) ≡ Some o → (c : Class) → o.fixed.class ≡ c → AreRunIn u (group_runs c r o)
group_runs_in {fw} u s k closed r o e class.TokenGroup is =
    let part : part_at r (present s.service (config_of s)) ≡ Some o.fixed = ap (part_at r) (sym (parts_present s k)) ∙ part_at-parts r (all s.objects) ∙ ap (λ (m : Option Object). option_map_fixed m) e in
    members_run_in u (members o.fixed) (closed.tokens (config_of s) k.among o.fixed (part_among r (present s.service (config_of s)) o.fixed part) (ap is_token_group is))
group_runs_in {fw} u s k closed r o e class.ListGroup is =
    list_items_in u r nothing_shown (shows true o.fixed o.body.list) (shown_runs u s k closed r o e (ap is_list_group is) true)
group_runs_in {fw} u s k closed r o e _ is = tt

token_told_in : (u : Runners) (c : Class) (r : ObjRef) → AreRunIn u (token_told c r)
token_told_in u class.TokenGroup r = (tt, tt)
token_told_in u _ r = tt

started_in : {fw : Flow} {q : Doings} (u : Runners) (s : State) (k : IsSafeBy fw s) → IsRunClosed s.service fw q u → (r : ObjRef) → AreRunIn u (started_items r (object_at r (all s.objects)))
started_in {fw} u s k closed r = by (object_at r (all s.objects)) refl
  where
    by : (m : Option Object) → object_at r (all s.objects) ≡ m → AreRunIn u (started_items r m)
    by None e = tt
    by (Some o) e = if_stopped o.body.running
      where
        if_stopped : (b : Bool) → AreRunIn u (if b then [] else running_items r o)
        if_stopped true = tt
        if_stopped false =
            each_joined (IsRunIn u) (group_runs o.fixed.class r o) (plain_event r event.IsRunning ∷ token_told o.fixed.class r)
            (group_runs_in u s k closed r o e o.fixed.class refl) (tt, token_told_in u o.fixed.class r)

group_halts_in : (u : Runners) (c : Class) (o : Object) → AreRunIn u (group_halts c o)
group_halts_in u class.TokenGroup o = members_halted_in u (members o.fixed)
group_halts_in u class.ListGroup o = halted_in u (shows o.body.running o.fixed o.body.list).items (λ x. not (is_shown x []))
group_halts_in u _ o = tt

halt_in : (u : Runners) (r : ObjRef) (m : Option Object) → AreRunIn u (halt_items r m)
halt_in u r None = tt
halt_in u r (Some o) = by o.body.running
  where
    by : (b : Bool) → AreRunIn u (if b then stopping_items r o else [])
    by true = each_joined (IsRunIn u) (group_halts o.fixed.class o) (plain_event r event.IsStopped ∷ []) (group_halts_in u o.fixed.class o) (tt, tt)
    by false = tt

-- Groups

runs_in : {q : Doings} (u : Runners) (v : Service) (w : Flow) (c : Config) → IsRunClosed v w q u → reached w c ≡ true → (ps : List Fixed) → ((p : Fixed) → Among ps p → Among (present v c) p) → AreRunIn u (runs (filter is_initially_active ps))
runs_in u v w c closed among [] into = tt
runs_in u v w c closed among (p ∷ ps) into = by (is_initially_active p) refl (runs_in u v w c closed among ps (λ x there. into x (inr there)))
  where
    by : (b : Bool) → is_initially_active p ≡ b → AreRunIn u (runs (filter is_initially_active ps)) → AreRunIn u (runs (cond b (p ∷ filter is_initially_active ps) (filter is_initially_active ps)))
    by true is below = (closed.first c among p (into p (inl refl)) is, below)
    by false is below = below

part_into : (v : Service) (c : Config) (g : List ℕ) → IsPartOf c g → (p : Fixed) → Among (group_parts v g) p → Among (present v c) p
part_into v c g (inl same) p there = among_left (group_parts v c.app) (scene_parts v c.scene) p (subst (λ (x : List ℕ). Among (group_parts v x) p) same there)
part_into v c g (inr same) p there = among_right (group_parts v c.app) (scene_parts v c.scene) p (subst (λ (m : Option (List ℕ)). Among (scene_parts v m) p) (sym same) there)

entering_in : {q : Doings} (u : Runners) (v : Service) (w : Flow) (c : Config) (g : List ℕ) → IsRunClosed v w q u → reached w c ≡ true → IsPartOf c g → AreRunIn u (entering g (group_parts v g))
entering_in u v w c g closed among own =
    each_joined (IsRunIn u) (group_effect g (group_parts v g) attribute.OnStartUp ++ runs (filter is_initially_active (group_parts v g))) (plain_event (group_ref g) event.IsRunning ∷ [])
    (each_joined (IsRunIn u) (group_effect g (group_parts v g) attribute.OnStartUp) (runs (filter is_initially_active (group_parts v g)))
    (effect_in u (part_at (group_ref g) (group_parts v g)) attribute.OnStartUp) (runs_in u v w c closed among (group_parts v g) (part_into v c g own))) (tt, tt)

closing_in : (u : Runners) (m : Option (List ℕ × List Fixed)) → AreRunIn u (scene_closing m)
closing_in u None = tt
closing_in u (Some (g, ps)) = effect_in u (part_at (group_ref g) ps) attribute.OnCloseDown

scene_halts_in : (u : Runners) (m : Option (List ℕ × List Fixed)) → AreRunIn u (scene_halts m)
scene_halts_in u None = tt
scene_halts_in u (Some (g, ps)) = halts_in u (filter (λ p. is_runnable p.class) (reverse ps))

leaving_in : (u : Runners) (ps : List Fixed) (m : Option (List ℕ × List Fixed)) (g : List ℕ) → AreRunIn u (leaving ps m g)
leaving_in u ps m g =
    let stopped : List Fixed = filter (λ p. is_runnable p.class && not (is_shared p)) (reverse ps) in
    each_joined (IsRunIn u) (scene_closing m ++ scene_halts m ++ halts stopped) (item.Exchange g ∷ [])
    (each_joined (IsRunIn u) (scene_closing m ++ scene_halts m) (halts stopped) (each_joined (IsRunIn u) (scene_closing m) (scene_halts m) (closing_in u m) (scene_halts_in u m)) (halts_in u stopped)) (tt, tt)

quitting_in : (u : Runners) (g : List ℕ) (ps : List Fixed) (m : Option (List ℕ × List Fixed)) (last : Item) → IsRunIn u last → AreRunIn u (quitting g ps m last)
quitting_in u g ps m last h =
    let stopped : List Fixed = filter (λ p. is_runnable p.class) (reverse ps) in
    let down : List Item = group_effect g ps attribute.OnCloseDown in
    each_joined (IsRunIn u) (scene_closing m ++ down ++ scene_halts m ++ halts stopped) (last ∷ [])
    (each_joined (IsRunIn u) (scene_closing m ++ down ++ scene_halts m) (halts stopped)
    (each_joined (IsRunIn u) (scene_closing m ++ down) (scene_halts m) (each_joined (IsRunIn u) (scene_closing m) down (closing_in u m) (effect_in u (part_at (group_ref g) ps) attribute.OnCloseDown)) (scene_halts_in u m)) (halts_in u stopped)) (h, tt)

out_in : (u : Runners) (n : ActionName) (r : ObjRef) (s : State) → AreRunIn u (way_out n r s)
out_in u action.TransitionTo r s = leaving_in u (group_parts s.service s.application) (with_parts s.service s.scene) r.group
out_in u action.Launch r s = quitting_in u s.application (group_parts s.service s.application) (with_parts s.service s.scene) (item.Exchange r.group) tt
out_in u _ r s = quitting_in u s.application (group_parts s.service s.application) (with_parts s.service s.scene) item.End tt

-- What an action puts, by its pieces

piece_in : (u : Runners) (r : ObjRef) (vs : List Value) (o : Object) (p : Piece) (i : Item) → (is_run_piece p ≡ true → u r ≡ true) → (is_list_piece p ≡ true → (x : ObjRef) → IsListed vs o x → u x ≡ true) → IsOf r vs o p i → IsRunIn u i
piece_in u r vs o piece.Prepares (item.Prepare x) run list of = tt
piece_in u r vs o piece.Runs (item.Run x) run list of = subst (λ (y : ObjRef). u y ≡ true) (sym of) (run refl)
piece_in u r vs o piece.Halts (item.Halt x) run list of = tt
piece_in u r vs o piece.Drops (item.Drop x) run list of = tt
piece_in u r vs o (piece.Tells kind) (item.Emit e) run list of = tt
piece_in u r vs o piece.Sends (item.Emit e) run list of = tt
piece_in u r vs o piece.Slots (item.Act a) run list of = tt
piece_in u r vs o piece.Lists (item.RunMember x) run list of = list refl x of
piece_in u r vs o piece.Lists (item.HaltMember x) run list of = tt
piece_in u r vs o piece.Enters (item.Exchange g) run list of = tt
piece_in u r vs o piece.Ends item.End run list of = tt
piece_in u r vs o _ _ run list of = absurd cc

or_first : (a b : Bool) → a ≡ true → (a || b) ≡ true
or_first true b e = refl
or_first false b e = absurd cc

or_second : (a b : Bool) → b ≡ true → (a || b) ≡ true
or_second true b e = refl
or_second false b e = e

one_in : (u : Runners) (r : ObjRef) (vs : List Value) (o : Object) (ps : List Piece) (i : Item) → (list_any is_run_piece ps ≡ true → u r ≡ true) → (list_any is_list_piece ps ≡ true → (x : ObjRef) → IsListed vs o x → u x ≡ true) → IsOneOf r vs o ps i → IsRunIn u i
one_in u r vs o [] i run list of = absurd cc
one_in u r vs o (p ∷ ps) i run list (inl of) = piece_in u r vs o p i (λ h. run (or_first (is_run_piece p) (list_any is_run_piece ps) h)) (λ h. list (or_first (is_list_piece p) (list_any is_list_piece ps) h)) of
one_in u r vs o (p ∷ ps) i run list (inr of) = one_in u r vs o ps i (λ h. run (or_second (is_run_piece p) (list_any is_run_piece ps) h)) (λ h. list (or_second (is_list_piece p) (list_any is_list_piece ps) h)) of

pieces_in : (u : Runners) (r : ObjRef) (vs : List Value) (o : Object) (ps : List Piece) (is : List Item) → (list_any is_run_piece ps ≡ true → u r ≡ true) → (list_any is_list_piece ps ≡ true → (x : ObjRef) → IsListed vs o x → u x ≡ true) → AreOf r vs o ps is → AreRunIn u is
pieces_in u r vs o ps [] run list of = tt
pieces_in u r vs o ps (i ∷ is) run list of = (one_in u r vs o ps i run list of.0, pieces_in u r vs o ps is run list of.1)

-- RULES. Here `rest` is the work behind the item, and `n` the number of steps.

if_in : (u : Runners) (t : Bool) (is js : List Item) → AreRunIn u is → AreRunIn u js → AreRunIn u (if t then is else js)
if_in u true is js h k = h
if_in u false is js h k = k

load_items_in : (u : Runners) (fs : List File) (vs : List Value) (r : ObjRef) (m : Option Object) → AreRunIn u (load_items fs vs r m)
load_items_in u fs [] r m = tt
load_items_in u fs (v ∷ []) r m = emit_if_in u (is_loadable v && is_available_at m && is_some (comes_to fs v)) r event.ContentAvailable
load_items_in u fs (v ∷ x ∷ vs) r m = tt

load_runs : (u : Runners) (s : State) (vs : List Value) (r : ObjRef) → RunsOnly u s → RunsOnly u (load_rule vs r s)
load_runs u s [] r h = h
load_runs u s (v ∷ x ∷ vs) r h = h
load_runs u s (v ∷ []) r h = by (is_loadable v)
  where
    by : (t : Bool) → RunsOnly u (if t then loaded_with v r s else s)
    by true = record {
      objects = only_left u (λ p b. replaced v (comes_to s.files v) b) r s.objects (λ p b. refl) h.objects;
      work = each_joined (IsRunIn u) (load_items s.files (v ∷ []) r (object_at r (all s.objects))) s.work (load_items_in u s.files (v ∷ []) r (object_at r (all s.objects))) h.work;
    }
    by false = h

call_items_in : (u : Runners) (n : ActionName) (r : ObjRef) → AreRunIn u (call_items n r)
call_items_in u action.Fork r = (tt, tt)
call_items_in u _ r = tt

interaction_in : (u : Runners) (vs : List Value) (b : Bool) (r : ObjRef) → AreRunIn u (interaction_items vs b r)
interaction_in u (value.Bool false ∷ []) true r = (tt, tt)
interaction_in u _ b r = tt

interact_runs : (u : Runners) (s : State) (n : ActionName) (vs : List Value) (rs : List ObjRef) (r : ObjRef) → RunsOnly u s → RunsOnly u (interact_rule n vs rs r s)
interact_runs u s action.SetInteractionStatus vs rs r h = record {
  objects = h.objects;
  work = each_joined (IsRunIn u) (interaction_items vs (is_interacting r s.interaction) r) s.work (interaction_in u vs (is_interacting r s.interaction) r) h.work;
}
interact_runs u s action.GetInteractionStatus vs rs r h = record { objects = only_filled u rs (value.Bool (is_interacting r s.interaction) ∷ []) s.objects h.objects; work = h.work }
interact_runs u s _ vs rs r h = h

transition_runs : (u : Runners) (n : ActionName) (r : ObjRef) (s : State) → RunsOnly u s → RunsOnly u (transition_rule n r s)
transition_runs u n r s h = by (is_begun s.transition) (leads_to_late n r s)
  where
    by : (begun late : Bool) → RunsOnly u (if begun then s else begins_or_waits late n r s)
    by true late = h
    by false true = record { objects = h.objects; work = h.work }
    by false false = record { objects = h.objects; work = out_in u n r s }

whole_runs : (u : Runners) (s : State) (n : ActionName) (vs : List Value) (r : ObjRef) → RunsOnly u s → RunsOnly u (whole_rule n vs r s)
whole_runs u s action.TransitionTo vs r h = transition_runs u action.TransitionTo r s h
whole_runs u s action.Launch vs r h = transition_runs u action.Launch r s h
whole_runs u s action.Quit vs r h = transition_runs u action.Quit r s h
whole_runs u s action.LockScreen vs r h = record { objects = h.objects; work = h.work }
whole_runs u s action.UnlockScreen vs r h = record { objects = h.objects; work = h.work }
whole_runs u s action.SetTimer vs r h = record { objects = h.objects; work = h.work }
whole_runs u s _ vs r h = h

-- what an action puts that works a widget
widget_in : {fw : Flow} {q : Doings} (u : Runners) (s : State) (k : IsSafeBy fw s) → IsRunClosed s.service fw q u → (a : Act) (r : ObjRef) (o : Object) → IsSound fw s k a r → object_at r (all s.objects) ≡ Some o → (list_any is_run_piece (can_put a.name) ≡ true → u r ≡ true) → AreRunIn u (worked a.name (values (all s.objects) a.arguments) r o.fixed o.body).items
widget_in {fw} u s k closed a r o so e run = by (list_any is_list_piece (can_put a.name)) refl
  where
    vs : List Value
    vs = values (all s.objects) a.arguments

    puts : (list_any is_list_piece (can_put a.name) ≡ true → (x : ObjRef) → IsListed vs o x → u x ≡ true) → AreRunIn u (worked a.name vs r o.fixed o.body).items
    puts listed = pieces_in u r vs o (can_put a.name) (worked a.name vs r o.fixed o.body).items run listed (widget_puts a.name vs r o)

    good : IsTight a.name vs → list_any is_list_piece (can_put a.name) ≡ true → (x : ObjRef) → IsListed vs o x → u x ≡ true
    good tight some x h = of_list h
      where
        list : is_list_group o.fixed.class ≡ true
        list =
            let hit = found_object s k a.name r (plain_listing a.name some) so.fit in
            listing_class a.name o.fixed.class some (subst (λ (y : Object). admits y.fixed.class a.name ≡ true) (some_same (sym hit.1 ∙ e)) hit.2)

        of_list : IsListed vs o x → u x ≡ true
        of_list (inl has) = item_runs u s k closed r o e list x ((held_at s k r o e).items list x has)
        of_list (inr given) = item_runs u s k closed r o e list x (given_held s k a r o x so e (or_second (refers o.fixed.class) (is_list_group o.fixed.class) list) (tight x given))

    by_list : list_any is_list_piece (can_put a.name) ≡ true → IsTight a.name vs ⊎ (relisted a.name vs o.fixed o.body.list ≡ None) → AreRunIn u (worked a.name vs r o.fixed o.body).items
    by_list some (inl tight) = puts (good tight)
    by_list some (inr none) = subst (λ (is : List Item). AreRunIn u is) (sym (none_listed a.name vs r o.fixed o.body some none)) tt

    by : (b : Bool) → list_any is_list_piece (can_put a.name) ≡ b → AreRunIn u (worked a.name vs r o.fixed o.body).items
    by true some = by_list some (tight_or_none a.name vs o.fixed o.body.list some)
    by false none = puts (λ some. let never : false ≡ true = sym none ∙ some in absurd cc)

called_runs : (u : Runners) (said : Outcome) (n : ActionName) (ps : List Param) (xs : List Argument) (r : ObjRef) (s : State) → RunsOnly u s → RunsOnly u (called said n ps xs r s)
called_runs u said n ps xs r s h = record {
  objects = only_filled u (receivers xs ++ outs ps (passed xs)) (said_by said) s.objects h.objects;
  work = each_joined (IsRunIn u) (call_items n r) s.work (call_items_in u n r) h.work;
}

sort_runs : {fw : Flow} {q : Doings} (u : Runners) (s : State) (k : IsSafeBy fw s) → IsRunClosed s.service fw q u → (a : Act) (r : ObjRef) → IsSound fw s k a r → q (config_of s) a ≡ true → (rest : List Item) (n : ℕ) → AreOnlyIn u s.objects → AreRunIn u rest → (o : Sort) → sort_of a.name ≡ o → RunsOnly u (rule_by o a.name a.arguments r (record s { work = rest; taken = n }))
sort_runs {fw} u s k closed a r so may rest n h behind_it sort.Change same =
    record { objects = only_left u (changed_by a.name (values (all s.objects) a.arguments)) r s.objects (λ p b. changed_stays a.name (values (all s.objects) a.arguments) p b) h; work = behind_it }
sort_runs {fw} u s k closed a r so may rest n h behind_it sort.Ask same =
    record { objects = only_filled u (receivers a.arguments) _ s.objects h; work = behind_it }
sort_runs {fw} u s k closed a r so may rest n h behind_it sort.Put same = record { objects = h; work = by (object_at r (all s.objects)) refl }
  where
    vs : List Value
    vs = values (all s.objects) a.arguments

    by : (m : Option Object) → object_at r (all s.objects) ≡ m → AreRunIn u (put_items_at a.name vs r m ++ rest)
    by None e = behind_it
    by (Some o) e =
        each_joined (IsRunIn u) (put_items a.name vs r o) rest
        (pieces_in u r vs o (can_put a.name) (put_items a.name vs r o)
        (λ some. closed.acts (config_of s) k.among a (so.fine).active may some r (target_among fw (config_of s) (present s.service (config_of s)) a.target r so.may))
        (λ some. let never = no_put_list a.name same some in absurd cc) (plain_puts a.name vs r o)) behind_it
sort_runs {fw} u s k closed a r so may rest n h behind_it sort.Load same = load_runs u (record s { work = rest; taken = n }) (values (all s.objects) a.arguments) r (record { objects = h; work = behind_it })
sort_runs {fw} u s k closed a r so may rest n h behind_it sort.Call same =
    let p : Option Fixed = part_at r (parts (all s.objects)) in
    let ps : List Param = unwrap_or (params_in s.service.programs p) [] in
    called_runs u (outcome_at p ps a.arguments (record s { work = rest; taken = n })) a.name ps a.arguments r (record s { work = rest; taken = n }) (record { objects = h; work = behind_it })
sort_runs {fw} u s k closed a r so may rest n h behind_it sort.Order same = record { objects = h; work = behind_it }
sort_runs {fw} u s k closed a r so may rest n h behind_it sort.Widget same = by (object_at r (all s.objects)) refl
  where
    vs : List Value
    vs = values (all s.objects) a.arguments

    by : (m : Option Object) → object_at r (all s.objects) ≡ m → RunsOnly u (widget_at a.name vs r m (record s { work = rest; taken = n }))
    by None e = record { objects = h; work = behind_it }
    by (Some o) e =
        let w : Worked = worked a.name vs r o.fixed o.body in
        record {
          objects = only_placed u w.placed (changed (λ p b. w.body) r s.objects) (only_changed u (λ p b. w.body) r s.objects (λ x found. subst (λ (y : Object). KeepsOnly u (λ p b. w.body) y) (some_same (sym e ∙ found)) (leaves_only u (λ p b. w.body) o ((worked_keeps a.name vs r o.fixed o.body).0))) h);
          work = each_joined (IsRunIn u) w.items rest (widget_in u s k closed a r o so e (λ some. closed.acts (config_of s) k.among a (so.fine).active may some r (target_among fw (config_of s) (present s.service (config_of s)) a.target r so.may))) behind_it;
        }
sort_runs {fw} u s k closed a r so may rest n h behind_it sort.Interact same = interact_runs u (record s { work = rest; taken = n }) a.name (values (all s.objects) a.arguments) (receivers a.arguments) r (record { objects = h; work = behind_it })
sort_runs {fw} u s k closed a r so may rest n h behind_it sort.Whole same = whole_runs u (record s { work = rest; taken = n }) a.name (values (all s.objects) a.arguments) r (record { objects = h; work = behind_it })

act_runs : {fw : Flow} {q : Doings} (u : Runners) (s : State) (k : IsSafeBy fw s) → IsRunClosed s.service fw q u → (a : Act) → IsFine s.service fw (config_of s) a → q (config_of s) a ≡ true → (rest : List Item) (n : ℕ) → AreOnlyIn u s.objects → AreRunIn u rest → RunsOnly u (rule (item.Act a) (record s { work = rest; taken = n }))
act_runs {fw} u s k closed a fine may rest n h behind_it = by (referred a.target (all s.objects)) refl
  where
    by : (m : Option ObjRef) → referred a.target (all s.objects) ≡ m → RunsOnly u (act_on m a.name a.arguments (record s { work = rest; taken = n }))
    by None e = record { objects = h; work = behind_it }
    by (Some r) e = sort_runs u s k closed a r (sound_now s k a fine r e) may rest n h behind_it (sort_of a.name) refl

-- an object that begins to run is of the set
run_objects : (u : Runners) (s : State) (r : ObjRef) → u r ≡ true → AreOnlyIn u s.objects → AreOnlyIn u (all_placed (run_places (object_at r (all s.objects))) (changed (started (loaded_at s.files (object_at r (all s.objects)))) r s.objects))
run_objects u s r is h =
    only_placed u (run_places (object_at r (all s.objects))) (changed (started (loaded_at s.files (object_at r (all s.objects)))) r s.objects)
    (only_changed u (started (loaded_at s.files (object_at r (all s.objects)))) r s.objects (λ o found k runs_it. subst (λ (x : ObjRef). u x ≡ true) (found_key r (all s.objects) o found) is) h)

run_work : {fw : Flow} {q : Doings} (u : Runners) (s : State) (k : IsSafeBy fw s) → IsRunClosed s.service fw q u → (r : ObjRef) (rest : List Item) → AreRunIn u rest → AreRunIn u (run_items s.files r (object_at r (all s.objects)) ++ rest)
run_work {fw} u s k closed r rest behind_it =
    each_joined (IsRunIn u) (run_items s.files r (object_at r (all s.objects))) rest
    (each_joined (IsRunIn u) (rise_items s.files is_unprepared_at r (object_at r (all s.objects))) (started_items r (object_at r (all s.objects))) (rise_in u s.files is_unprepared_at r (object_at r (all s.objects))) (started_in u s k closed r)) behind_it

rule_runs : {fw : Flow} {q : Doings} (u : Runners) (s : State) (k : IsSafeBy fw s) → IsRunClosed s.service fw q u → (i : Item) → IsSafeItem s.service fw (config_of s) i → IsSo q (config_of s) i → IsRunIn u i → (rest : List Item) (n : ℕ) → AreOnlyIn u s.objects → AreRunIn u rest → RunsOnly u (rule i (record s { work = rest; taken = n }))
rule_runs {fw} u s k closed (item.Act a) safe may is rest n h behind_it = act_runs u s k closed a safe may rest n h behind_it
rule_runs {fw} u s k closed (item.Prepare r) safe may is rest n h behind_it = record {
  objects = only_left u (λ p b. prepared (loaded_at s.files (object_at r (all s.objects))) b) r s.objects (λ p b. if_stays b.available b _ b refl refl) h;
  work = each_joined (IsRunIn u) (prepare_items s.files r (object_at r (all s.objects))) rest (rise_in u s.files is_unavailable_at r (object_at r (all s.objects))) behind_it;
}
rule_runs {fw} u s k closed (item.Run r) safe may is rest n h behind_it = record { objects = run_objects u s r is h; work = run_work u s k closed r rest behind_it }
rule_runs {fw} u s k closed (item.RunMember r) safe may is rest n h behind_it = record { objects = run_objects u s r is h; work = run_work u s k closed r rest behind_it }
rule_runs {fw} u s k closed (item.Halt r) safe may is rest n h behind_it = record {
  objects = only_changed u (λ p b. halted b) r s.objects (λ o found x e. absurd cc) h;
  work = each_joined (IsRunIn u) (halt_items r (object_at r (all s.objects))) rest (halt_in u r (object_at r (all s.objects))) behind_it;
}
rule_runs {fw} u s k closed (item.HaltMember r) safe may is rest n h behind_it = record {
  objects = only_changed u (λ p b. halted b) r s.objects (λ o found x e. absurd cc) h;
  work = each_joined (IsRunIn u) (halt_items r (object_at r (all s.objects))) rest (halt_in u r (object_at r (all s.objects))) behind_it;
}
rule_runs {fw} u s k closed (item.Drop r) safe may is rest n h behind_it = record {
  objects = only_left u (λ p b. dropped b) r s.objects (λ p b. if_stays b.available _ b b refl refl) h;
  work = each_joined (IsRunIn u) (drop_items r (object_at r (all s.objects))) rest (emit_if_in u (is_available_at (object_at r (all s.objects))) r event.IsDeleted) behind_it;
}
rule_runs {fw} u s k closed (item.Emit e) safe may is rest n h behind_it = by (is_sync e.kind)
  where
    by : (t : Bool) → RunsOnly u (if t then record s { work = heard e (all s.objects) ++ rest; taken = n } else record s { queue = s.queue ++ waiting.Event e ∷ []; work = rest; taken = n })
    by true = record { objects = h; work = each_joined (IsRunIn u) (heard e (all s.objects)) rest (heard_in u e (all s.objects)) behind_it }
    by false = record { objects = h; work = behind_it }
rule_runs {fw} u s k closed (item.Enter g) safe may is rest n h behind_it =
    record { objects = h; work = each_joined (IsRunIn u) (entering g (group_parts s.service g)) rest (entering_in u s.service fw (config_of s) g closed k.among safe) behind_it }
rule_runs {fw} u s k closed (item.Exchange g) safe may is rest n h behind_it = by (is_group_of is_application s.service g)
  where
    by : (t : Bool) → RunsOnly u (if t then application_exchanged g (record s { work = rest; taken = n }) else scene_exchanged g (record s { work = rest; taken = n }))
    by true = record { objects = (only_fresh u (group_parts s.service g), tt); work = (tt, behind_it) }
    by false = record { objects = (h.0, only_fresh u (group_parts s.service g)); work = (tt, behind_it) }
rule_runs {fw} u s k closed item.End safe may is rest n h behind_it = record { objects = h; work = behind_it }

-- Taking

key_items_in : (u : Runners) (k : Key) (m : Option (List ℕ)) (os : List Object) → AreRunIn u (key_items k m os)
key_items_in u k None os = tt
key_items_in u k (Some g) os = if_in u (passes (register_of (object_at (group_ref g) os)) k) (heard (key_event k (group_ref g)) os) [] (heard_in u (key_event k (group_ref g)) os) tt

typed_in : (u : Runners) (c : ℕ) (r : ObjRef) (p : Fixed) (b : Body) → AreRunIn u (typed c r p b).items
typed_in u c r p b = by (b.overwrites && nat_lt b.point (length (text_of b))) (int_lt (pos (length (text_of b))) (most_typed p)) (int_eq (pos (length (text_of b) + 1)) (most_typed p))
  where
    by : (over room full : Bool) → AreRunIn u (if over then overtyped c b else (if room then record { body = (put_in c r p b).body; items = if full then plain_event r event.EntryFieldFull ∷ [] else []; ends = false } else not_pressed b)).items
    by true room full = tt
    by false true true = (tt, tt)
    by false true false = tt
    by false false full = tt

field_in : (u : Runners) (k : Key) (before : List ℕ) (r : ObjRef) (p : Fixed) (b : Body) → AreRunIn u (field_pressed k before r p b).items
field_in u key.Digit0 before r p b = typed_in u 48 r p b
field_in u key.Digit1 before r p b = typed_in u 49 r p b
field_in u key.Digit2 before r p b = typed_in u 50 r p b
field_in u key.Digit3 before r p b = typed_in u 51 r p b
field_in u key.Digit4 before r p b = typed_in u 52 r p b
field_in u key.Digit5 before r p b = typed_in u 53 r p b
field_in u key.Digit6 before r p b = typed_in u 54 r p b
field_in u key.Digit7 before r p b = typed_in u 55 r p b
field_in u key.Digit8 before r p b = typed_in u 56 r p b
field_in u key.Digit9 before r p b = typed_in u 57 r p b
field_in u key.Select before r p b = (tt, tt)
field_in u key.Cancel before r p b = (tt, tt)
field_in u _ before r p b = tt

push_in : (u : Runners) (k : Key) (r : ObjRef) (b : Body) → AreRunIn u (button_pressed k r b).items
push_in u key.Select r b = by (are_same b.selected true)
  where
    by : (same : Bool) → AreRunIn u (pressed_by (if same then no_work b else record { body = record b { selected = true }; placed = []; items = plain_event r event.IsSelected ∷ [] })).items
    by true = tt
    by false = (tt, tt)
push_in u key.Cancel r b = (tt, tt)
push_in u _ r b = tt

pressed_in : (u : Runners) (x : Class) (k : Key) (before : List ℕ) (r : ObjRef) (p : Fixed) (b : Body) → AreRunIn u (pressed_of x k before r p b).items
pressed_in u class.EntryField k before r p b = field_in u k before r p b
pressed_in u class.PushButton k before r p b = push_in u k r b
pressed_in u _ k before r p b = tt

taking_runs : (u : Runners) (s : State) (x : Waiting) → RunsOnly u s → RunsOnly u (taking x s)
taking_runs u s (waiting.Event e) h = record { objects = h.objects; work = heard_in u e (all s.objects) }
taking_runs u s (waiting.Input (input.Key x)) h = by s.interaction
  where
    by : (i : Option Interaction) → RunsOnly u (key_taken x i s)
    by None = record { objects = h.objects; work = key_items_in u x s.scene (all s.objects) }
    by (Some i) = by_object (object_at i.object (all s.objects)) refl
      where
        by_object : (m : Option Object) → object_at i.object (all s.objects) ≡ m → RunsOnly u (pressed_at x i m s)
        by_object None e = h
        by_object (Some o) e =
            let w : Pressed = pressed_of o.fixed.class x i.before i.object o.fixed o.body in
            record {
              objects = only_changed u (λ p b. w.body) i.object s.objects (λ z found. subst (λ (y : Object). KeepsOnly u (λ p b. w.body) y) (some_same (sym e ∙ found)) (leaves_only u (λ p b. w.body) o ((pressed_keeps o.fixed.class x i.before i.object o.fixed o.body).0))) h.objects;
              work = pressed_in u o.fixed.class x i.before i.object o.fixed o.body;
            }
taking_runs u s (waiting.Input (input.Tick n)) h = record { objects = h.objects; work = h.work }
taking_runs u s (waiting.Input (input.Stream n)) h = record { objects = h.objects; work = h.work }
taking_runs u s (waiting.Input (input.Engine n)) h = record { objects = h.objects; work = heard_in u (engine_event n s.application) (all s.objects) }
taking_runs u s (waiting.Input (input.Arrive f)) h = record { objects = (only_text u (waits_for f.name s.waits) f.content s.objects.application (h.objects).0, only_text u (waits_for f.name s.waits) f.content s.objects.scene (h.objects).1); work = h.work }
-- STEPS
taking_runs u s (waiting.Input (input.Scene g w)) h = by (awaits g s.transition)
  where
    by : (t : Bool) → RunsOnly u (if t then begins action.TransitionTo (group_ref g) (scene_arrived g s) else scene_arrived g s)
    by true = record { objects = h.objects; work = out_in u action.TransitionTo (group_ref g) (scene_arrived g s) }
    by false = record { objects = h.objects; work = h.work }

first_runs : (u : Runners) (work : List Item) (i : Item) → slice_get work 0 ≡ Some i → AreRunIn u work → IsRunIn u i × AreRunIn u (drop 1 work)
first_runs u [] i e h = absurd cc
first_runs u (j ∷ rest) i e h = (subst (IsRunIn u) (some_same e) h.0, h.1)

pub step_runs : {fw : Flow} {q : Doings} (u : Runners) (s : State) (k : IsSafeBy fw s) → IsRunClosed s.service fw q u → ((i : Item) → slice_get s.work 0 ≡ Some i → IsSo q (config_of s) i) → RunsOnly u s → RunsOnly u (step s)
step_runs {fw} u s k closed comes h = unless_ended s.ended
  where
    by : (m : Option Item) (x : Option Waiting) → slice_get s.work 0 ≡ m → RunsOnly u (step_by m x s)
    by None None e = h
    by None (Some x) e = taking_runs u (record s { queue = drop 1 s.queue; taken = s.taken + 1 }) x (record { objects = h.objects; work = h.work })
    by (Some i) x e =
        let parts = first_runs u s.work i e h.work in
        subst (λ (m : Option Fault). RunsOnly u (did m i s)) (sym (free_first s k i e)) (rule_runs u s k closed i (first_item s k i e) (comes i e) parts.0 (drop 1 s.work) (s.taken + 1) h.objects parts.1)

    unless_ended : (t : Bool) → RunsOnly u (if t then s else step_by (slice_get s.work 0) (slice_get s.queue 0) s)
    unless_ended true = h
    unless_ended false = by (slice_get s.work 0) (slice_get s.queue 0) refl

pub posted_runs : (u : Runners) (s : State) (i : Input) → RunsOnly u s → RunsOnly u (posted i s)
posted_runs u s i h = by (obstacle i s)
  where
    by : (m : Option Obstacle) → RunsOnly u (posted_by m i s)
    by None = record { objects = h.objects; work = h.work }
    by (Some o) = h

pub told_runs : (u : Runners) (s : State) (o : Outcome) → RunsOnly u s → RunsOnly u (told o s)
told_runs u s o h = record { objects = h.objects; work = h.work }

-- RUNS

pub any_so : (c : Config) (i : Item) → IsSo any_act c i
any_so c (item.Act a) = refl
any_so c (item.Prepare r) = tt
any_so c (item.Run r) = tt
any_so c (item.Halt r) = tt
any_so c (item.RunMember r) = tt
any_so c (item.HaltMember r) = tt
any_so c (item.Drop r) = tt
any_so c (item.Emit e) = tt
any_so c (item.Enter g) = tt
any_so c (item.Exchange g) = tt
any_so c item.End = tt

record Goes_on (v : Service) (w : Flow) (u : Runners) (s : State) : Type 0 where
  safe : IsSafeBy w s
  service : s.service ≡ v
  runs : RunsOnly u s

closed_now : {q : Doings} (v : Service) (w : Flow) (u : Runners) (s : State) → IsRunClosed v w q u → s.service ≡ v → IsRunClosed s.service w q u
closed_now {q} v w u s closed same = subst (λ (x : Service). IsRunClosed x w q u) (sym same) closed

goes_step : (v : Service) (w : Flow) (u : Runners) → IsRunClosed v w any_act u → (s : State) → Goes_on v w u s → Goes_on v w u (step s)
goes_step v w u closed s g = record {
  safe = safe_by_step s g.safe;
  service = step_serves s g.safe ∙ g.service;
  runs = step_runs u s g.safe (closed_now v w u s closed g.service) (λ i e. any_so (config_of s) i) g.runs;
}

goes_move : (v : Service) (w : Flow) (u : Runners) → IsRunClosed v w any_act u → (ss : List Signature) (m : Move) (s t : State) → Goes_on v w u s → IsMoved ss anything m s t → Goes_on v w u t
goes_move v w u closed ss (move.Post i) s t g so =
    subst (Goes_on v w u) (sym so) (record { safe = safe_by_posted s g.safe i; service = posted_serves i s ∙ g.service; runs = posted_runs u s i g.runs })
goes_move v w u closed ss move.Step s t g so = by (s.taken == most_steps) so
  where
    with : (c : Option Call) → IsStepWith anything c s t → Goes_on v w u t
    with None e = subst (Goes_on v w u) (sym e) (goes_step v w u closed s g)
    with (Some c) e = subst (Goes_on v w u) (sym e.2) (goes_step v w u closed (told e.0 s) (record { safe = safe_by_told s g.safe e.0; service = g.service; runs = told_runs u s e.0 g.runs }))

    by : (x : Bool) → IsCountedStep x ss anything s t → Goes_on v w u t
    by true e = subst (Goes_on v w u) (sym e) g
    by false e = with (call_next ss s) e

goes_all : (v : Service) (w : Flow) (u : Runners) → IsRunClosed v w any_act u → (ss : List Signature) (ms : List Move) (s t : State) → Goes_on v w u s → IsRun ss anything ms s t → Goes_on v w u t
goes_all v w u closed ss [] s t g so = subst (Goes_on v w u) (sym so) g
goes_all v w u closed ss (m ∷ ms) s t g so = goes_all v w u closed ss ms so.0 t (goes_move v w u closed ss m s so.0 g so.1) so.2

pub begun_runs : (u : Runners) (v : Service) (mjd : ℕ) (fs : List File) → RunsOnly u (begun_with v mjd fs)
begun_runs u v mjd fs = record { objects = (only_fresh u (group_parts v v.start), tt); work = (tt, tt) }

pub never_runs : NeverRuns
never_runs v w k u closed mjd fs ss ms s so =
    (goes_all v w u closed ss ms (begun_with v mjd fs) s (record { safe = safe_by_begun_with v k mjd fs; service = refl; runs = record { objects = (only_fresh u (group_parts v v.start), tt); work = (tt, tt) } }) so).runs
