-- No event is told, or waits, but what is of a closed set.
use Rattle.std.specs.Prelude.{◌≡◌, ℕ, suc, ◌+◌, ◌==◌, ◌&&◌, not, nat_lt, Bool, true, false, if◌then◌else◌, cond, List, [], ◌∷◌, ◌++◌, map, filter, length, drop, reverse, slice_get, Option, Some, None, ℤ, pos, negsuc, int_lt, refl}
use Rattle.std.specs.Option.{is_some}
use Rattle.std.specs.Ordering.{int_eq}
use Rattle.std.proofs.Common.{sym, subst}
use Rattle.mh_base.specs.declared.event.EventType.{EventType}
use Rattle.mh_base.specs.declared.event.EventType.TheVariants as event
use Rattle.mh_base.specs.declared.obj_ref.ObjRef.{ObjRef}
use Rattle.mh_base.specs.declared.value.Value.{Value}
use Rattle.mh_base.specs.declared.value.Value.TheVariants as value
use Rattle.mh_base.specs.Event.{is_sync}
use Rattle.mh_group.specs.declared.action_name.ActionName.{ActionName}
use Rattle.mh_group.specs.declared.action_name.ActionName.TheVariants as action
use Rattle.mh_group.specs.declared.attribute.Attribute.{Attribute}
use Rattle.mh_group.specs.declared.attribute.Attribute.TheVariants as attribute
use Rattle.mh_group.specs.declared.class.Class.{Class}
use Rattle.mh_group.specs.declared.class.Class.TheVariants as class
use Rattle.mh_group.specs.Table.{is_application, is_list_group, is_runnable}
use Rattle.mh_model.specs.declared.act.Act.{Act}
use Rattle.mh_model.specs.declared.event.Event.{Event}
use Rattle.mh_model.specs.declared.fault.Fault.{Fault}
use Rattle.mh_model.specs.declared.file.File.{File}
use Rattle.mh_model.specs.declared.input.Input.{Input}
use Rattle.mh_model.specs.declared.input.Input.TheVariants as input
use Rattle.mh_model.specs.declared.input.Obstacle.{Obstacle}
use Rattle.mh_model.specs.declared.input.Waiting.{Waiting}
use Rattle.mh_model.specs.declared.input.Waiting.TheVariants as waiting
use Rattle.mh_model.specs.declared.interaction.Interaction.{Interaction}
use Rattle.mh_model.specs.declared.item.Item.{Item}
use Rattle.mh_model.specs.declared.item.Item.TheVariants as item
use Rattle.mh_model.specs.declared.key.Key.{Key}
use Rattle.mh_model.specs.declared.key.Key.TheVariants as key
use Rattle.mh_model.specs.declared.object.listing.Entry.{Entry}
use Rattle.mh_model.specs.declared.object.member.Member.{Member}
use Rattle.mh_model.specs.declared.object.Body.{Body}
use Rattle.mh_model.specs.declared.object.Fixed.{Fixed}
use Rattle.mh_model.specs.declared.object.Object.{Object}
use Rattle.mh_model.specs.declared.program.Outcome.{Outcome}
use Rattle.mh_model.specs.declared.sort.Sort.{Sort}
use Rattle.mh_model.specs.declared.sort.Sort.TheVariants as sort
use Rattle.mh_model.specs.Arguments.{receivers, referred, values}
use Rattle.mh_model.specs.Bodies.{text_of}
use Rattle.mh_model.specs.Configuration.{is_group_of}
use Rattle.mh_model.specs.EntryFields.{button_pressed, button_set, button_worked, field_pressed, most_typed, not_pressed, overtyped, pressed_of, put_in, typed}
use Rattle.mh_model.specs.Files.{comes_to, is_loadable}
use Rattle.mh_model.specs.Key.{passes}
use Rattle.std.specs.Ordering.{is_lt}
use Rattle.mh_model.specs.declared.time.Timer.{Timer}
use Rattle.mh_model.specs.Time.{by_due, in_order, is_due, placed, timer_event}
use Rattle.mh_model.specs.Effects.{has_direct_event, is_sending}
use Rattle.mh_model.specs.Faults.{arguments_wrongs}
use Rattle.mh_group.specs.Table.{needs_of}
use Rattle.mh_model.specs.Rules.{begins, begins_or_waits, is_begun, is_input, leads_to_late, stays, transition_rule}
use Rattle.mh_laws.proofs.ActLemmas.{known_now}
use Rattle.mh_laws.proofs.ReadyLemmas.{direct_now, word_of}
use Rattle.mh_model.specs.Groups.{effect_of, entering, group_effect, halts, is_initially_active, is_shared, leaving, quitting, runs, scene_closing, scene_halts}
use Rattle.mh_model.specs.Items.{acts, heard, matches, plain_event}
use Rattle.mh_model.specs.Listed.{Listed}
use Rattle.mh_model.specs.Lifecycle.{drop_items, emit_if, group_halts, group_runs, halt_items, is_available_at, is_unavailable_at, is_unprepared_at, loads_if, members_halted, members_run, prepare_items, rise_items, run_items, running_items, started_items, stopping_items, token_told}
use Rattle.mh_group.specs.Same.{are_same}
use Rattle.mh_model.specs.Lists.{other_marked, unmark_items, Shown, count_told, halted_members, is_shown, list_changed, list_events, list_items, list_worked, nothing_shown, relisted, run_members, selection_at, selection_by, selection_wanted, selection_worked, shows, truth_told}
use Rattle.mh_model.specs.declared.act.Argument.{Argument}
use Rattle.mh_model.specs.Programs.{counted}
use Rattle.mh_model.specs.Property.{as_effect, held}
use Rattle.mh_model.specs.Reference.{group_ref}
use Rattle.mh_model.specs.Rules.{act_on, application_exchanged, interact_rule, load_rule, loaded_with, rule, rule_by, scene_exchanged, way_out, whole_rule, widget_at}
use Rattle.std.specs.List.{cons_option}
use Rattle.mh_model.specs.declared.act.Argument.TheVariants as argument
use Rattle.mh_model.specs.declared.operator.Operator.{Operator}
use Rattle.mh_model.specs.Arguments.{value_in}
use Rattle.mh_model.specs.Property.{value_held}
use Rattle.mh_model.specs.Variables.{operator_of, test}
use Rattle.mh_laws.specs.Costs.{data_sent}
use Rattle.mh_laws.specs.Ways.{IsKnown}
use Rattle.mh_laws.proofs.ShareLemmas.{IsWord, known_sent}
use Rattle.mh_model.specs.Saying.{event_numbered, sent, tested, call_items, interaction_items, load_items, put_items, put_items_at}
use Rattle.mh_model.specs.Service.{Service, group_parts, object_at, part_at, with_parts}
use Rattle.mh_model.specs.Sort.{sort_of}
use Rattle.mh_model.specs.State.{State, all}
use Rattle.mh_model.specs.Step.{awaits, scene_arrived, content_event, contents_told, is_streaming, is_waiting, stream_event, streams_told, timers_fired, engine_event, key_event, register_of, did, key_items, key_taken, obstacle, posted, posted_by, pressed_at, step, step_by, taking}
use Rattle.mh_model.specs.Tokens.{slot_of, can_turn, members, slot_items, token_wanted, turned}
use Rattle.mh_model.specs.Widget.{Worked, event_with, no_work}
use Rattle.mh_model.specs.Worked.{is_interacting, worked}
use Rattle.mh_laws.specs.Each.{Each}
use Rattle.mh_laws.specs.Flow.{Flow}
use Rattle.mh_laws.specs.Headline.{begun_with}
use Rattle.mh_never.specs.Never.{IsSo}
use Rattle.mh_never.specs.Running.{Doings}
use Rattle.mh_never.specs.Saying.{IsSaidClosed, IsSaidIn, IsWaitIn, Sayings, event_by, is_usual}
use Rattle.mh_laws.specs.Safe.{IsFine, IsSafeBy, IsSafeItem, config_of}
use Rattle.mh_model.proofs.ListLemmas.{some_same}
use Rattle.mh_model.specs.Receiver.{told}
use Rattle.mh_laws.proofs.ActLemmas.{IsSound}
use Rattle.mh_laws.proofs.ReadyLemmas.{first_item, free_first, sound_now}
use Rattle.mh_laws.proofs.EachLemmas.{each_joined}

abbrev AreSaidIn : Sayings → List Item → Type 0
AreSaidIn u is = Each (IsSaidIn u) is

-- what will be told and what waits is of the set
pub record Emits (u : Sayings) (s : State) : Type 0 where
  pub work : AreSaidIn u s.work
  pub queue : Each (IsWaitIn u) s.queue

abbrev pub IsTimerIn : Sayings → Timer → Type 0
IsTimerIn u t = u (timer_event t) ≡ true

-- what is said in the usual way is of the set
abbrev SaysUsual : Sayings → Type 0
SaysUsual u = (r : ObjRef) (kind : EventType) (d : Option Value) → is_usual kind d ≡ true → u (event_by r kind d) ≡ true

emit_if_said : (u : Sayings) → SaysUsual u → (b : Bool) (r : ObjRef) (kind : EventType) → is_usual kind None ≡ true → AreSaidIn u (emit_if b r kind)
emit_if_said u k true r kind is = (k r kind None is, tt)
emit_if_said u k false r kind is = tt

rise_said : (u : Sayings) → SaysUsual u → (fs : List File) (becomes : Option Object → Bool) (r : ObjRef) (m : Option Object) → AreSaidIn u (rise_items fs becomes r m)
rise_said u k fs becomes r m =
    each_joined (IsSaidIn u) (emit_if (becomes m) r event.IsAvailable) (emit_if (loads_if fs becomes m) r event.ContentAvailable)
    (emit_if_said u k (becomes m) r event.IsAvailable refl) (emit_if_said u k (loads_if fs becomes m) r event.ContentAvailable refl)

acts_said : (u : Sayings) (e : List Act) → AreSaidIn u (acts e)
acts_said u [] = tt
acts_said u (a ∷ e) = (tt, acts_said u e)

heard_said : (u : Sayings) (e : Event) (os : List Object) → AreSaidIn u (heard e os)
heard_said u e [] = tt
heard_said u e (o ∷ os) =
    each_joined (IsSaidIn u) (if matches e o then acts done else []) (heard e os) (by (matches e o)) (heard_said u e os)
  where
    done : List Act
    done = as_effect (held attribute.LinkEffect o.fixed.properties)

    by : (b : Bool) → AreSaidIn u (if b then acts done else [])
    by true = acts_said u done
    by false = tt

halts_said : (u : Sayings) (ps : List Fixed) → AreSaidIn u (halts ps)
halts_said u [] = tt
halts_said u (p ∷ ps) = (tt, halts_said u ps)

runs_said : (u : Sayings) (ps : List Fixed) → AreSaidIn u (runs ps)
runs_said u [] = tt
runs_said u (p ∷ ps) = (tt, runs_said u ps)

effect_said : (u : Sayings) (m : Option Fixed) (a : Attribute) → AreSaidIn u (effect_of m a)
effect_said u None a = tt
effect_said u (Some p) a = acts_said u (as_effect (held a p.properties))

members_halted_said : (u : Sayings) (ms : List Member) → AreSaidIn u (members_halted ms)
members_halted_said u [] = tt
members_halted_said u (m ∷ ms) = (tt, members_halted_said u ms)

members_run_said : (u : Sayings) (ms : List Member) → AreSaidIn u (members_run ms)
members_run_said u [] = tt
members_run_said u (m ∷ ms) = (tt, members_run_said u ms)

halted_said : (u : Sayings) (xs : List ObjRef) (p : ObjRef → Bool) → AreSaidIn u (map item.HaltMember (filter p xs))
halted_said u [] p = tt
halted_said u (x ∷ xs) p = by (p x) (halted_said u xs p)
  where
    by : (b : Bool) → AreSaidIn u (map item.HaltMember (filter p xs)) → AreSaidIn u (map item.HaltMember (cond b (x ∷ filter p xs) (filter p xs)))
    by true below = (tt, below)
    by false below = below

run_said : (u : Sayings) (xs : List ObjRef) (p : ObjRef → Bool) → AreSaidIn u (map item.RunMember (filter p xs))
run_said u [] p = tt
run_said u (x ∷ xs) p = by (p x) (run_said u xs p)
  where
    by : (b : Bool) → AreSaidIn u (map item.RunMember (filter p xs)) → AreSaidIn u (map item.RunMember (cond b (x ∷ filter p xs) (filter p xs)))
    by true below = (tt, below)
    by false below = below

told_said : (u : Sayings) → SaysUsual u → (b : Bool) (r : ObjRef) (kind : EventType) (x : Value) → is_usual kind (Some x) ≡ true → AreSaidIn u (if b then [] else event_with r kind x ∷ [])
told_said u k true r kind x is = tt
told_said u k false r kind x is = (k r kind (Some x) is, tt)

list_events_said : (u : Sayings) → SaysUsual u → (r : ObjRef) (a b : Shown) → AreSaidIn u (list_events r a b)
list_events_said u k r a b =
    let first = truth_told event.FirstItemPresented r a.has_first b.has_first in
    let last = truth_told event.LastItemPresented r a.has_last b.has_last in
    let head = count_told event.HeadItems r a.head b.head in
    let tail = count_told event.TailItems r a.tail b.tail in
    each_joined (IsSaidIn u) (first ++ last ++ head) tail
    (each_joined (IsSaidIn u) (first ++ last) head
    (each_joined (IsSaidIn u) first last (told_said u k (are_same a.has_first b.has_first) r event.FirstItemPresented (value.Bool b.has_first) refl) (told_said u k (are_same a.has_last b.has_last) r event.LastItemPresented (value.Bool b.has_last) refl))
    (told_said u k (a.head == b.head) r event.HeadItems (value.Int (counted b.head)) refl))
    (told_said u k (a.tail == b.tail) r event.TailItems (value.Int (counted b.tail)) refl)

list_items_said : (u : Sayings) → SaysUsual u → (r : ObjRef) (a b : Shown) → AreSaidIn u (list_items r a b)
list_items_said u k r a b =
    each_joined (IsSaidIn u) (halted_members a.items b.items ++ run_members a.items b.items) (list_events r a b)
    (each_joined (IsSaidIn u) (halted_members a.items b.items) (run_members a.items b.items) (halted_said u a.items (λ x. not (is_shown x b.items))) (run_said u b.items (λ x. not (is_shown x a.items))))
    (list_events_said u k r a b)

-- Life

group_runs_said : (u : Sayings) → SaysUsual u → (c : Class) (r : ObjRef) (o : Object) → AreSaidIn u (group_runs c r o)
group_runs_said u k class.TokenGroup r o = members_run_said u (members o.fixed)
group_runs_said u k class.ListGroup r o = list_items_said u k r nothing_shown (shows true o.fixed o.body.list)
group_runs_said u k _ r o = tt

token_told_said : (u : Sayings) → SaysUsual u → (c : Class) (r : ObjRef) → AreSaidIn u (token_told c r)
token_told_said u k class.TokenGroup r = (k r event.TokenMovedTo (Some (value.Int (pos 1))) refl, tt)
token_told_said u k _ r = tt

started_said : (u : Sayings) → SaysUsual u → (r : ObjRef) (m : Option Object) → AreSaidIn u (started_items r m)
started_said u k r None = tt
started_said u k r (Some o) = if_stopped o.body.running
  where
    if_stopped : (b : Bool) → AreSaidIn u (if b then [] else running_items r o)
    if_stopped true = tt
    if_stopped false =
        each_joined (IsSaidIn u) (group_runs o.fixed.class r o) (plain_event r event.IsRunning ∷ token_told o.fixed.class r)
        (group_runs_said u k o.fixed.class r o) (k r event.IsRunning None refl, token_told_said u k o.fixed.class r)

group_halts_said : (u : Sayings) (c : Class) (o : Object) → AreSaidIn u (group_halts c o)
group_halts_said u class.TokenGroup o = members_halted_said u (members o.fixed)
group_halts_said u class.ListGroup o = halted_said u (shows o.body.running o.fixed o.body.list).items (λ x. not (is_shown x []))
group_halts_said u _ o = tt

halt_said : (u : Sayings) → SaysUsual u → (r : ObjRef) (m : Option Object) → AreSaidIn u (halt_items r m)
halt_said u k r None = tt
halt_said u k r (Some o) = by o.body.running
  where
    by : (b : Bool) → AreSaidIn u (if b then stopping_items r o else [])
    by true = each_joined (IsSaidIn u) (group_halts o.fixed.class o) (plain_event r event.IsStopped ∷ []) (group_halts_said u o.fixed.class o) (k r event.IsStopped None refl, tt)
    by false = tt

-- Groups

entering_said : (u : Sayings) → SaysUsual u → (g : List ℕ) (ps : List Fixed) → AreSaidIn u (entering g ps)
entering_said u k g ps =
    each_joined (IsSaidIn u) (group_effect g ps attribute.OnStartUp ++ runs (filter is_initially_active ps)) (plain_event (group_ref g) event.IsRunning ∷ [])
    (each_joined (IsSaidIn u) (group_effect g ps attribute.OnStartUp) (runs (filter is_initially_active ps))
    (effect_said u (part_at (group_ref g) ps) attribute.OnStartUp) (runs_said u (filter is_initially_active ps))) (k (group_ref g) event.IsRunning None refl, tt)

closing_said : (u : Sayings) (m : Option (List ℕ × List Fixed)) → AreSaidIn u (scene_closing m)
closing_said u None = tt
closing_said u (Some (g, ps)) = effect_said u (part_at (group_ref g) ps) attribute.OnCloseDown

scene_halts_said : (u : Sayings) (m : Option (List ℕ × List Fixed)) → AreSaidIn u (scene_halts m)
scene_halts_said u None = tt
scene_halts_said u (Some (g, ps)) = halts_said u (filter (λ p. is_runnable p.class) (reverse ps))

leaving_said : (u : Sayings) (ps : List Fixed) (m : Option (List ℕ × List Fixed)) (g : List ℕ) → AreSaidIn u (leaving ps m g)
leaving_said u ps m g =
    let stopped : List Fixed = filter (λ p. is_runnable p.class && not (is_shared p)) (reverse ps) in
    each_joined (IsSaidIn u) (scene_closing m ++ scene_halts m ++ halts stopped) (item.Exchange g ∷ [])
    (each_joined (IsSaidIn u) (scene_closing m ++ scene_halts m) (halts stopped) (each_joined (IsSaidIn u) (scene_closing m) (scene_halts m) (closing_said u m) (scene_halts_said u m)) (halts_said u stopped)) (tt, tt)

quitting_said : (u : Sayings) (g : List ℕ) (ps : List Fixed) (m : Option (List ℕ × List Fixed)) (last : Item) → IsSaidIn u last → AreSaidIn u (quitting g ps m last)
quitting_said u g ps m last h =
    let stopped : List Fixed = filter (λ p. is_runnable p.class) (reverse ps) in
    let down : List Item = group_effect g ps attribute.OnCloseDown in
    each_joined (IsSaidIn u) (scene_closing m ++ down ++ scene_halts m ++ halts stopped) (last ∷ [])
    (each_joined (IsSaidIn u) (scene_closing m ++ down ++ scene_halts m) (halts stopped)
    (each_joined (IsSaidIn u) (scene_closing m ++ down) (scene_halts m) (each_joined (IsSaidIn u) (scene_closing m) down (closing_said u m) (effect_said u (part_at (group_ref g) ps) attribute.OnCloseDown)) (scene_halts_said u m)) (halts_said u stopped)) (h, tt)

out_said : (u : Sayings) (n : ActionName) (r : ObjRef) (s : State) → AreSaidIn u (way_out n r s)
out_said u action.TransitionTo r s = leaving_said u (group_parts s.service s.application) (with_parts s.service s.scene) r.group
out_said u action.Launch r s = quitting_said u s.application (group_parts s.service s.application) (with_parts s.service s.scene) (item.Exchange r.group) tt
out_said u _ r s = quitting_said u s.application (group_parts s.service s.application) (with_parts s.service s.scene) item.End tt

-- Widgets

list_changed_said : (u : Sayings) → SaysUsual u → (r : ObjRef) (p : Fixed) (b : Body) (m : Option Listed) → AreSaidIn u (list_changed r p b m).items
list_changed_said u k r p b None = tt
list_changed_said u k r p b (Some l) = list_items_said u k r (shows b.running p b.list) (shows b.running p l)

only_if_said : (u : Sayings) (t : Bool) (b : Body) (w : Worked) → AreSaidIn u w.items → AreSaidIn u (if t then w else no_work b).items
only_if_said u true b w h = h
only_if_said u false b w h = tt

unless_said : (u : Sayings) (t : Bool) (b : Body) (w : Worked) → AreSaidIn u w.items → AreSaidIn u (if t then no_work b else w).items
unless_said u true b w h = tt
unless_said u false b w h = h

unmark_said : (u : Sayings) → SaysUsual u → (r : ObjRef) (m : Option ℕ) → AreSaidIn u (unmark_items r m)
unmark_said u k r None = tt
unmark_said u k r (Some n) = (k r event.ItemDeselected (Some (value.Int (counted (n + 1)))) refl, tt)

selected_said : (u : Sayings) → SaysUsual u → (want now : Bool) (n : ℕ) (r : ObjRef) (p : Fixed) (b : Body) → AreSaidIn u (selection_by want now n r p b).items
selected_said u k true false n r p b =
    each_joined (IsSaidIn u) (unmark_items r (other_marked p b.list.entries)) (event_with r event.ItemSelected (value.Int (counted (n + 1))) ∷ [])
    (unmark_said u k r (other_marked p b.list.entries)) (k r event.ItemSelected (Some (value.Int (counted (n + 1)))) refl, tt)
selected_said u k false true n r p b = (k r event.ItemDeselected (Some (value.Int (counted (n + 1)))) refl, tt)
selected_said u k true true n r p b = tt
selected_said u k false false n r p b = tt

selection_said : (u : Sayings) → SaysUsual u → (m : ActionName) (vs : List Value) (r : ObjRef) (p : Fixed) (b : Body) → AreSaidIn u (selection_worked m vs r p b).items
selection_said u k m (value.Int (pos (suc n)) ∷ []) r p b = by (slice_get b.list.entries n)
  where
    by : (e : Option Entry) → AreSaidIn u (selection_at m n e r p b).items
    by None = tt
    by (Some e) = selected_said u k (selection_wanted m e.selected) e.selected n r p b
selection_said u k m _ r p b = tt

turned_said : (u : Sayings) → SaysUsual u → (r : ObjRef) (p : Fixed) (b : Body) (m : Option ℤ) → AreSaidIn u (turned r p b m).items
turned_said u k r p b None = tt
turned_said u k r p b (Some (negsuc n)) = tt
turned_said u k r p b (Some (pos n)) =
    only_if_said u (can_turn p b n) b (record { body = record b { token = n }; placed = []; items = event_with r event.TokenMovedFrom (value.Int (counted b.token)) ∷ event_with r event.TokenMovedTo (value.Int (counted n)) ∷ [] })
    (k r event.TokenMovedFrom (Some (value.Int (counted b.token))) refl, (k r event.TokenMovedTo (Some (value.Int (counted n))) refl, tt))

lit : (u : Sayings) → SaysUsual u → (r : ObjRef) (on : Bool) → u (event_by r (if on then event.HighlightOn else event.HighlightOff) None) ≡ true
lit u k r true = k r event.HighlightOn None refl
lit u k r false = k r event.HighlightOff None refl

chosen : (u : Sayings) → SaysUsual u → (r : ObjRef) (on : Bool) → u (event_by r (if on then event.IsSelected else event.IsDeselected) None) ≡ true
chosen u k r true = k r event.IsSelected None refl
chosen u k r false = k r event.IsDeselected None refl

button_set_said : (u : Sayings) → SaysUsual u → (on : Bool) (r : ObjRef) (b : Body) → AreSaidIn u (button_set on r b).items
button_set_said u k on r b = unless_said u (are_same b.selected on) b (record { body = record b { selected = on }; placed = []; items = plain_event r (if on then event.IsSelected else event.IsDeselected) ∷ [] }) (chosen u k r on, tt)

button_said : (u : Sayings) → SaysUsual u → (n : ActionName) (vs : List Value) (r : ObjRef) (p : Fixed) (b : Body) → AreSaidIn u (button_worked n vs r p b).items
button_said u k action.SetHighlightStatus (value.Bool on ∷ []) r p b = unless_said u (are_same b.highlighted on) b (record { body = record b { highlighted = on }; placed = []; items = plain_event r (if on then event.HighlightOn else event.HighlightOff) ∷ [] }) (lit u k r on, tt)
button_said u k action.Select vs r p b = button_set_said u k true r b
button_said u k action.Deselect vs r p b = button_set_said u k false r b
button_said u k _ vs r p b = tt

worked_said : (u : Sayings) → SaysUsual u → (n : ActionName) (vs : List Value) (r : ObjRef) (p : Fixed) (b : Body) → AreSaidIn u (worked n vs r p b).items
worked_said u k action.Move vs r p b = turned_said u k r p b (token_wanted action.Move vs p b)
worked_said u k action.MoveTo vs r p b = turned_said u k r p b (token_wanted action.MoveTo vs p b)
worked_said u k action.AddItem vs r p b = only_if_said u (is_list_group p.class) b (list_worked action.AddItem vs r p b) (list_changed_said u k r p b (relisted action.AddItem vs p b.list))
worked_said u k action.DelItem vs r p b = only_if_said u (is_list_group p.class) b (list_worked action.DelItem vs r p b) (list_changed_said u k r p b (relisted action.DelItem vs p b.list))
worked_said u k action.ScrollItems vs r p b = only_if_said u (is_list_group p.class) b (list_worked action.ScrollItems vs r p b) (list_changed_said u k r p b (relisted action.ScrollItems vs p b.list))
worked_said u k action.SetFirstItem vs r p b = only_if_said u (is_list_group p.class) b (list_worked action.SetFirstItem vs r p b) (list_changed_said u k r p b (relisted action.SetFirstItem vs p b.list))
worked_said u k action.SelectItem vs r p b = selection_said u k action.SelectItem vs r p b
worked_said u k action.DeselectItem vs r p b = selection_said u k action.DeselectItem vs r p b
worked_said u k action.ToggleItem vs r p b = selection_said u k action.ToggleItem vs r p b
worked_said u k action.SetHighlightStatus vs r p b = button_said u k action.SetHighlightStatus vs r p b
worked_said u k action.Select vs r p b = button_said u k action.Select vs r p b
worked_said u k action.Deselect vs r p b = button_said u k action.Deselect vs r p b
worked_said u k _ vs r p b = tt

-- What is put

tested_said : (u : Sayings) → SaysUsual u → (r : ObjRef) (o : Option Operator) (x : Option Value) (v : Value) → AreSaidIn u (tested r o x v)
tested_said u k r (Some o) (Some x) v = (k r event.TestEvent (Some (value.Bool (test o x v))) refl, tt)
tested_said u k r None x v = tt
tested_said u k r (Some o) None v = tt

slots_said : (u : Sayings) (vs : List Value) (p : Fixed) (b : Body) → AreSaidIn u (slot_items vs p b)
slots_said u (value.Int (pos n) ∷ []) p b = acts_said u (slot_of n p b)
slots_said u _ p b = tt

-- all but what is sent
put_said : (u : Sayings) → SaysUsual u → (n : ActionName) (vs : List Value) (r : ObjRef) (o : Object) → (n ≡ action.SendEvent → AreSaidIn u (put_items n vs r o)) → AreSaidIn u (put_items n vs r o)
put_said u k action.Run vs r o sent = (tt, tt)
put_said u k action.Stop vs r o sent = (tt, tt)
put_said u k action.Preload vs r o sent = (tt, tt)
put_said u k action.Unload vs r o sent = (tt, (tt, tt))
put_said u k action.Activate vs r o sent = (tt, tt)
put_said u k action.Deactivate vs r o sent = (tt, tt)
put_said u k action.SendEvent vs r o sent = sent refl
put_said u k action.TestVariable (value.Int n ∷ v ∷ []) r o sent = tested_said u k r (operator_of n) (value_held o.fixed o.body) v
put_said u k action.CallActionSlot vs r o sent = slots_said u vs o.fixed o.body
put_said u k _ _ r o sent = tt

sent_said : (u : Sayings) (os : List Object) (xs : List Argument) (r : ObjRef) (o : Object) → IsWord xs → ((x : Argument) (n : ℤ) (more : List Argument) → xs ≡ x ∷ argument.Direct (value.Int n) ∷ more → (kind : EventType) → event_numbered n ≡ Some kind → (q : ObjRef) (d : Option Value) → IsKnown (data_sent more) d → u (event_by q kind d) ≡ true) → AreSaidIn u (put_items action.SendEvent (values os xs) r o)
sent_said u os [] r o word to = tt
sent_said u os (x ∷ []) r o word to = by (value_in os x)
  where
    by : (m : Option Value) → AreSaidIn u (put_items action.SendEvent (cons_option m []) r o)
    by None = tt
    by (Some (value.Object q)) = tt
    by (Some (value.Bool b)) = tt
    by (Some (value.Int n)) = tt
    by (Some (value.Octets b)) = tt
    by (Some (value.Content b)) = tt
sent_said u os (x ∷ argument.Direct (value.Int n) ∷ more) r o word to = by (value_in os x)
  where
    one : (q : ObjRef) (m : Option EventType) → event_numbered n ≡ m → AreSaidIn u (sent q m (values os more))
    one q None e = tt
    one q (Some kind) e = (to x n more refl kind e q (slice_get (values os more) 0) (known_sent os more), tt)

    by : (m : Option Value) → AreSaidIn u (put_items action.SendEvent (cons_option m (value.Int n ∷ values os more)) r o)
    by None = tt
    by (Some (value.Object q)) = one q (event_numbered n) refl
    by (Some (value.Bool b)) = tt
    by (Some (value.Int b)) = tt
    by (Some (value.Octets b)) = tt
    by (Some (value.Content b)) = tt
sent_said u os _ r o word to = absurd cc

-- RULES. Here `rest` is the work behind the item, and `n` the number of steps.

if_said : (u : Sayings) (t : Bool) (is js : List Item) → AreSaidIn u is → AreSaidIn u js → AreSaidIn u (if t then is else js)
if_said u true is js h k = h
if_said u false is js h k = k

load_items_said : (u : Sayings) → SaysUsual u → (fs : List File) (vs : List Value) (r : ObjRef) (m : Option Object) → AreSaidIn u (load_items fs vs r m)
load_items_said u k fs [] r m = tt
load_items_said u k fs (v ∷ []) r m = emit_if_said u k (is_loadable v && is_available_at m && is_some (comes_to fs v)) r event.ContentAvailable refl
load_items_said u k fs (v ∷ x ∷ vs) r m = tt

load_says : (u : Sayings) → SaysUsual u → (s : State) (vs : List Value) (r : ObjRef) → Emits u s → Emits u (load_rule vs r s)
load_says u k s [] r h = h
load_says u k s (v ∷ x ∷ vs) r h = h
load_says u k s (v ∷ []) r h = by (is_loadable v)
  where
    by : (t : Bool) → Emits u (if t then loaded_with v r s else s)
    by true = record {
      work = each_joined (IsSaidIn u) (load_items s.files (v ∷ []) r (object_at r (all s.objects))) s.work (load_items_said u k s.files (v ∷ []) r (object_at r (all s.objects))) h.work;
      queue = h.queue;
    }
    by false = h

call_items_said : (u : Sayings) → SaysUsual u → (n : ActionName) (r : ObjRef) → AreSaidIn u (call_items n r)
call_items_said u k action.Fork r = (k r event.AsyncStopped None refl, tt)
call_items_said u k _ r = tt

interaction_said : (u : Sayings) → SaysUsual u → (vs : List Value) (b : Bool) (r : ObjRef) → AreSaidIn u (interaction_items vs b r)
interaction_said u k (value.Bool false ∷ []) true r = (k r event.InteractionCompleted None refl, tt)
interaction_said u k _ b r = tt

interact_says : (u : Sayings) → SaysUsual u → (s : State) (n : ActionName) (vs : List Value) (rs : List ObjRef) (r : ObjRef) → Emits u s → Emits u (interact_rule n vs rs r s)
interact_says u k s action.SetInteractionStatus vs rs r h = record {
  work = each_joined (IsSaidIn u) (interaction_items vs (is_interacting r s.interaction) r) s.work (interaction_said u k vs (is_interacting r s.interaction) r) h.work;
  queue = h.queue;
}
interact_says u k s action.GetInteractionStatus vs rs r h = record { work = h.work; queue = h.queue }
interact_says u k s _ vs rs r h = h

transition_says : (u : Sayings) (n : ActionName) (r : ObjRef) (s : State) → Emits u s → Emits u (transition_rule n r s)
transition_says u n r s h = by (is_begun s.transition) (leads_to_late n r s)
  where
    by : (begun late : Bool) → Emits u (if begun then s else begins_or_waits late n r s)
    by true late = h
    by false true = record { work = h.work; queue = h.queue }
    by false false = record { work = out_said u n r s; queue = h.queue }

whole_says : (u : Sayings) (s : State) (n : ActionName) (vs : List Value) (r : ObjRef) → Emits u s → Emits u (whole_rule n vs r s)
whole_says u s action.TransitionTo vs r h = transition_says u action.TransitionTo r s h
whole_says u s action.Launch vs r h = transition_says u action.Launch r s h
whole_says u s action.Quit vs r h = transition_says u action.Quit r s h
whole_says u s action.LockScreen vs r h = record { work = h.work; queue = h.queue }
whole_says u s action.UnlockScreen vs r h = record { work = h.work; queue = h.queue }
whole_says u s action.SetTimer vs r h = record { work = h.work; queue = h.queue }
whole_says u s _ vs r h = h

usual_of : {q : Doings} (v : Service) (w : Flow) (u : Sayings) → IsSaidClosed v w q u → SaysUsual u
usual_of v w u closed r kind d is = closed.usual r kind d is

-- what is sent
sent_now : {fw : Flow} {q : Doings} (u : Sayings) (s : State) (k : IsSafeBy fw s) → IsSaidClosed s.service fw q u → (a : Act) (r : ObjRef) (o : Object) → IsSound fw s k a r → q (config_of s) a ≡ true → a.name ≡ action.SendEvent → AreSaidIn u (put_items a.name (values (all s.objects) a.arguments) r o)
sent_now {fw} u s k closed a r o so may named =
    let direct : has_direct_event (needs_of action.SendEvent) a.arguments ≡ true = subst (λ (n : ActionName). (if is_sending n then has_direct_event (needs_of n) a.arguments else true) ≡ true) named (direct_now s k a so.fine) in
    let good : arguments_wrongs (known_now s) (record a { name = action.SendEvent }) (needs_of action.SendEvent) a.arguments ≡ [] = subst (λ (n : ActionName). arguments_wrongs (known_now s) (record a { name = n }) (needs_of n) a.arguments ≡ []) named so.good in
    let word = word_of (known_now s) (record a { name = action.SendEvent }) a.arguments direct good in
    subst (λ (n : ActionName). AreSaidIn u (put_items n (values (all s.objects) a.arguments) r o)) (sym named)
    (sent_said u (all s.objects) a.arguments r o word (λ x n more e kind is q d known. closed.sent (config_of s) k.among a (so.fine).active may named x n more e kind is q d known))

sort_says : {fw : Flow} {q : Doings} (u : Sayings) (s : State) (k : IsSafeBy fw s) → IsSaidClosed s.service fw q u → (a : Act) (r : ObjRef) → IsSound fw s k a r → q (config_of s) a ≡ true → (rest : List Item) (n : ℕ) → AreSaidIn u rest → Each (IsWaitIn u) s.queue → (o : Sort) → sort_of a.name ≡ o → Emits u (rule_by o a.name a.arguments r (record s { work = rest; taken = n }))
sort_says {fw} u s k closed a r so may rest n behind_it waits sort.Change same = record { work = behind_it; queue = waits }
sort_says {fw} u s k closed a r so may rest n behind_it waits sort.Ask same = record { work = behind_it; queue = waits }
sort_says {fw} u s k closed a r so may rest n behind_it waits sort.Put same = record { work = by (object_at r (all s.objects)); queue = waits }
  where
    vs : List Value
    vs = values (all s.objects) a.arguments

    by : (m : Option Object) → AreSaidIn u (put_items_at a.name vs r m ++ rest)
    by None = behind_it
    by (Some o) = each_joined (IsSaidIn u) (put_items a.name vs r o) rest (put_said u (usual_of s.service fw u closed) a.name vs r o (λ named. sent_now u s k closed a r o so may named)) behind_it
sort_says {fw} u s k closed a r so may rest n behind_it waits sort.Load same = load_says u (usual_of s.service fw u closed) (record s { work = rest; taken = n }) (values (all s.objects) a.arguments) r (record { work = behind_it; queue = waits })
sort_says {fw} u s k closed a r so may rest n behind_it waits sort.Call same =
    record { work = each_joined (IsSaidIn u) (call_items a.name r) rest (call_items_said u (usual_of s.service fw u closed) a.name r) behind_it; queue = waits }
sort_says {fw} u s k closed a r so may rest n behind_it waits sort.Order same = record { work = behind_it; queue = waits }
sort_says {fw} u s k closed a r so may rest n behind_it waits sort.Widget same = by (object_at r (all s.objects))
  where
    vs : List Value
    vs = values (all s.objects) a.arguments

    by : (m : Option Object) → Emits u (widget_at a.name vs r m (record s { work = rest; taken = n }))
    by None = record { work = behind_it; queue = waits }
    by (Some o) = record { work = each_joined (IsSaidIn u) (worked a.name vs r o.fixed o.body).items rest (worked_said u (usual_of s.service fw u closed) a.name vs r o.fixed o.body) behind_it; queue = waits }
sort_says {fw} u s k closed a r so may rest n behind_it waits sort.Interact same = interact_says u (usual_of s.service fw u closed) (record s { work = rest; taken = n }) a.name (values (all s.objects) a.arguments) (receivers a.arguments) r (record { work = behind_it; queue = waits })
sort_says {fw} u s k closed a r so may rest n behind_it waits sort.Whole same = whole_says u (record s { work = rest; taken = n }) a.name (values (all s.objects) a.arguments) r (record { work = behind_it; queue = waits })

act_says : {fw : Flow} {q : Doings} (u : Sayings) (s : State) (k : IsSafeBy fw s) → IsSaidClosed s.service fw q u → (a : Act) → IsFine s.service fw (config_of s) a → q (config_of s) a ≡ true → (rest : List Item) (n : ℕ) → AreSaidIn u rest → Each (IsWaitIn u) s.queue → Emits u (rule (item.Act a) (record s { work = rest; taken = n }))
act_says {fw} u s k closed a fine may rest n behind_it waits = by (referred a.target (all s.objects)) refl
  where
    by : (m : Option ObjRef) → referred a.target (all s.objects) ≡ m → Emits u (act_on m a.name a.arguments (record s { work = rest; taken = n }))
    by None e = record { work = behind_it; queue = waits }
    by (Some r) e = sort_says u s k closed a r (sound_now s k a fine r e) may rest n behind_it waits (sort_of a.name) refl

-- what stays of a queue is of the set
stays_in : (u : Sayings) (p : Waiting → Bool) (ws : List Waiting) → Each (IsWaitIn u) ws → Each (IsWaitIn u) (filter p ws)
stays_in u p [] h = tt
stays_in u p (x ∷ ws) h = by (p x) (stays_in u p ws h.1)
  where
    by : (b : Bool) → Each (IsWaitIn u) (filter p ws) → Each (IsWaitIn u) (cond b (x ∷ filter p ws) (filter p ws))
    by true below = (h.0, below)
    by false below = below

run_work_said : (u : Sayings) → SaysUsual u → (s : State) (r : ObjRef) (rest : List Item) → AreSaidIn u rest → AreSaidIn u (run_items s.files r (object_at r (all s.objects)) ++ rest)
run_work_said u k s r rest behind_it =
    each_joined (IsSaidIn u) (run_items s.files r (object_at r (all s.objects))) rest
    (each_joined (IsSaidIn u) (rise_items s.files is_unprepared_at r (object_at r (all s.objects))) (started_items r (object_at r (all s.objects))) (rise_said u k s.files is_unprepared_at r (object_at r (all s.objects))) (started_said u k r (object_at r (all s.objects)))) behind_it

rule_says : {fw : Flow} {q : Doings} (u : Sayings) (s : State) (k : IsSafeBy fw s) → IsSaidClosed s.service fw q u → (i : Item) → IsSafeItem s.service fw (config_of s) i → IsSo q (config_of s) i → IsSaidIn u i → (rest : List Item) (n : ℕ) → AreSaidIn u rest → Each (IsWaitIn u) s.queue → Emits u (rule i (record s { work = rest; taken = n }))
rule_says {fw} u s k closed (item.Act a) safe may is rest n behind_it waits = act_says u s k closed a safe may rest n behind_it waits
rule_says {fw} u s k closed (item.Prepare r) safe may is rest n behind_it waits = record { work = each_joined (IsSaidIn u) (prepare_items s.files r (object_at r (all s.objects))) rest (rise_said u (usual_of s.service fw u closed) s.files is_unavailable_at r (object_at r (all s.objects))) behind_it; queue = waits }
rule_says {fw} u s k closed (item.Run r) safe may is rest n behind_it waits = record { work = run_work_said u (usual_of s.service fw u closed) s r rest behind_it; queue = waits }
rule_says {fw} u s k closed (item.RunMember r) safe may is rest n behind_it waits = record { work = run_work_said u (usual_of s.service fw u closed) s r rest behind_it; queue = waits }
rule_says {fw} u s k closed (item.Halt r) safe may is rest n behind_it waits = record { work = each_joined (IsSaidIn u) (halt_items r (object_at r (all s.objects))) rest (halt_said u (usual_of s.service fw u closed) r (object_at r (all s.objects))) behind_it; queue = waits }
rule_says {fw} u s k closed (item.HaltMember r) safe may is rest n behind_it waits = record { work = each_joined (IsSaidIn u) (halt_items r (object_at r (all s.objects))) rest (halt_said u (usual_of s.service fw u closed) r (object_at r (all s.objects))) behind_it; queue = waits }
rule_says {fw} u s k closed (item.Drop r) safe may is rest n behind_it waits = record { work = each_joined (IsSaidIn u) (drop_items r (object_at r (all s.objects))) rest (emit_if_said u (usual_of s.service fw u closed) (is_available_at (object_at r (all s.objects))) r event.IsDeleted refl) behind_it; queue = waits }
rule_says {fw} u s k closed (item.Emit e) safe may is rest n behind_it waits = by (is_sync e.kind)
  where
    by : (t : Bool) → Emits u (if t then record s { work = heard e (all s.objects) ++ rest; taken = n } else record s { queue = s.queue ++ waiting.Event e ∷ []; work = rest; taken = n })
    by true = record { work = each_joined (IsSaidIn u) (heard e (all s.objects)) rest (heard_said u e (all s.objects)) behind_it; queue = waits }
    by false = record { work = behind_it; queue = each_joined (IsWaitIn u) s.queue (waiting.Event e ∷ []) waits (is, tt) }
rule_says {fw} u s k closed (item.Enter g) safe may is rest n behind_it waits =
    record { work = each_joined (IsSaidIn u) (entering g (group_parts s.service g)) rest (entering_said u (usual_of s.service fw u closed) g (group_parts s.service g)) behind_it; queue = waits }
rule_says {fw} u s k closed (item.Exchange g) safe may is rest n behind_it waits = by (is_group_of is_application s.service g)
  where
    by : (t : Bool) → Emits u (if t then application_exchanged g (record s { work = rest; taken = n }) else scene_exchanged g (record s { work = rest; taken = n }))
    by true = record { work = (tt, behind_it); queue = stays_in u is_input s.queue waits }
    by false = record { work = (tt, behind_it); queue = stays_in u (stays s.application) s.queue waits }
rule_says {fw} u s k closed item.End safe may is rest n behind_it waits = record { work = behind_it; queue = tt }

-- Taking

key_items_said : (u : Sayings) (x : Key) (m : Option (List ℕ)) (os : List Object) → AreSaidIn u (key_items x m os)
key_items_said u x None os = tt
key_items_said u x (Some g) os = if_said u (passes (register_of (object_at (group_ref g) os)) x) (heard (key_event x (group_ref g)) os) [] (heard_said u (key_event x (group_ref g)) os) tt

typed_said : (u : Sayings) → SaysUsual u → (c : ℕ) (r : ObjRef) (p : Fixed) (b : Body) → AreSaidIn u (typed c r p b).items
typed_said u k c r p b = by (b.overwrites && nat_lt b.point (length (text_of b))) (int_lt (pos (length (text_of b))) (most_typed p)) (int_eq (pos (length (text_of b) + 1)) (most_typed p))
  where
    by : (over room full : Bool) → AreSaidIn u (if over then overtyped c b else (if room then record { body = (put_in c r p b).body; items = if full then plain_event r event.EntryFieldFull ∷ [] else []; ends = false } else not_pressed b)).items
    by true room full = tt
    by false true true = (k r event.EntryFieldFull None refl, tt)
    by false true false = tt
    by false false full = tt

field_said : (u : Sayings) → SaysUsual u → (x : Key) (before : List ℕ) (r : ObjRef) (p : Fixed) (b : Body) → AreSaidIn u (field_pressed x before r p b).items
field_said u k key.Digit0 before r p b = typed_said u k 48 r p b
field_said u k key.Digit1 before r p b = typed_said u k 49 r p b
field_said u k key.Digit2 before r p b = typed_said u k 50 r p b
field_said u k key.Digit3 before r p b = typed_said u k 51 r p b
field_said u k key.Digit4 before r p b = typed_said u k 52 r p b
field_said u k key.Digit5 before r p b = typed_said u k 53 r p b
field_said u k key.Digit6 before r p b = typed_said u k 54 r p b
field_said u k key.Digit7 before r p b = typed_said u k 55 r p b
field_said u k key.Digit8 before r p b = typed_said u k 56 r p b
field_said u k key.Digit9 before r p b = typed_said u k 57 r p b
field_said u k key.Select before r p b = (k r event.InteractionCompleted None refl, tt)
field_said u k key.Cancel before r p b = (k r event.InteractionCompleted None refl, tt)
field_said u k _ before r p b = tt

push_said : (u : Sayings) → SaysUsual u → (x : Key) (r : ObjRef) (b : Body) → AreSaidIn u (button_pressed x r b).items
push_said u k key.Select r b = button_set_said u k true r b
push_said u k key.Cancel r b = (k r event.InteractionCompleted None refl, tt)
push_said u k _ r b = tt

pressed_said : (u : Sayings) → SaysUsual u → (c : Class) (x : Key) (before : List ℕ) (r : ObjRef) (p : Fixed) (b : Body) → AreSaidIn u (pressed_of c x before r p b).items
pressed_said u k class.EntryField x before r p b = field_said u k x before r p b
pressed_said u k class.PushButton x before r p b = push_said u k x r b
pressed_said u k _ x before r p b = tt

-- the timers that are due are told in an order of their own

placed_said : (u : Sayings) (app : List ℕ) (t : Timer) → IsTimerIn u t → (ts : List Timer) → Each (IsWaitIn u) (map (λ x. waiting.Event (timer_event x)) ts) → Each (IsWaitIn u) (map (λ x. waiting.Event (timer_event x)) (placed app t ts))
placed_said u app t own [] h = (own, tt)
placed_said u app t own (x ∷ ts) h = by (is_lt (by_due app t x)) (placed_said u app t own ts h.1)
  where
    by : (b : Bool) → Each (IsWaitIn u) (map (λ y. waiting.Event (timer_event y)) (placed app t ts)) → Each (IsWaitIn u) (map (λ y. waiting.Event (timer_event y)) (if b then t ∷ x ∷ ts else x ∷ placed app t ts))
    by true below = (own, h)
    by false below = (h.0, below)

ordered_said : (u : Sayings) (app : List ℕ) (ts : List Timer) → Each (IsTimerIn u) ts → Each (IsWaitIn u) (map (λ x. waiting.Event (timer_event x)) (in_order app ts))
ordered_said u app [] h = tt
ordered_said u app (t ∷ ts) h = placed_said u app t h.0 (in_order app ts) (ordered_said u app ts h.1)

pub timers_kept : (u : Sayings) (p : Timer → Bool) (ts : List Timer) → Each (IsTimerIn u) ts → Each (IsTimerIn u) (filter p ts)
timers_kept u p [] h = tt
timers_kept u p (t ∷ ts) h = by (p t) (timers_kept u p ts h.1)
  where
    by : (b : Bool) → Each (IsTimerIn u) (filter p ts) → Each (IsTimerIn u) (cond b (t ∷ filter p ts) (filter p ts))
    by true below = (h.0, below)
    by false below = below

streams_said : (u : Sayings) → SaysUsual u → (n : ℤ) (os : List Object) → Each (IsWaitIn u) (map (λ o. waiting.Event (stream_event n o)) (filter is_streaming os))
streams_said u k n [] = tt
streams_said u k n (o ∷ os) = by (is_streaming o) (streams_said u k n os)
  where
    by : (b : Bool) → Each (IsWaitIn u) (map (λ x. waiting.Event (stream_event n x)) (filter is_streaming os)) → Each (IsWaitIn u) (map (λ x. waiting.Event (stream_event n x)) (cond b (o ∷ filter is_streaming os) (filter is_streaming os)))
    by true below = (k o.fixed.key event.StreamEvent (Some (value.Int n)) refl, below)
    by false below = below

contents_said : (u : Sayings) → SaysUsual u → (p : Object → Bool) (os : List Object) → Each (IsWaitIn u) (map (λ o. waiting.Event (content_event o)) (filter p os))
contents_said u k p [] = tt
contents_said u k p (o ∷ os) = by (p o) (contents_said u k p os)
  where
    by : (b : Bool) → Each (IsWaitIn u) (map (λ x. waiting.Event (content_event x)) (filter p os)) → Each (IsWaitIn u) (map (λ x. waiting.Event (content_event x)) (cond b (o ∷ filter p os) (filter p os)))
    by true below = (k o.fixed.key event.ContentAvailable None refl, below)
    by false below = below

taking_says : (u : Sayings) → SaysUsual u → (s : State) (x : Waiting) → Each (IsTimerIn u) s.timers → Emits u s → Emits u (taking x s)
taking_says u k s (waiting.Event e) timed h = record { work = heard_said u e (all s.objects); queue = h.queue }
taking_says u k s (waiting.Input (input.Key x)) timed h = by s.interaction
  where
    by : (i : Option Interaction) → Emits u (key_taken x i s)
    by None = record { work = key_items_said u x s.scene (all s.objects); queue = h.queue }
    by (Some i) = by_object (object_at i.object (all s.objects))
      where
        by_object : (m : Option Object) → Emits u (pressed_at x i m s)
        by_object None = h
        by_object (Some o) = record { work = pressed_said u k o.fixed.class x i.before i.object o.fixed o.body; queue = h.queue }
taking_says u k s (waiting.Input (input.Tick n)) timed h = record { work = h.work; queue = each_joined (IsWaitIn u) s.queue (timers_fired (s.moments.present + n) s) h.queue (ordered_said u s.application (filter (is_due (s.moments.present + n)) s.timers) (timers_kept u (is_due (s.moments.present + n)) s.timers timed)) }
taking_says u k s (waiting.Input (input.Stream n)) timed h = record { work = h.work; queue = each_joined (IsWaitIn u) s.queue (streams_told n s) h.queue (streams_said u k n (all s.objects)) }
taking_says u k s (waiting.Input (input.Engine n)) timed h = record { work = heard_said u (engine_event n s.application) (all s.objects); queue = h.queue }
taking_says u k s (waiting.Input (input.Arrive f)) timed h = record { work = h.work; queue = each_joined (IsWaitIn u) s.queue (contents_told f.name s) h.queue (contents_said u k (is_waiting f.name s.waits) (all s.objects)) }
-- STEPS
taking_says u k s (waiting.Input (input.Scene g w)) timed h = by (awaits g s.transition)
  where
    by : (t : Bool) → Emits u (if t then begins action.TransitionTo (group_ref g) (scene_arrived g s) else scene_arrived g s)
    by true = record { work = out_said u action.TransitionTo (group_ref g) (scene_arrived g s); queue = h.queue }
    by false = record { work = h.work; queue = h.queue }

first_said : (u : Sayings) (work : List Item) (i : Item) → slice_get work 0 ≡ Some i → AreSaidIn u work → IsSaidIn u i × AreSaidIn u (drop 1 work)
first_said u [] i e h = absurd cc
first_said u (j ∷ rest) i e h = (subst (IsSaidIn u) (some_same e) h.0, h.1)

pub first_wait : (u : Sayings) (ws : List Waiting) (x : Waiting) → slice_get ws 0 ≡ Some x → Each (IsWaitIn u) ws → IsWaitIn u x
first_wait u [] x e h = absurd cc
first_wait u (y ∷ ws) x e h = subst (IsWaitIn u) (some_same e) h.0

rest_waits : (u : Sayings) (ws : List Waiting) → Each (IsWaitIn u) ws → Each (IsWaitIn u) (drop 1 ws)
rest_waits u [] h = tt
rest_waits u (x ∷ ws) h = h.1

pub first_item_said : (u : Sayings) (s : State) (i : Item) → slice_get s.work 0 ≡ Some i → Each (IsSaidIn u) s.work → IsSaidIn u i
first_item_said u s i e h = (first_said u s.work i e h).0

pub step_emits : {fw : Flow} {q : Doings} (u : Sayings) (s : State) (k : IsSafeBy fw s) → IsSaidClosed s.service fw q u → ((i : Item) → slice_get s.work 0 ≡ Some i → IsSo q (config_of s) i) → Each (IsTimerIn u) s.timers → Emits u s → Emits u (step s)
step_emits {fw} u s k closed comes timed h = unless_ended s.ended
  where
    by : (m : Option Item) (x : Option Waiting) → slice_get s.work 0 ≡ m → Emits u (step_by m x s)
    by None None e = h
    by None (Some x) e = taking_says u (usual_of s.service fw u closed) (record s { queue = drop 1 s.queue; taken = s.taken + 1 }) x timed (record { work = h.work; queue = rest_waits u s.queue h.queue })
    by (Some i) x e =
        let parts = first_said u s.work i e h.work in
        subst (λ (m : Option Fault). Emits u (did m i s)) (sym (free_first s k i e)) (rule_says u s k closed i (first_item s k i e) (comes i e) parts.0 (drop 1 s.work) (s.taken + 1) parts.1 h.queue)

    unless_ended : (t : Bool) → Emits u (if t then s else step_by (slice_get s.work 0) (slice_get s.queue 0) s)
    unless_ended true = h
    unless_ended false = by (slice_get s.work 0) (slice_get s.queue 0) refl

pub posted_emits : (u : Sayings) (s : State) (i : Input) → Emits u s → Emits u (posted i s)
posted_emits u s i h = by (obstacle i s)
  where
    by : (m : Option Obstacle) → Emits u (posted_by m i s)
    by None = record { work = h.work; queue = each_joined (IsWaitIn u) s.queue (waiting.Input i ∷ []) h.queue (tt, tt) }
    by (Some o) = h

pub told_emits : (u : Sayings) (s : State) (o : Outcome) → Emits u s → Emits u (told o s)
told_emits u s o h = record { work = h.work; queue = h.queue }

pub begun_emits : (u : Sayings) (v : Service) (mjd : ℕ) (fs : List File) → Emits u (begun_with v mjd fs)
begun_emits u v mjd fs = record { work = (tt, tt); queue = tt }
