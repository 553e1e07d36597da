-- What an action puts is put in one of its ways.
use Rattle.std.specs.Prelude.{◌≡◌, ℕ, suc, ◌==◌, ◌≤◌, Bool, true, false, ◌&&◌, if◌then◌else◌, not, List, [], ◌∷◌, ◌++◌, filter, slice_get, Option, Some, None, unwrap_or, option_and_then, refl, ℤ, pos, negsuc}
use Rattle.std.specs.List.{flat_map}
use Rattle.std.specs.Option.{is_some}
use Rattle.std.proofs.Common.{arith, inl, inr, sym, subst, append-nil}
use Rattle.mh_base.specs.declared.obj_ref.ObjRef.{ObjRef}
use Rattle.mh_base.specs.declared.value.Value.{Value}
use Rattle.mh_base.specs.declared.value.Value.TheVariants as value
use Rattle.mh_base.specs.declared.event.EventType.{EventType}
use Rattle.mh_base.specs.declared.event.EventType.TheVariants as event
use Rattle.mh_group.specs.declared.action_name.ActionName.{ActionName}
use Rattle.mh_group.specs.declared.action_name.ActionName.TheVariants as action
use Rattle.mh_group.specs.Table.{is_list_group}
use Rattle.mh_model.specs.declared.act.Act.{Act}
use Rattle.mh_model.specs.declared.act.Argument.{Argument}
use Rattle.mh_model.specs.declared.act.Argument.TheVariants as argument
use Rattle.mh_model.specs.declared.file.File.{File}
use Rattle.mh_model.specs.declared.item.Item.{Item}
use Rattle.mh_model.specs.declared.item.Item.TheVariants as item
use Rattle.mh_model.specs.declared.object.listing.Entry.{Entry}
use Rattle.mh_model.specs.declared.object.member.Member.{Member}
use Rattle.mh_model.specs.declared.object.Body.{Body}
use Rattle.mh_model.specs.declared.object.Fixed.{Fixed}
use Rattle.mh_model.specs.declared.object.Object.{Object}
use Rattle.mh_model.specs.declared.operator.Operator.{Operator}
use Rattle.mh_model.specs.Arguments.{values}
use Rattle.mh_model.specs.Files.{comes_to, is_loadable}
use Rattle.mh_model.specs.Items.{acts, plain_event}
use Rattle.mh_model.specs.Lifecycle.{is_available_at, emit_if}
use Rattle.mh_model.specs.Listed.{Listed}
use Rattle.mh_group.specs.Same.{are_same}
use Rattle.mh_model.specs.Lists.{Shown, shows, is_shown, truth_told, count_told, list_events, relisted, list_changed, list_worked, other_marked, item_event, unmark_items, selection_wanted, selection_by, selection_at, selection_worked}
use Rattle.mh_model.specs.Programs.{counted}
use Rattle.mh_model.specs.Property.{value_held}
use Rattle.mh_model.specs.Saying.{event_numbered, sent, tested, put_items, load_items, interaction_items}
use Rattle.mh_model.specs.Tokens.{members, token_wanted, can_turn, turned, numbered, slot_of, slot_items}
use Rattle.mh_model.specs.Variables.{operator_of}
use Rattle.mh_model.specs.Widget.{Worked, no_work, event_with}
use Rattle.mh_model.specs.EntryFields.{highlit, button_worked}
use Rattle.mh_laws.specs.Ways.{Unsure, Share, Prepares, Runs, Halts, Drops, Tells, plain, Sends, Changes, Slots, IsNoMore, IsTold, AreListTold, IsChange, IsSent, IsBy, IsWay, highlight_ways, interaction_ways, ways}
use Rattle.mh_laws.specs.Describing.{is_transition, items_put}
use Rattle.mh_laws.specs.Each.{Among}
use Rattle.mh_laws.proofs.CountLemmas.{count_filter, count_shown, NoMoreIf, relisted_no_more}
use Rattle.mh_laws.proofs.DescribingLemmas.{if_changed}
use Rattle.mh_laws.proofs.EachLemmas.{among_left, among_right}
use Rattle.mh_laws.proofs.ListedLemmas.{numbered_among}

-- one way of one share, and of two

only : (r : ObjRef) (vs : List Value) (o : Object) (p : Share) (is : List Item) → IsBy r vs o p is → IsWay r vs o ((p ∷ []) ∷ []) is
only r vs o p is h = inl (is, [], sym (append-nil is), h, refl)

two : (r : ObjRef) (vs : List Value) (o : Object) (p q : Share) (is js : List Item) → IsBy r vs o p is → IsBy r vs o q js → IsWay r vs o ((p ∷ q ∷ []) ∷ []) (is ++ js)
two r vs o p q is js h k = inl (is, js, refl, h, (js, [], sym (append-nil js), k, refl))

-- an event that is sent

sent_by : (source : ObjRef) (kind : ℤ) (more : List Value) → IsSent (value.Object source ∷ value.Int kind ∷ more) (sent source (event_numbered kind) more)
sent_by source (negsuc n) more = tt
sent_by source (pos n) more = by (event_numbered (pos n)) refl
  where
    by : (m : Option EventType) → event_numbered (pos n) ≡ m → IsSent (value.Object source ∷ value.Int (pos n) ∷ more) (sent source m more)
    by None e = tt
    by (Some kind) e = (n, refl, refl, e, refl)

puts_sent : (vs : List Value) (r : ObjRef) (o : Object) → IsSent vs (put_items action.SendEvent vs r o)
puts_sent (value.Object q ∷ value.Int kind ∷ more) r o = sent_by q kind more
puts_sent _ r o = tt

tested_told : (r : ObjRef) (m : Option Operator) (given : Option Value) (x : Value) → IsTold r event.TestEvent Unsure (tested r m given x)
tested_told r None given x = tt
tested_told r (Some t) None x = tt
tested_told r (Some t) (Some h) x = (refl, refl, tt)

puts_tested : (vs : List Value) (r : ObjRef) (o : Object) → IsTold r event.TestEvent Unsure (put_items action.TestVariable vs r o)
puts_tested (value.Int n ∷ x ∷ []) r o = tested_told r (operator_of n) (value_held o.fixed o.body) x
puts_tested _ r o = tt

puts_loaded : (vs : List Value) (r : ObjRef) (o : Object) (b : Bool) → IsBy r vs o (plain event.ContentAvailable) (emit_if b r event.ContentAvailable)
puts_loaded vs r o true = (refl, refl, refl)
puts_loaded vs r o false = tt

puts_data : (fs : List File) (vs : List Value) (r : ObjRef) (o : Object) → IsBy r vs o (plain event.ContentAvailable) (load_items fs vs r (Some o))
puts_data fs (v ∷ []) r o = puts_loaded (v ∷ []) r o (is_loadable v && is_available_at (Some o) && is_some (comes_to fs v))
puts_data fs _ r o = tt

-- a slot

slots_among : (ms : List Member) (m : Member) (e : List Act) → Among ms m → Among m.slots e → Among (flat_map (λ (x : Member). x.slots) ms) e
slots_among [] m e h k = absurd cc
slots_among (x ∷ ms) m e (inl same) k = among_left x.slots (flat_map (λ (y : Member). y.slots) ms) e (subst (λ (y : Member). Among y.slots e) (sym same) k)
slots_among (x ∷ ms) m e (inr more) k = among_right x.slots (flat_map (λ (y : Member). y.slots) ms) e (slots_among ms m e more k)

slot_by : (r : ObjRef) (vs : List Value) (o : Object) (n : ℕ) → IsBy r vs o Slots (acts (slot_of n o.fixed o.body))
slot_by r vs o n = by (numbered (members o.fixed) o.body.token) refl
  where
    slot : (m : Member) (s : Option (List Act)) → numbered m.slots n ≡ s → Among (members o.fixed) m → IsBy r vs o Slots (acts (unwrap_or s []))
    slot m None e h = inl refl
    slot m (Some written) e h = inr (written, refl, slots_among (members o.fixed) m written h (numbered_among m.slots n written e))

    by : (m : Option Member) → numbered (members o.fixed) o.body.token ≡ m → IsBy r vs o Slots (acts (unwrap_or (option_and_then (λ (x : Member). numbered x.slots n) m) []))
    by None e = inl refl
    by (Some m) e = slot m (numbered m.slots n) refl (numbered_among (members o.fixed) o.body.token m e)

puts_slot : (vs : List Value) (r : ObjRef) (o : Object) → IsBy r vs o Slots (slot_items vs o.fixed o.body)
puts_slot (value.Int (pos n) ∷ []) r o = slot_by r (value.Int (pos n) ∷ []) o n
puts_slot _ r o = inl refl

-- a token that moves

abbrev token_way : List (List Share)
token_way = (Tells event.TokenMovedFrom Unsure ∷ Tells event.TokenMovedTo Unsure ∷ []) ∷ []

no_two : (r : ObjRef) (vs : List Value) (o : Object) (a b : EventType) → IsWay r vs o ((Tells a Unsure ∷ Tells b Unsure ∷ []) ∷ []) []
no_two r vs o a b = two r vs o (Tells a Unsure) (Tells b Unsure) [] [] tt tt

token_puts : (r : ObjRef) (vs : List Value) (o : Object) (p : Fixed) (b : Body) (m : Option ℤ) → IsWay r vs o token_way (turned r p b m).items
token_puts r vs o p b None = no_two r vs o event.TokenMovedFrom event.TokenMovedTo
token_puts r vs o p b (Some (negsuc n)) = no_two r vs o event.TokenMovedFrom event.TokenMovedTo
token_puts r vs o p b (Some (pos n)) = by (can_turn p b n)
  where
    from : Item
    from = event_with r event.TokenMovedFrom (value.Int (counted b.token))

    to : Item
    to = event_with r event.TokenMovedTo (value.Int (counted n))

    by : (t : Bool) → IsWay r vs o token_way (if t then record { body = record b { token = n }; placed = []; items = from ∷ to ∷ [] } else no_work b).items
    by true = two r vs o (Tells event.TokenMovedFrom Unsure) (Tells event.TokenMovedTo Unsure) (from ∷ []) (to ∷ []) (refl, refl, tt) (refl, refl, tt)
    by false = no_two r vs o event.TokenMovedFrom event.TokenMovedTo

-- highlight and buttons

told_if : (r : ObjRef) (vs : List Value) (o : Object) (kind : EventType) (same : Bool) (b c : Body) → IsBy r vs o (plain kind) (if_changed same b c (plain_event r kind ∷ [])).items
told_if r vs o kind true b c = tt
told_if r vs o kind false b c = (refl, refl, refl)

abbrev both_lights : List (List Share)
both_lights = (plain event.HighlightOn ∷ []) ∷ (plain event.HighlightOff ∷ []) ∷ []

highlit_puts : (r : ObjRef) (vs : List Value) (o : Object) (on : Bool) (b : Body) → IsWay r vs o both_lights (highlit on r b).items
highlit_puts r vs o true b = inl ((highlit true r b).items, [], sym (append-nil (highlit true r b).items), told_if r vs o event.HighlightOn (are_same b.highlighted true) b (record b { highlighted = true }), refl)
highlit_puts r vs o false b = inr (only r vs o (plain event.HighlightOff) (highlit false r b).items (told_if r vs o event.HighlightOff (are_same b.highlighted false) b (record b { highlighted = false })))

no_light : (r : ObjRef) (vs : List Value) (o : Object) → IsWay r vs o both_lights []
no_light r vs o = inl ([], [], refl, tt, refl)

any_light : (r : ObjRef) (vs : List Value) (o : Object) (b : Body) → IsWay r vs o both_lights (button_worked action.SetHighlightStatus vs r o.fixed b).items
any_light r (value.Bool on ∷ []) o b = highlit_puts r (value.Bool on ∷ []) o on b
any_light r vs o b = no_light r vs o

light_puts : (os : List Object) (xs : List Argument) (r : ObjRef) (o : Object) → IsWay r (values os xs) o (highlight_ways xs) (button_worked action.SetHighlightStatus (values os xs) r o.fixed o.body).items
light_puts os (argument.Direct (value.Bool true) ∷ []) r o = only r (value.Bool true ∷ []) o (plain event.HighlightOn) (highlit true r o.body).items (told_if r (value.Bool true ∷ []) o event.HighlightOn (are_same o.body.highlighted true) o.body (record o.body { highlighted = true }))
light_puts os (argument.Direct (value.Bool false) ∷ []) r o = only r (value.Bool false ∷ []) o (plain event.HighlightOff) (highlit false r o.body).items (told_if r (value.Bool false ∷ []) o event.HighlightOff (are_same o.body.highlighted false) o.body (record o.body { highlighted = false }))
light_puts os xs r o = any_light r (values os xs) o o.body

ended_told : (vs : List Value) (b : Bool) (r : ObjRef) (o : Object) → IsWay r vs o ((plain event.InteractionCompleted ∷ []) ∷ []) (interaction_items vs b r)
ended_told (value.Bool false ∷ []) true r o = only r (value.Bool false ∷ []) o (plain event.InteractionCompleted) (plain_event r event.InteractionCompleted ∷ []) (refl, refl, refl)
ended_told vs b r o = only r vs o (plain event.InteractionCompleted) [] tt

interaction_puts : (os : List Object) (xs : List Argument) (b : Bool) (r : ObjRef) (o : Object) → IsWay r (values os xs) o (interaction_ways xs) (interaction_items (values os xs) b r)
interaction_puts os (argument.Direct (value.Bool true) ∷ []) b r o = refl
interaction_puts os xs b r o = ended_told (values os xs) b r o

-- selection in a list

abbrev both_told : List (List Share)
both_told = (Tells event.ItemDeselected Unsure ∷ Tells event.ItemSelected Unsure ∷ []) ∷ []

unmarked_told : (r : ObjRef) (m : Option ℕ) → IsTold r event.ItemDeselected Unsure (unmark_items r m)
unmarked_told r None = tt
unmarked_told r (Some k) = (refl, refl, tt)

chosen_puts : (r : ObjRef) (vs : List Value) (o : Object) (want now : Bool) (k : ℕ) (p : Fixed) (b : Body) → IsWay r vs o both_told (selection_by want now k r p b).items
chosen_puts r vs o true false k p b = two r vs o (Tells event.ItemDeselected Unsure) (Tells event.ItemSelected Unsure) (unmark_items r (other_marked p b.list.entries)) (item_event r event.ItemSelected k ∷ []) (unmarked_told r (other_marked p b.list.entries)) (refl, refl, tt)
chosen_puts r vs o false true k p b = two r vs o (Tells event.ItemDeselected Unsure) (Tells event.ItemSelected Unsure) (item_event r event.ItemDeselected k ∷ []) [] (refl, refl, tt) tt
chosen_puts r vs o true true k p b = no_two r vs o event.ItemDeselected event.ItemSelected
chosen_puts r vs o false false k p b = no_two r vs o event.ItemDeselected event.ItemSelected

at_puts : (r : ObjRef) (vs : List Value) (o : Object) (n : ActionName) (k : ℕ) (m : Option Entry) (p : Fixed) (b : Body) → IsWay r vs o both_told (selection_at n k m r p b).items
at_puts r vs o n k None p b = no_two r vs o event.ItemDeselected event.ItemSelected
at_puts r vs o n k (Some e) p b = chosen_puts r vs o (selection_wanted n e.selected) e.selected k p b

selection_puts : (r : ObjRef) (vs : List Value) (o : Object) (n : ActionName) (p : Fixed) (b : Body) → IsWay r vs o both_told (selection_worked n vs r p b).items
selection_puts r (value.Int (pos (suc k)) ∷ []) o n p b = at_puts r (value.Int (pos (suc k)) ∷ []) o n k (slice_get b.list.entries k) p b
selection_puts r vs o n p b = no_two r vs o event.ItemDeselected event.ItemSelected

left_puts : (r : ObjRef) (now : Bool) (k : ℕ) (p : Fixed) (b : Body) → IsTold r event.ItemDeselected Unsure (selection_by false now k r p b).items
left_puts r true k p b = (refl, refl, tt)
left_puts r false k p b = tt

left_at : (r : ObjRef) (k : ℕ) (m : Option Entry) (p : Fixed) (b : Body) → IsTold r event.ItemDeselected Unsure (selection_at action.DeselectItem k m r p b).items
left_at r k None p b = tt
left_at r k (Some e) p b = left_puts r e.selected k p b

deselection_puts : (r : ObjRef) (vs : List Value) (p : Fixed) (b : Body) → IsTold r event.ItemDeselected Unsure (selection_worked action.DeselectItem vs r p b).items
deselection_puts r (value.Int (pos (suc k)) ∷ []) p b = left_at r k (slice_get b.list.entries k) p b
deselection_puts r _ p b = tt

-- a list that changes

one_told : (r : ObjRef) (kind : EventType) (t : Bool) (v : Value) → IsTold r kind Unsure (if t then [] else event_with r kind v ∷ [])
one_told r kind true v = tt
one_told r kind false v = (refl, refl, tt)

pub events_told : (r : ObjRef) (a b : Shown) → AreListTold r (list_events r a b)
events_told r a b = record {
  first = truth_told event.FirstItemPresented r a.has_first b.has_first;
  last = truth_told event.LastItemPresented r a.has_last b.has_last;
  head = count_told event.HeadItems r a.head b.head;
  tail = count_told event.TailItems r a.tail b.tail;
  all = refl;
  first_told = one_told r event.FirstItemPresented (are_same a.has_first b.has_first) (value.Bool b.has_first);
  last_told = one_told r event.LastItemPresented (are_same a.has_last b.has_last) (value.Bool b.has_last);
  head_told = one_told r event.HeadItems (a.head == b.head) (value.Int (counted b.head));
  tail_told = one_told r event.TailItems (a.tail == b.tail) (value.Int (counted b.tail));
}

no_change : (r : ObjRef) (vs : List Value) (o : Object) → IsChange r vs o []
no_change r vs o = record {
  halted = [];
  run = [];
  events = [];
  all = refl;
  halted_listed = λ q. omega arith;
  run_listed = λ q. inl (omega arith);
  told = record { first = []; last = []; head = []; tail = []; all = refl; first_told = tt; last_told = tt; head_told = tt; tail_told = tt };
}

less_no_more : (vs : List Value) (now : ℕ) (q : ObjRef) (n m : ℕ) → n ≤ m → IsNoMore vs now q m → IsNoMore vs now q n
less_no_more vs now q n m h (inl k) = inl (omega (arith, h, k))
less_no_more vs now q n m h (inr k) = let few = k.1 in inr (k.0, omega (arith, h, few))

list_puts : (n : ActionName) (vs : List Value) (r : ObjRef) (o : Object) → IsChange r vs o (list_worked n vs r o.fixed o.body).items
list_puts n vs r o = by (relisted n vs o.fixed o.body.list) (λ q. relisted_no_more n vs o.fixed o.body.list q)
  where
    by : (m : Option Listed) → ((q : ObjRef) → NoMoreIf vs o.body.list.entries q m) → IsChange r vs o (list_changed r o.fixed o.body m).items
    by None h = no_change r vs o
    by (Some l) h =
        let before : Shown = shows o.body.running o.fixed o.body.list in
        let after : Shown = shows o.body.running o.fixed l in
        record {
          halted = filter (λ x. not (is_shown x after.items)) before.items;
          run = filter (λ x. not (is_shown x before.items)) after.items;
          events = list_events r before after;
          all = refl;
          halted_listed = λ q.
              let one = count_filter q (λ x. not (is_shown x after.items)) before.items in
              let two = count_shown q o.body.running o.fixed o.body.list in
              omega (arith, one, two);
          run_listed = λ q.
              let one = count_filter q (λ x. not (is_shown x before.items)) after.items in
              let two = count_shown q o.body.running o.fixed l in
              less_no_more vs _ q _ _ (omega (arith, one, two)) (h q);
          told = events_told r before after;
        }

if_list_puts : (r : ObjRef) (vs : List Value) (o : Object) (is : Bool) (w : Worked) → IsChange r vs o w.items → IsChange r vs o (if is then w else no_work o.body).items
if_list_puts r vs o true w h = h
if_list_puts r vs o false w h = no_change r vs o

change_way : (n : ActionName) (vs : List Value) (r : ObjRef) (o : Object) → IsWay r vs o ((Changes ∷ []) ∷ []) (if is_list_group o.fixed.class then list_worked n vs r o.fixed o.body else no_work o.body).items
change_way n vs r o = only r vs o Changes _ (if_list_puts r vs o (is_list_group o.fixed.class) (list_worked n vs r o.fixed o.body) (list_puts n vs r o))

-- What an action puts that is no transition is put in one of its ways. Of a transition the ways say nothing: it puts where it
-- leads.
pub way_of : (fs : List File) (interacts : Bool) (n : ActionName) (os : List Object) (xs : List Argument) (r : ObjRef) (o : Object) → is_transition n ≡ false → IsWay r (values os xs) o (ways n xs) (items_put fs interacts n (values os xs) r o)
way_of fs b action.Run os xs r o stays = only r (values os xs) o Runs (item.Run r ∷ []) refl
way_of fs b action.Stop os xs r o stays = only r (values os xs) o Halts (item.Halt r ∷ []) refl
way_of fs b action.Preload os xs r o stays = only r (values os xs) o Prepares (item.Prepare r ∷ []) refl
way_of fs b action.Unload os xs r o stays = two r (values os xs) o Halts Drops (item.Halt r ∷ []) (item.Drop r ∷ []) refl refl
way_of fs b action.Activate os xs r o stays = only r (values os xs) o Runs (item.Run r ∷ []) refl
way_of fs b action.Deactivate os xs r o stays = only r (values os xs) o Halts (item.Halt r ∷ []) refl
way_of fs b action.SendEvent os xs r o stays = only r (values os xs) o Sends _ (puts_sent (values os xs) r o)
way_of fs b action.TestVariable os xs r o stays = only r (values os xs) o (Tells event.TestEvent Unsure) _ (puts_tested (values os xs) r o)
way_of fs b action.SetData os xs r o stays = only r (values os xs) o (plain event.ContentAvailable) _ (puts_data fs (values os xs) r o)
way_of fs b action.Fork os xs r o stays = only r (values os xs) o (plain event.AsyncStopped) (plain_event r event.AsyncStopped ∷ []) (refl, refl, refl)
way_of fs b action.SetInteractionStatus os xs r o stays = interaction_puts os xs b r o
way_of fs b action.SetHighlightStatus os xs r o stays = light_puts os xs r o
way_of fs b action.Select os xs r o stays = only r (values os xs) o (plain event.IsSelected) _ (told_if r (values os xs) o event.IsSelected (are_same o.body.selected true) o.body (record o.body { selected = true }))
way_of fs b action.Deselect os xs r o stays = only r (values os xs) o (plain event.IsDeselected) _ (told_if r (values os xs) o event.IsDeselected (are_same o.body.selected false) o.body (record o.body { selected = false }))
way_of fs b action.Move os xs r o stays = token_puts r (values os xs) o o.fixed o.body (token_wanted action.Move (values os xs) o.fixed o.body)
way_of fs b action.MoveTo os xs r o stays = token_puts r (values os xs) o o.fixed o.body (token_wanted action.MoveTo (values os xs) o.fixed o.body)
way_of fs b action.CallActionSlot os xs r o stays = only r (values os xs) o Slots _ (puts_slot (values os xs) r o)
way_of fs b action.AddItem os xs r o stays = change_way action.AddItem (values os xs) r o
way_of fs b action.DelItem os xs r o stays = change_way action.DelItem (values os xs) r o
way_of fs b action.ScrollItems os xs r o stays = change_way action.ScrollItems (values os xs) r o
way_of fs b action.SetFirstItem os xs r o stays = change_way action.SetFirstItem (values os xs) r o
way_of fs b action.SelectItem os xs r o stays = selection_puts r (values os xs) o action.SelectItem o.fixed o.body
way_of fs b action.DeselectItem os xs r o stays = only r (values os xs) o (Tells event.ItemDeselected Unsure) _ (deselection_puts r (values os xs) o.fixed o.body)
way_of fs b action.ToggleItem os xs r o stays = selection_puts r (values os xs) o action.ToggleItem o.fixed o.body
way_of fs b action.TransitionTo os xs r o stays = absurd cc
way_of fs b action.Launch os xs r o stays = absurd cc
way_of fs b action.Quit os xs r o stays = absurd cc
way_of fs b _ os xs r o stays = refl
