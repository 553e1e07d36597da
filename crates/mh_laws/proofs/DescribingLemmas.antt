-- What an action puts is of the pieces that its description lists.
use Rattle.std.specs.Prelude.{◌≡◌, ℕ, suc, ◌==◌, Bool, true, false, if◌then◌else◌, cond, not, List, [], ◌∷◌, ◌++◌, map, filter, slice_get, Option, Some, None, ◌&&◌, refl, ℤ, pos, negsuc}
use Rattle.std.specs.List.{Contains}
use Rattle.std.specs.Option.{is_some}
use Rattle.std.proofs.Common.{inl, inr}
use Rattle.mh_base.specs.declared.obj_ref.ObjRef.{ObjRef}
use Rattle.mh_base.specs.declared.value.Value.{Value}
use Rattle.mh_base.specs.declared.value.Value.TheVariants as value
use Rattle.mh_base.specs.declared.event.EventType.{EventType}
use Rattle.mh_base.specs.declared.event.EventType.TheVariants as event
use Rattle.mh_group.specs.declared.action_name.ActionName.{ActionName}
use Rattle.mh_group.specs.declared.action_name.ActionName.TheVariants as action
use Rattle.mh_group.specs.Table.{is_list_group}
use Rattle.mh_model.specs.declared.act.Act.{Act}
use Rattle.mh_model.specs.declared.item.Item.{Item}
use Rattle.mh_model.specs.declared.item.Item.TheVariants as item
use Rattle.mh_model.specs.declared.object.listing.Entry.{Entry}
use Rattle.mh_model.specs.declared.object.Body.{Body}
use Rattle.mh_model.specs.declared.object.Fixed.{Fixed}
use Rattle.mh_model.specs.declared.object.Object.{Object}
use Rattle.mh_model.specs.declared.operator.Operator.{Operator}
use Rattle.mh_model.specs.declared.file.File.{File}
use Rattle.mh_model.specs.Lifecycle.{is_available_at, emit_if}
use Rattle.mh_model.specs.Property.{value_held}
use Rattle.mh_model.specs.Variables.{operator_of}
use Rattle.mh_model.specs.EntryFields.{button_worked}
use Rattle.mh_model.specs.Items.{acts, plain_event}
use Rattle.mh_model.specs.Listed.{Listed}
use Rattle.mh_group.specs.Same.{are_same}
use Rattle.mh_model.specs.Lists.{Shown, shows, is_shown, halted_members, run_members, truth_told, count_told, list_events, list_items, relisted, list_changed, list_worked, other_marked, item_event, unmark_items, selection_wanted, selection_by, selection_at, selection_worked}
use Rattle.mh_model.specs.Programs.{counted}
use Rattle.mh_model.specs.Saying.{event_numbered, sent, tested, put_items, load_items, interaction_items}
use Rattle.mh_model.specs.Tokens.{token_wanted, can_turn, turned, slot_actions, slot_of, slot_items}
use Rattle.mh_model.specs.Widget.{Worked, no_work, event_with}
use Rattle.mh_model.specs.Worked.{worked}
use Rattle.mh_laws.specs.Describing.{Piece, Tells, can_put, list_pieces, IsListed, AreOf, PutsWhatItCan}
use Rattle.mh_laws.specs.Each.{Each}
use Rattle.mh_laws.proofs.ListedLemmas.{IsListedIf, slot_among, own_among, shown_among, relisted_among}
use Rattle.mh_model.specs.Files.{comes_to, is_loadable}

sent_of : (source r : ObjRef) (vs : List Value) (o : Object) (m : Option EventType) (more : List Value) → slice_get vs 0 ≡ Some (value.Object source) → AreOf r vs o (can_put action.SendEvent) (sent source m more)
sent_of source r vs o None more e = tt
sent_of source r vs o (Some kind) more e = (inl e, tt)

tested_of : (r : ObjRef) (vs : List Value) (o : Object) (m : Option Operator) (given : Option Value) (x : Value) → AreOf r vs o (can_put action.TestVariable) (tested r m given x)
tested_of r vs o None given x = tt
tested_of r vs o (Some t) None x = tt
tested_of r vs o (Some t) (Some h) x = (inl (refl, refl), tt)

puts_sent : (vs : List Value) (r : ObjRef) (o : Object) → AreOf r vs o (can_put action.SendEvent) (put_items action.SendEvent vs r o)
puts_sent [] r o = tt
puts_sent (value.Object q ∷ []) r o = tt
puts_sent (value.Object q ∷ value.Int kind ∷ more) r o = sent_of q r (value.Object q ∷ value.Int kind ∷ more) o (event_numbered kind) more refl
puts_sent (value.Object q ∷ value.Bool b ∷ more) r o = tt
puts_sent (value.Object q ∷ value.Octets b ∷ more) r o = tt
puts_sent (value.Object q ∷ value.Object b ∷ more) r o = tt
puts_sent (value.Object q ∷ value.Content b ∷ more) r o = tt
puts_sent (value.Bool b ∷ more) r o = tt
puts_sent (value.Int b ∷ more) r o = tt
puts_sent (value.Octets b ∷ more) r o = tt
puts_sent (value.Content b ∷ more) r o = tt

puts_tested : (vs : List Value) (r : ObjRef) (o : Object) → AreOf r vs o (can_put action.TestVariable) (put_items action.TestVariable vs r o)
puts_tested [] r o = tt
puts_tested (value.Int n ∷ []) r o = tt
puts_tested (value.Int n ∷ x ∷ []) r o = tested_of r (value.Int n ∷ x ∷ []) o (operator_of n) (value_held o.fixed o.body) x
puts_tested (value.Int n ∷ x ∷ y ∷ vs) r o = tt
puts_tested (value.Bool b ∷ vs) r o = tt
puts_tested (value.Octets b ∷ vs) r o = tt
puts_tested (value.Object b ∷ vs) r o = tt
puts_tested (value.Content b ∷ vs) r o = tt

puts_loaded : (vs : List Value) (r : ObjRef) (o : Object) (b : Bool) → AreOf r vs o (can_put action.SetData) (emit_if b r event.ContentAvailable)
puts_loaded vs r o true = (inl (refl, refl), tt)
puts_loaded vs r o false = tt

puts_data : (fs : List File) (vs : List Value) (r : ObjRef) (o : Object) → AreOf r vs o (can_put action.SetData) (load_items fs vs r (Some o))
puts_data fs (v ∷ []) r o = puts_loaded (v ∷ []) r o (is_loadable v && is_available_at (Some o) && is_some (comes_to fs v))
puts_data fs _ r o = tt

-- the actions of a slot are among those of all slots

acts_of : (r : ObjRef) (vs : List Value) (o : Object) (written : List Act) → Each (Contains (slot_actions o.fixed)) written → AreOf r vs o (can_put action.CallActionSlot) (acts written)
acts_of r vs o [] h = tt
acts_of r vs o (a ∷ written) h = (inl h.0, acts_of r vs o written h.1)

puts_slot : (vs : List Value) (r : ObjRef) (o : Object) → AreOf r vs o (can_put action.CallActionSlot) (slot_items vs o.fixed o.body)
puts_slot (value.Int (pos n) ∷ []) r o = acts_of r (value.Int (pos n) ∷ []) o (slot_of n o.fixed o.body) (slot_among n o.fixed o.body)
puts_slot _ r o = tt

-- Widgets

-- a token that moves
token_puts : (vs : List Value) (r : ObjRef) (o : Object) (p : Fixed) (b : Body) (m : Option ℤ) → AreOf r vs o (Tells event.TokenMovedFrom ∷ Tells event.TokenMovedTo ∷ []) (turned r p b m).items
token_puts vs r o p b None = tt
token_puts vs r o p b (Some (negsuc n)) = tt
token_puts vs r o p b (Some (pos n)) = by (can_turn p b n)
  where
    by : (t : Bool) → AreOf r vs o (Tells event.TokenMovedFrom ∷ Tells event.TokenMovedTo ∷ []) (if t then record { body = record b { token = n }; placed = []; items = event_with r event.TokenMovedFrom (value.Int (counted b.token)) ∷ event_with r event.TokenMovedTo (value.Int (counted n)) ∷ [] } else no_work b).items
    by true = (inl (refl, refl), (inr (inl (refl, refl)), tt))
    by false = tt

-- a button, or highlight

-- what is worked unless all stays the same
abbrev pub if_changed : Bool → Body → Body → List Item → Worked
if_changed same b c is = if same then no_work b else record { body = c; placed = []; items = is }

highlight_puts : (vs : List Value) (r : ObjRef) (o : Object) (on same : Bool) (b c : Body) → AreOf r vs o (can_put action.SetHighlightStatus) (if_changed same b c (plain_event r (if on then event.HighlightOn else event.HighlightOff) ∷ [])).items
highlight_puts vs r o on true b c = tt
highlight_puts vs r o true false b c = (inl (refl, refl), tt)
highlight_puts vs r o false false b c = (inr (inl (refl, refl)), tt)

select_puts : (vs : List Value) (r : ObjRef) (o : Object) (same : Bool) (b c : Body) → AreOf r vs o (can_put action.Select) (if_changed same b c (plain_event r event.IsSelected ∷ [])).items
select_puts vs r o true b c = tt
select_puts vs r o false b c = (inl (refl, refl), tt)

deselect_puts : (vs : List Value) (r : ObjRef) (o : Object) (same : Bool) (b c : Body) → AreOf r vs o (can_put action.Deselect) (if_changed same b c (plain_event r event.IsDeselected ∷ [])).items
deselect_puts vs r o true b c = tt
deselect_puts vs r o false b c = (inl (refl, refl), tt)

highlight_by : (vs : List Value) (r : ObjRef) (o : Object) (p : Fixed) (b : Body) → AreOf r vs o (can_put action.SetHighlightStatus) (button_worked action.SetHighlightStatus vs r p b).items
highlight_by (value.Bool on ∷ []) r o p b = highlight_puts (value.Bool on ∷ []) r o on (are_same b.highlighted on) b (record b { highlighted = on })
highlight_by _ r o p b = tt

-- selection in a list

abbrev both_told : List Piece
both_told = Tells event.ItemDeselected ∷ Tells event.ItemSelected ∷ []

selected_puts : (vs : List Value) (r : ObjRef) (o : Object) (other : Option ℕ) (k : ℕ) → AreOf r vs o both_told (unmark_items r other ++ item_event r event.ItemSelected k ∷ [])
selected_puts vs r o None k = (inr (inl (refl, refl)), tt)
selected_puts vs r o (Some j) k = (inl (refl, refl), (inr (inl (refl, refl)), tt))

chosen_puts : (vs : List Value) (r : ObjRef) (o : Object) (want now : Bool) (k : ℕ) (p : Fixed) (b : Body) → AreOf r vs o both_told (selection_by want now k r p b).items
chosen_puts vs r o true false k p b = selected_puts vs r o (other_marked p b.list.entries) k
chosen_puts vs r o false true k p b = (inl (refl, refl), tt)
chosen_puts vs r o true true k p b = tt
chosen_puts vs r o false false k p b = tt

at_puts : (vs : List Value) (r : ObjRef) (o : Object) (n : ActionName) (k : ℕ) (m : Option Entry) (p : Fixed) (b : Body) → AreOf r vs o both_told (selection_at n k m r p b).items
at_puts vs r o n k None p b = tt
at_puts vs r o n k (Some e) p b = chosen_puts vs r o (selection_wanted n e.selected) e.selected k p b

selection_puts : (vs : List Value) (r : ObjRef) (o : Object) (n : ActionName) (p : Fixed) (b : Body) → AreOf r vs o both_told (selection_worked n vs r p b).items
selection_puts (value.Int (pos (suc k)) ∷ []) r o n p b = at_puts (value.Int (pos (suc k)) ∷ []) r o n k (slice_get b.list.entries k) p b
selection_puts _ r o n p b = tt

only_deselected : (vs : List Value) (r : ObjRef) (o : Object) (now : Bool) (k : ℕ) (p : Fixed) (b : Body) → AreOf r vs o (can_put action.DeselectItem) (selection_by false now k r p b).items
only_deselected vs r o true k p b = (inl (refl, refl), tt)
only_deselected vs r o false k p b = tt

deselection_at : (vs : List Value) (r : ObjRef) (o : Object) (k : ℕ) (m : Option Entry) (p : Fixed) (b : Body) → AreOf r vs o (can_put action.DeselectItem) (selection_at action.DeselectItem k m r p b).items
deselection_at vs r o k None p b = tt
deselection_at vs r o k (Some e) p b = only_deselected vs r o e.selected k p b

deselection_puts : (vs : List Value) (r : ObjRef) (o : Object) (p : Fixed) (b : Body) → AreOf r vs o (can_put action.DeselectItem) (selection_worked action.DeselectItem vs r p b).items
deselection_puts (value.Int (pos (suc k)) ∷ []) r o p b = deselection_at (value.Int (pos (suc k)) ∷ []) r o k (slice_get b.list.entries k) p b
deselection_puts _ r o p b = tt

-- a list that changes: what halts and runs is an item of it

pieces_joined : (r : ObjRef) (vs : List Value) (o : Object) (ps : List Piece) (is js : List Item) → AreOf r vs o ps is → AreOf r vs o ps js → AreOf r vs o ps (is ++ js)
pieces_joined r vs o ps [] js h k = k
pieces_joined r vs o ps (i ∷ is) js h k = (h.0, pieces_joined r vs o ps is js h.1 k)

halted_puts : (r : ObjRef) (vs : List Value) (o : Object) (xs : List ObjRef) (keep : ObjRef → Bool) → Each (IsListed vs o) xs → AreOf r vs o list_pieces (map item.HaltMember (filter keep xs))
halted_puts r vs o [] keep h = tt
halted_puts r vs o (x ∷ xs) keep h = by (keep x) (halted_puts r vs o xs keep h.1)
  where
    by : (t : Bool) → AreOf r vs o list_pieces (map item.HaltMember (filter keep xs)) → AreOf r vs o list_pieces (map item.HaltMember (cond t (x ∷ filter keep xs) (filter keep xs)))
    by true more = (inl h.0, more)
    by false more = more

run_puts : (r : ObjRef) (vs : List Value) (o : Object) (xs : List ObjRef) (keep : ObjRef → Bool) → Each (IsListed vs o) xs → AreOf r vs o list_pieces (map item.RunMember (filter keep xs))
run_puts r vs o [] keep h = tt
run_puts r vs o (x ∷ xs) keep h = by (keep x) (run_puts r vs o xs keep h.1)
  where
    by : (t : Bool) → AreOf r vs o list_pieces (map item.RunMember (filter keep xs)) → AreOf r vs o list_pieces (map item.RunMember (cond t (x ∷ filter keep xs) (filter keep xs)))
    by true more = (inl h.0, more)
    by false more = more

abbrev Puts : ObjRef → List Value → Object → List Item → Type 0
Puts r vs o is = AreOf r vs o list_pieces is

first_puts : (r : ObjRef) (vs : List Value) (o : Object) (t : Bool) (v : Value) → Puts r vs o (if t then [] else event_with r event.FirstItemPresented v ∷ [])
first_puts r vs o true v = tt
first_puts r vs o false v = (inr (inl (refl, refl)), tt)

last_puts : (r : ObjRef) (vs : List Value) (o : Object) (t : Bool) (v : Value) → Puts r vs o (if t then [] else event_with r event.LastItemPresented v ∷ [])
last_puts r vs o true v = tt
last_puts r vs o false v = (inr (inr (inl (refl, refl))), tt)

head_puts : (r : ObjRef) (vs : List Value) (o : Object) (t : Bool) (v : Value) → Puts r vs o (if t then [] else event_with r event.HeadItems v ∷ [])
head_puts r vs o true v = tt
head_puts r vs o false v = (inr (inr (inr (inl (refl, refl)))), tt)

tail_puts : (r : ObjRef) (vs : List Value) (o : Object) (t : Bool) (v : Value) → Puts r vs o (if t then [] else event_with r event.TailItems v ∷ [])
tail_puts r vs o true v = tt
tail_puts r vs o false v = (inr (inr (inr (inr (inl (refl, refl))))), tt)

events_puts : (r : ObjRef) (vs : List Value) (o : Object) (a b : Shown) → Puts r vs o (list_events r a b)
events_puts r vs o a b =
    let first = truth_told event.FirstItemPresented r a.has_first b.has_first in
    let last = truth_told event.LastItemPresented r a.has_last b.has_last in
    let head = count_told event.HeadItems r a.head b.head in
    let tail = count_told event.TailItems r a.tail b.tail in
    pieces_joined r vs o list_pieces (first ++ last ++ head) tail
    (pieces_joined r vs o list_pieces (first ++ last) head
    (pieces_joined r vs o list_pieces first last (first_puts r vs o (are_same a.has_first b.has_first) (value.Bool b.has_first)) (last_puts r vs o (are_same a.has_last b.has_last) (value.Bool b.has_last)))
    (head_puts r vs o (a.head == b.head) (value.Int (counted b.head))))
    (tail_puts r vs o (a.tail == b.tail) (value.Int (counted b.tail)))

shown_puts : (r : ObjRef) (vs : List Value) (o : Object) (a b : Shown) → Each (IsListed vs o) a.items → Each (IsListed vs o) b.items → Puts r vs o (list_items r a b)
shown_puts r vs o a b h k =
    pieces_joined r vs o list_pieces (halted_members a.items b.items ++ run_members a.items b.items) (list_events r a b)
    (pieces_joined r vs o list_pieces (halted_members a.items b.items) (run_members a.items b.items)
    (halted_puts r vs o a.items (λ x. not (is_shown x b.items)) h) (run_puts r vs o b.items (λ x. not (is_shown x a.items)) k))
    (events_puts r vs o a b)

list_puts : (n : ActionName) (vs : List Value) (r : ObjRef) (o : Object) → Puts r vs o (list_worked n vs r o.fixed o.body).items
list_puts n vs r o = by (relisted n vs o.fixed o.body.list) (relisted_among n vs o)
  where
    by : (m : Option Listed) → IsListedIf vs o m → Puts r vs o (list_changed r o.fixed o.body m).items
    by None h = tt
    by (Some l) h =
        shown_puts r vs o (shows o.body.running o.fixed o.body.list) (shows o.body.running o.fixed l)
        (shown_among vs o o.body.running o.fixed o.body.list (own_among vs o)) (shown_among vs o o.body.running o.fixed l h)

-- what an action puts that only puts
pub plain_puts : (n : ActionName) (vs : List Value) (r : ObjRef) (o : Object) → AreOf r vs o (can_put n) (put_items n vs r o)
plain_puts action.Run vs r o = (inl refl, tt)
plain_puts action.Stop vs r o = (inl refl, tt)
plain_puts action.Preload vs r o = (inl refl, tt)
plain_puts action.Unload vs r o = (inl refl, (inr (inl refl), tt))
plain_puts action.Activate vs r o = (inl refl, tt)
plain_puts action.Deactivate vs r o = (inl refl, tt)
plain_puts action.SendEvent vs r o = puts_sent vs r o
plain_puts action.TestVariable vs r o = puts_tested vs r o
plain_puts action.CallActionSlot vs r o = puts_slot vs r o
plain_puts _ vs r o = tt

-- where the object is a list, and where it is none
if_list_puts : (r : ObjRef) (vs : List Value) (o : Object) (is : Bool) (w : Worked) → Puts r vs o w.items → Puts r vs o (if is then w else no_work o.body).items
if_list_puts r vs o true w h = h
if_list_puts r vs o false w h = tt

-- what an action puts that works a widget
pub widget_puts : (n : ActionName) (vs : List Value) (r : ObjRef) (o : Object) → AreOf r vs o (can_put n) (worked n vs r o.fixed o.body).items
widget_puts action.Move vs r o = token_puts vs r o o.fixed o.body (token_wanted action.Move vs o.fixed o.body)
widget_puts action.MoveTo vs r o = token_puts vs r o o.fixed o.body (token_wanted action.MoveTo vs o.fixed o.body)
widget_puts action.AddItem vs r o = if_list_puts r vs o (is_list_group o.fixed.class) (list_worked action.AddItem vs r o.fixed o.body) (list_puts action.AddItem vs r o)
widget_puts action.DelItem vs r o = if_list_puts r vs o (is_list_group o.fixed.class) (list_worked action.DelItem vs r o.fixed o.body) (list_puts action.DelItem vs r o)
widget_puts action.ScrollItems vs r o = if_list_puts r vs o (is_list_group o.fixed.class) (list_worked action.ScrollItems vs r o.fixed o.body) (list_puts action.ScrollItems vs r o)
widget_puts action.SetFirstItem vs r o = if_list_puts r vs o (is_list_group o.fixed.class) (list_worked action.SetFirstItem vs r o.fixed o.body) (list_puts action.SetFirstItem vs r o)
widget_puts action.SelectItem vs r o = selection_puts vs r o action.SelectItem o.fixed o.body
widget_puts action.DeselectItem vs r o = deselection_puts vs r o o.fixed o.body
widget_puts action.ToggleItem vs r o = selection_puts vs r o action.ToggleItem o.fixed o.body
widget_puts action.SetHighlightStatus vs r o = highlight_by vs r o o.fixed o.body
widget_puts action.Select vs r o = select_puts vs r o (are_same o.body.selected true) o.body (record o.body { selected = true })
widget_puts action.Deselect vs r o = deselect_puts vs r o (are_same o.body.selected false) o.body (record o.body { selected = false })
widget_puts _ vs r o = tt

interact_puts : (vs : List Value) (b : Bool) (r : ObjRef) (o : Object) → AreOf r vs o (can_put action.SetInteractionStatus) (interaction_items vs b r)
interact_puts (value.Bool false ∷ []) true r o = (inl (refl, refl), tt)
interact_puts _ b r o = tt

pub puts_of : PutsWhatItCan
puts_of fs b action.Run vs r o = plain_puts action.Run vs r o
puts_of fs b action.Stop vs r o = plain_puts action.Stop vs r o
puts_of fs b action.Preload vs r o = plain_puts action.Preload vs r o
puts_of fs b action.Unload vs r o = plain_puts action.Unload vs r o
puts_of fs b action.Activate vs r o = plain_puts action.Activate vs r o
puts_of fs b action.Deactivate vs r o = plain_puts action.Deactivate vs r o
puts_of fs b action.SendEvent vs r o = plain_puts action.SendEvent vs r o
puts_of fs b action.TestVariable vs r o = plain_puts action.TestVariable vs r o
puts_of fs b action.CallActionSlot vs r o = plain_puts action.CallActionSlot vs r o
puts_of fs b action.SetData vs r o = puts_data fs vs r o
puts_of fs b action.TransitionTo vs r o = (inl refl, tt)
puts_of fs b action.Launch vs r o = (inl refl, tt)
puts_of fs b action.Quit vs r o = (inl tt, tt)
puts_of fs b action.Fork vs r o = (inl (refl, refl), tt)
puts_of fs b action.SetInteractionStatus vs r o = interact_puts vs b r o
puts_of fs b action.Move vs r o = widget_puts action.Move vs r o
puts_of fs b action.MoveTo vs r o = widget_puts action.MoveTo vs r o
puts_of fs b action.AddItem vs r o = widget_puts action.AddItem vs r o
puts_of fs b action.DelItem vs r o = widget_puts action.DelItem vs r o
puts_of fs b action.ScrollItems vs r o = widget_puts action.ScrollItems vs r o
puts_of fs b action.SetFirstItem vs r o = widget_puts action.SetFirstItem vs r o
puts_of fs b action.SelectItem vs r o = widget_puts action.SelectItem vs r o
puts_of fs b action.DeselectItem vs r o = widget_puts action.DeselectItem vs r o
puts_of fs b action.ToggleItem vs r o = widget_puts action.ToggleItem vs r o
puts_of fs b action.SetHighlightStatus vs r o = widget_puts action.SetHighlightStatus vs r o
puts_of fs b action.Select vs r o = widget_puts action.Select vs r o
puts_of fs b action.Deselect vs r o = widget_puts action.Deselect vs r o
puts_of fs b _ vs r o = tt
