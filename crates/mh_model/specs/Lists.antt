-- List groups: what a list shows, what comes of a change of it, and which of its items are selected.
use Rattle.std.specs.Prelude.{ℕ, zero, suc, ◌+◌, ◌-◌, ◌==◌, Bool, true, false, ◌&&◌, not, nat_le, nat_lt, if◌then◌else◌, List, [], ◌∷◌, ◌++◌, length, take, drop, map, filter, slice_get, Option, Some, None, ℤ, pos, negsuc, ◌+ℤ◌}
use Rattle.std.specs.Int.{int_rem_euclid}
use Rattle.std.specs.List.{list_any, position, zip}
use Rattle.std.specs.Option.{option_map}
use Rattle.mh_base.specs.declared.obj_ref.ObjRef.{ObjRef}
use Rattle.mh_base.specs.declared.value.Value.{Value}
use Rattle.mh_base.specs.declared.value.Value.TheVariants as value
use Rattle.mh_base.specs.declared.event.EventType.{EventType}
use Rattle.mh_base.specs.declared.event.EventType.TheVariants as event
use Rattle.mh_group.specs.declared.action_name.ActionName.{ActionName}
use Rattle.mh_group.specs.declared.action_name.ActionName.TheVariants as action
use Rattle.mh_group.specs.declared.attribute.Attribute.TheVariants as attribute
use Rattle.mh_group.specs.declared.written.Position.{Position}
use Rattle.mh_group.specs.Same.{are_same}
use Rattle.mh_model.specs.declared.item.Item.{Item}
use Rattle.mh_model.specs.declared.item.Item.TheVariants as item
use Rattle.mh_model.specs.declared.object.listing.Entry.{Entry}
use Rattle.mh_model.specs.declared.object.Body.{Body}
use Rattle.mh_model.specs.declared.object.Fixed.{Fixed}
use Rattle.mh_model.specs.Listed.{Listed}
use Rattle.mh_model.specs.Programs.{counted}
use Rattle.mh_model.specs.Property.{held, as_bool}
use Rattle.mh_model.specs.ListItems.{has_item}
use Rattle.mh_model.specs.Reference.{same_ref}
use Rattle.mh_model.specs.Tokens.{positions}
use Rattle.mh_model.specs.Widget.{Worked, no_work, event_with}
use Rattle.mh_model.specs.Limits.{most_items}

-- What a list shows

abbrev pub wraps : Fixed → Bool
wraps p = as_bool false (held attribute.WrapAround p.properties)

-- the objects that the items are
abbrev pub objects_of : List Entry → List ObjRef
objects_of es = map (λ e. e.object) es

-- how many items stand before the first cell's
abbrev pub before_first : Listed → ℕ
before_first l = l.first - 1

-- the items in the cells, in their order; with wrapping the first item follows the last
abbrev pub in_cells : Fixed → Listed → List ObjRef
in_cells p l =
    take (length (positions p))
    (drop (before_first l) (objects_of l.entries)
    ++ (if wraps p then take (before_first l) (objects_of l.entries) else []))

-- the items that are shown, in the order of their cells, and what the four events tell: whether the first item is
-- shown, and the last, and how many stand before those that are shown, and behind
pub record Shown : Type 0 where
  pub items : List ObjRef
  pub has_first : Bool
  pub has_last : Bool
  pub head : ℕ
  pub tail : ℕ

abbrev pub nothing_shown : Shown
nothing_shown = record { items = []; has_first = false; has_last = false; head = 0; tail = 0 }

abbrev pub is_shown : ObjRef → List ObjRef → Bool
is_shown r rs = list_any (same_ref r) rs

abbrev pub is_shown_if : Option Entry → List ObjRef → Bool
is_shown_if None rs = false
is_shown_if (Some e) rs = is_shown e.object rs

-- how many items stand behind those in the cells, where some are
abbrev pub behind_cells : Listed → List ObjRef → ℕ
behind_cells l [] = 0
behind_cells l (r ∷ rs) = length l.entries - (before_first l + length (r ∷ rs))

abbrev pub shown_in : Fixed → Listed → List ObjRef → Shown
shown_in p l rs = record {
  items = rs;
  has_first = is_shown_if (slice_get l.entries 0) rs;
  has_last = is_shown_if (slice_get l.entries (length l.entries - 1)) rs;
  head = if wraps p then 0 else before_first l;
  tail = if wraps p then 0 else behind_cells l rs;
}

-- a list shows its items while it runs
abbrev pub shows : Bool → Fixed → Listed → Shown
shows running p l = if running then shown_in p l (in_cells p l) else nothing_shown

-- What comes of a change: those halt that are no longer shown, those run that were not shown before, and then
-- the events tell what is told otherwise.

abbrev pub halted_members : List ObjRef → List ObjRef → List Item
halted_members before after = map item.HaltMember (filter (λ r. not (is_shown r after)) before)

abbrev pub run_members : List ObjRef → List ObjRef → List Item
run_members before after = map item.RunMember (filter (λ r. not (is_shown r before)) after)

abbrev pub truth_told : EventType → ObjRef → Bool → Bool → List Item
truth_told kind r before after =
    if are_same before after then [] else event_with r kind (value.Bool after) ∷ []

abbrev pub count_told : EventType → ObjRef → ℕ → ℕ → List Item
count_told kind r before after =
    if before == after then [] else event_with r kind (value.Int (counted after)) ∷ []

abbrev pub list_events : ObjRef → Shown → Shown → List Item
list_events r before after =
    truth_told event.FirstItemPresented r before.has_first after.has_first
    ++ truth_told event.LastItemPresented r before.has_last after.has_last
    ++ count_told event.HeadItems r before.head after.head
    ++ count_told event.TailItems r before.tail after.tail

abbrev pub list_items : ObjRef → Shown → Shown → List Item
list_items r before after =
    halted_members before.items after.items ++ run_members before.items after.items
    ++ list_events r before after

-- where the items that are shown are placed
abbrev pub cells_placed : Fixed → Shown → List (ObjRef × Position)
cells_placed p s = zip s.items (positions p)

-- Changes of the items and of the first one; none where nothing is changed

-- an item with this number, from 1 on, that is not among them yet, where there is room for it
abbrev pub inserted : ℕ → ObjRef → Listed → Option Listed
inserted i r l =
    if nat_le 1 i && nat_le i (length l.entries + 1) && nat_lt (length l.entries) most_items && not (has_item r l.entries)
    then Some (record {
      entries = take (i - 1) l.entries ++ record { object = r; selected = false } ∷ drop (i - 1) l.entries;
      first = if nat_lt i l.first then l.first + 1 else l.first;
    })
    else None

-- at least 1, and at most as many as there are
abbrev pub kept_within : ℕ → ℕ → ℕ
kept_within n zero = 1
kept_within n (suc most) = if nat_le n (suc most) then n else suc most

-- the item behind so many goes, with its selection
abbrev pub removed : Listed → ℕ → Listed
removed l k = record {
  entries = take k l.entries ++ drop (k + 1) l.entries;
  first = kept_within (if nat_lt (k + 1) l.first then l.first - 1 else l.first) (length l.entries - 1);
}

abbrev pub without_item : ObjRef → Listed → Option Listed
without_item r l = option_map (removed l) (position (λ e. same_ref r e.object) l.entries)

-- the item with this number comes first, if there is one and it does not yet
abbrev pub first_set : ℤ → Listed → Option Listed
first_set (pos n) l =
    if nat_le 1 n && nat_le n (length l.entries) && not (n == l.first) then Some (record l { first = n })
    else None
first_set (negsuc n) l = None

-- the number of the item so many behind the first; with wrapping the first item follows the last
abbrev pub scrolled_to : Bool → ℤ → Listed → ℤ
scrolled_to wrapping n l =
    if wrapping && nat_lt 0 (length l.entries)
    then int_rem_euclid (pos (before_first l) +ℤ n) (pos (length l.entries)) +ℤ pos 1
    else pos l.first +ℤ n

abbrev pub relisted : ActionName → List Value → Fixed → Listed → Option Listed
relisted action.AddItem (value.Int (pos i) ∷ value.Object r ∷ []) p l = inserted i r l
relisted action.DelItem (value.Object r ∷ []) p l = without_item r l
relisted action.ScrollItems (value.Int n ∷ []) p l = first_set (scrolled_to (wraps p) n l) l
relisted action.SetFirstItem (value.Int n ∷ []) p l = first_set n l
relisted _ vs p l = None

abbrev pub list_changed : ObjRef → Fixed → Body → Option Listed → Worked
list_changed r p b None = no_work b
list_changed r p b (Some l) = record {
  body = record b { list = l };
  placed = cells_placed p (shows b.running p l);
  items = list_items r (shows b.running p b.list) (shows b.running p l);
}

abbrev pub list_worked : ActionName → List Value → ObjRef → Fixed → Body → Worked
list_worked n vs r p b = list_changed r p b (relisted n vs p b.list)

-- Selection

-- the item behind so many is selected, or no longer is
abbrev pub marked_at : ℕ → Bool → List Entry → List Entry
marked_at k on [] = []
marked_at zero on (e ∷ es) = record e { selected = on } ∷ es
marked_at (suc k) on (e ∷ es) = e ∷ marked_at k on es

abbrev pub is_marked : Option Entry → Bool
is_marked None = false
is_marked (Some e) = e.selected

-- the one that is selected, where only one may be
abbrev pub other_marked : Fixed → List Entry → Option ℕ
other_marked p es =
    if as_bool false (held attribute.MultipleSelection p.properties) then None
    else position (λ (e : Entry). e.selected) es

abbrev pub item_event : ObjRef → EventType → ℕ → Item
item_event r kind k = event_with r kind (value.Int (counted (k + 1)))

abbrev pub with_entries : Body → List Entry → Body
with_entries b es = record b { list = record b.list { entries = es } }

abbrev pub unmarked : Option ℕ → List Entry → List Entry
unmarked None es = es
unmarked (Some k) es = marked_at k false es

abbrev pub unmark_items : ObjRef → Option ℕ → List Item
unmark_items r None = []
unmark_items r (Some k) = item_event r event.ItemDeselected k ∷ []

-- an item that is not selected is, and another one no longer is where only one may be
abbrev pub item_selected : ℕ → ObjRef → Fixed → Body → Worked
item_selected k r p b = record {
  body = with_entries b (marked_at k true (unmarked (other_marked p b.list.entries) b.list.entries));
  placed = [];
  items = unmark_items r (other_marked p b.list.entries) ++ item_event r event.ItemSelected k ∷ [];
}

abbrev pub item_deselected : ℕ → ObjRef → Body → Worked
item_deselected k r b = record {
  body = with_entries b (marked_at k false b.list.entries);
  placed = [];
  items = item_event r event.ItemDeselected k ∷ [];
}

-- to be selected or not, as each action has it
abbrev pub selection_wanted : ActionName → Bool → Bool
selection_wanted action.SelectItem now = true
selection_wanted action.DeselectItem now = false
selection_wanted _ now = not now

abbrev pub selection_by : Bool → Bool → ℕ → ObjRef → Fixed → Body → Worked
selection_by true false k r p b = item_selected k r p b
selection_by false true k r p b = item_deselected k r b
selection_by _ _ k r p b = no_work b

abbrev pub selection_at : ActionName → ℕ → Option Entry → ObjRef → Fixed → Body → Worked
selection_at n k None r p b = no_work b
selection_at n k (Some e) r p b = selection_by (selection_wanted n e.selected) e.selected k r p b

abbrev pub selection_worked : ActionName → List Value → ObjRef → Fixed → Body → Worked
selection_worked n (value.Int (pos (suc k)) ∷ []) r p b = selection_at n k (slice_get b.list.entries k) r p b
selection_worked n _ r p b = no_work b
