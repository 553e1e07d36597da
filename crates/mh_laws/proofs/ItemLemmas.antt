-- An action puts no item into a list but those that its description says.
use Rattle.std.specs.Prelude.{◌≡◌, ◌⊎◌, ℕ, zero, suc, ◌||◌, slice_get, Bool, true, false, if◌then◌else◌, List, [], ◌∷◌, Option, Some, None, ℤ, pos, negsuc, refl}
use Rattle.std.proofs.Common.{inl, inr, ap, ◌∙◌, sym, subst}
use Rattle.mh_base.specs.declared.event.EventType.TheVariants as event
use Rattle.mh_base.specs.declared.obj_ref.ObjRef.{ObjRef}
use Rattle.mh_base.specs.declared.value.Value.TheVariants as value
use Rattle.mh_base.specs.declared.value.Value.{Value}
use Rattle.mh_group.specs.declared.action_name.ActionName.TheVariants as action
use Rattle.mh_group.specs.declared.action_name.ActionName.{ActionName}
use Rattle.mh_group.specs.Table.{is_list_group}
use Rattle.mh_model.specs.declared.object.listing.Entry.{Entry}
use Rattle.mh_model.specs.declared.object.Body.{Body}
use Rattle.mh_model.specs.declared.object.Fixed.{Fixed}
use Rattle.mh_model.specs.declared.object.Object.{Object}
use Rattle.mh_model.specs.EntryFields.{highlit, button_set, button_worked}
use Rattle.mh_model.specs.Items.{plain_event}
use Rattle.mh_model.specs.ListItems.{has_item}
use Rattle.mh_model.specs.Listed.{Listed}
use Rattle.mh_group.specs.Same.{are_same}
use Rattle.mh_model.specs.Lists.{relisted, list_changed, list_worked, marked_at, other_marked, unmarked, selection_wanted, selection_by, selection_at, selection_worked}
use Rattle.mh_model.specs.Programs.{counted}
use Rattle.mh_model.specs.Reference.{same_ref}
use Rattle.mh_model.specs.Tokens.{token_wanted, can_turn, turned}
use Rattle.mh_model.specs.Widget.{Worked, no_work, event_with}
use Rattle.mh_laws.specs.Describing.{says, IsSaid, IsListed, ListsWhatItSays}
use Rattle.mh_model.proofs.ServiceLemmas.{same_ref-same}
use Rattle.mh_laws.proofs.ListedLemmas.{EntriesListed, IsListedIf, relisted_among}

-- an item of one that is among such
listed_item : (vs : List Value) (o : Object) (es : List Entry) (q : ObjRef) → EntriesListed vs o es → has_item q es ≡ true → IsListed vs o q
listed_item vs o [] q h has = absurd cc
listed_item vs o (e ∷ es) q h has = by (same_ref q e.object) refl has (λ more. listed_item vs o es q h.1 more)
  where
    by : (b : Bool) → same_ref q e.object ≡ b → (b || has_item q es) ≡ true → (has_item q es ≡ true → IsListed vs o q) → IsListed vs o q
    by true is has below = subst (λ (x : ObjRef). IsListed vs o x) (sym (same_ref-same q e.object is)) h.0
    by false is has below = below has

changed_list : (vs : List Value) (o : Object) (m : Option Listed) (r q : ObjRef) → IsListedIf vs o m → has_item q (list_changed r o.fixed o.body m).body.list.entries ≡ true → IsListed vs o q
changed_list vs o None r q h has = inl has
changed_list vs o (Some l) r q h has = listed_item vs o l.entries q h has

-- with one value or none nothing is put into a list
pub nothing_second : (vs : List Value) (o : Object) (q : ObjRef) → slice_get vs 1 ≡ None → IsListed vs o q → has_item q o.body.list.entries ≡ true
nothing_second vs o q none (inl h) = h
nothing_second vs o q none (inr e) = let never : None ≡ Some (value.Object q) = sym none ∙ e in absurd cc

deleted_list : (vs : List Value) (o : Object) (r q : ObjRef) → has_item q (list_worked action.DelItem vs r o.fixed o.body).body.list.entries ≡ true → has_item q o.body.list.entries ≡ true
deleted_list (value.Object x ∷ []) o r q has =
    nothing_second (value.Object x ∷ []) o q refl (changed_list (value.Object x ∷ []) o (relisted action.DelItem (value.Object x ∷ []) o.fixed o.body.list) r q (relisted_among action.DelItem (value.Object x ∷ []) o) has)
deleted_list _ o r q has = has

scrolled_list : (vs : List Value) (o : Object) (r q : ObjRef) → has_item q (list_worked action.ScrollItems vs r o.fixed o.body).body.list.entries ≡ true → has_item q o.body.list.entries ≡ true
scrolled_list (value.Int x ∷ []) o r q has =
    nothing_second (value.Int x ∷ []) o q refl (changed_list (value.Int x ∷ []) o (relisted action.ScrollItems (value.Int x ∷ []) o.fixed o.body.list) r q (relisted_among action.ScrollItems (value.Int x ∷ []) o) has)
scrolled_list _ o r q has = has

first_list : (vs : List Value) (o : Object) (r q : ObjRef) → has_item q (list_worked action.SetFirstItem vs r o.fixed o.body).body.list.entries ≡ true → has_item q o.body.list.entries ≡ true
first_list (value.Int x ∷ []) o r q has =
    nothing_second (value.Int x ∷ []) o q refl (changed_list (value.Int x ∷ []) o (relisted action.SetFirstItem (value.Int x ∷ []) o.fixed o.body.list) r q (relisted_among action.SetFirstItem (value.Int x ∷ []) o) has)
first_list _ o r q has = has

-- selection leaves the items as they are

marked_items : (k : ℕ) (on : Bool) (es : List Entry) (q : ObjRef) → has_item q (marked_at k on es) ≡ has_item q es
marked_items k on [] q = refl
marked_items zero on (e ∷ es) q = refl
marked_items (suc k) on (e ∷ es) q = ap (λ (b : Bool). same_ref q e.object || b) (marked_items k on es q)

unmarked_items : (m : Option ℕ) (es : List Entry) (q : ObjRef) → has_item q (unmarked m es) ≡ has_item q es
unmarked_items None es q = refl
unmarked_items (Some k) es q = marked_items k false es q

selected_list : (want now : Bool) (k : ℕ) (r : ObjRef) (p : Fixed) (b : Body) (q : ObjRef) → has_item q (selection_by want now k r p b).body.list.entries ≡ has_item q b.list.entries
selected_list true false k r p b q = marked_items k true (unmarked (other_marked p b.list.entries) b.list.entries) q ∙ unmarked_items (other_marked p b.list.entries) b.list.entries q
selected_list false true k r p b q = marked_items k false b.list.entries q
selected_list true true k r p b q = refl
selected_list false false k r p b q = refl

selection_list : (n : ActionName) (vs : List Value) (r : ObjRef) (p : Fixed) (b : Body) (q : ObjRef) → has_item q (selection_worked n vs r p b).body.list.entries ≡ has_item q b.list.entries
selection_list n (value.Int (pos (suc k)) ∷ []) r p b q = by (slice_get b.list.entries k)
  where
    by : (m : Option Entry) → has_item q (selection_at n k m r p b).body.list.entries ≡ has_item q b.list.entries
    by None = refl
    by (Some e) = selected_list (selection_wanted n e.selected) e.selected k r p b q
selection_list n _ r p b q = refl

turned_list : (r : ObjRef) (p : Fixed) (b : Body) (m : Option ℤ) (q : ObjRef) → has_item q (turned r p b m).body.list.entries ≡ has_item q b.list.entries
turned_list r p b None q = refl
turned_list r p b (Some (negsuc n)) q = refl
turned_list r p b (Some (pos n)) q = by (can_turn p b n)
  where
    by : (t : Bool) → has_item q (if t then record { body = record b { token = n }; placed = []; items = event_with r event.TokenMovedFrom (value.Int (counted b.token)) ∷ event_with r event.TokenMovedTo (value.Int (counted n)) ∷ [] } else no_work b).body.list.entries ≡ has_item q b.list.entries
    by true = refl
    by false = refl

highlit_list : (on : Bool) (r : ObjRef) (b : Body) (q : ObjRef) → has_item q (highlit on r b).body.list.entries ≡ has_item q b.list.entries
highlit_list on r b q = by (are_same b.highlighted on)
  where
    by : (t : Bool) → has_item q (if t then no_work b else record { body = record b { highlighted = on }; placed = []; items = plain_event r (if on then event.HighlightOn else event.HighlightOff) ∷ [] }).body.list.entries ≡ has_item q b.list.entries
    by true = refl
    by false = refl

button_list : (on : Bool) (r : ObjRef) (b : Body) (q : ObjRef) → has_item q (button_set on r b).body.list.entries ≡ has_item q b.list.entries
button_list on r b q = by (are_same b.selected on)
  where
    by : (t : Bool) → has_item q (if t then no_work b else record { body = record b { selected = on }; placed = []; items = plain_event r (if on then event.IsSelected else event.IsDeselected) ∷ [] }).body.list.entries ≡ has_item q b.list.entries
    by true = refl
    by false = refl

highlight_list : (vs : List Value) (r : ObjRef) (p : Fixed) (b : Body) (q : ObjRef) → has_item q (button_worked action.SetHighlightStatus vs r p b).body.list.entries ≡ has_item q b.list.entries
highlight_list (value.Bool on ∷ []) r p b q = highlit_list on r b q
highlight_list _ r p b q = refl

either : {A B : Type 0} → (A → B) → A ⊎ B → B
either f (inl a) = f a
either f (inr b) = b

-- where the object is a list, and where it is none
only_list : (is : Bool) (b : Body) (w : Worked) (q : ObjRef) → has_item q (if is then w else no_work b).body.list.entries ≡ true → (has_item q w.body.list.entries ≡ true) ⊎ (has_item q b.list.entries ≡ true)
only_list true b w q has = inl has
only_list false b w q has = inr has

pub lists_said : ListsWhatItSays
lists_said action.AddItem vs r p b q has = by (only_list (is_list_group p.class) b (list_worked action.AddItem vs r p b) q has)
  where
    said : IsListed vs (record { fixed = p; body = b }) q → (has_item q b.list.entries ≡ true) ⊎ IsSaid vs (says action.AddItem) q
    said (inl h) = inl h
    said (inr e) = inr (inl e)

    by : (has_item q (list_worked action.AddItem vs r p b).body.list.entries ≡ true) ⊎ (has_item q b.list.entries ≡ true) → (has_item q b.list.entries ≡ true) ⊎ IsSaid vs (says action.AddItem) q
    by (inl h) = said (changed_list vs (record { fixed = p; body = b }) (relisted action.AddItem vs p b.list) r q (relisted_among action.AddItem vs (record { fixed = p; body = b })) h)
    by (inr h) = inl h
lists_said action.DelItem vs r p b q has = inl (either (deleted_list vs (record { fixed = p; body = b }) r q) (only_list (is_list_group p.class) b (list_worked action.DelItem vs r p b) q has))
lists_said action.ScrollItems vs r p b q has = inl (either (scrolled_list vs (record { fixed = p; body = b }) r q) (only_list (is_list_group p.class) b (list_worked action.ScrollItems vs r p b) q has))
lists_said action.SetFirstItem vs r p b q has = inl (either (first_list vs (record { fixed = p; body = b }) r q) (only_list (is_list_group p.class) b (list_worked action.SetFirstItem vs r p b) q has))
lists_said action.SelectItem vs r p b q has = inl (sym (selection_list action.SelectItem vs r p b q) ∙ has)
lists_said action.DeselectItem vs r p b q has = inl (sym (selection_list action.DeselectItem vs r p b q) ∙ has)
lists_said action.ToggleItem vs r p b q has = inl (sym (selection_list action.ToggleItem vs r p b q) ∙ has)
lists_said action.Move vs r p b q has = inl (sym (turned_list r p b (token_wanted action.Move vs p b) q) ∙ has)
lists_said action.MoveTo vs r p b q has = inl (sym (turned_list r p b (token_wanted action.MoveTo vs p b) q) ∙ has)
lists_said action.SetHighlightStatus vs r p b q has = inl (sym (highlight_list vs r p b q) ∙ has)
lists_said action.Select vs r p b q has = inl (sym (button_list true r b q) ∙ has)
lists_said action.Deselect vs r p b q has = inl (sym (button_list false r b q) ∙ has)
lists_said _ vs r p b q has = inl has
