-- Each event that the table lists for an action and a class comes of it.
use Rattle.std.specs.Prelude.{◌≡◌, ℕ, Bool, true, false, if◌then◌else◌, List, [], ◌∷◌, ◌++◌, Some, pos, refl}
use Rattle.std.proofs.Common.{ap, ◌∙◌}
use Rattle.mh_base.specs.declared.event.EventType.TheVariants as event
use Rattle.mh_base.specs.declared.event.EventType.{EventType}
use Rattle.mh_base.specs.declared.obj_ref.ObjRef.{ObjRef}
use Rattle.mh_base.specs.declared.value.Value.TheVariants as value
use Rattle.mh_base.specs.declared.value.Value.{Value}
use Rattle.mh_base.specs.Event.{number_of}
use Rattle.mh_group.specs.declared.action_name.ActionName.TheVariants as action
use Rattle.mh_group.specs.declared.action_name.ActionName.{ActionName}
use Rattle.mh_group.specs.declared.attribute.Attribute.TheVariants as attribute
use Rattle.mh_group.specs.declared.class.Class.TheVariants as class
use Rattle.mh_group.specs.declared.class.Class.{Class}
use Rattle.mh_group.specs.Table.{admits, may_emit, prepare_events, run_events, window_events}
use Rattle.mh_model.specs.declared.held.Held.TheVariants as of
use Rattle.mh_model.specs.declared.object.listing.Entry.{Entry}
use Rattle.mh_model.specs.declared.object.Fixed.{Fixed}
use Rattle.mh_model.specs.declared.object.Object.{Object}
use Rattle.mh_model.specs.Groups.{entering}
use Rattle.mh_model.specs.Lifecycle.{halt_items}
use Rattle.mh_model.specs.ListItems.{no_list}
use Rattle.mh_model.specs.Listed.{Listed}
use Rattle.mh_model.specs.Service.{fresh}
use Rattle.mh_laws.specs.Describing.{kinds, events_put, is_listed, IsEmitted, ListsWhatIsEmitted}
use Rattle.mh_laws.proofs.LeadingLemmas.{entered_runs}

-- an object of the class, with content, members, a row of a movement table, a cell, and these items of a list

abbrev part_of : Class → Fixed
part_of c = record {
  key = record { group = []; number = 1 };
  class = c;
  properties =
      record { attribute = attribute.OrigContent; held = of.Value (value.Octets []) }
      ∷ record { attribute = attribute.MovementTable; held = of.Rows ((pos 0 ∷ []) ∷ []) }
      ∷ record { attribute = attribute.Positions; held = of.Positions (record { x = pos 0; y = pos 0 } ∷ []) }
      ∷ [];
}

abbrev with_list : Class → Bool → Bool → Listed → Object
with_list c available running l = record {
  fixed = part_of c;
  body = record (fresh (part_of c)).body { value = Some (value.Bool true); available = available; running = running; list = l };
}

abbrev one : Class → Bool → Bool → Object
one c available running = with_list c available running no_list

abbrev entry : ℕ → Bool → Entry
entry n on = record { object = record { group = []; number = n }; selected = on }

abbrev items : List Entry → ℕ → Listed
items es n = record { entries = es; first = n }

abbrev number : ℕ → List Value
number n = value.Int (pos n) ∷ []

-- these values and this object show it
abbrev comes_with : (n : ActionName) (c : Class) (e : EventType) (vs : List Value) (b available running : Bool) (l : Listed) → is_listed (events_put [] b n vs (with_list c available running l).fixed.key (with_list c available running l)) e ≡ true → IsEmitted n c e
comes_with n c e vs b available running l h = record { values = vs; object = with_list c available running l; class = refl; interacts = b; comes = h }

comes_as : (n : ActionName) (c : Class) (e : EventType) (vs : List Value) (available running : Bool) → is_listed (events_put [] false n vs (one c available running).fixed.key (one c available running)) e ≡ true → IsEmitted n c e
comes_as n c e vs available running h = comes_with n c e vs false available running no_list h

-- what is listed comes of an object that is to run: of a list by one that shows all its items, and by one that does not

list_runs : (e : EventType) → is_listed (run_events class.ListGroup) e ≡ true → IsEmitted action.Run class.ListGroup e
list_runs event.HeadItems h = comes_with action.Run class.ListGroup event.HeadItems [] false false false (items (entry 2 false ∷ entry 3 false ∷ []) 2) refl
list_runs event.TailItems h = comes_with action.Run class.ListGroup event.TailItems [] false false false (items (entry 2 false ∷ entry 3 false ∷ []) 1) refl
list_runs event.FirstItemPresented h = comes_with action.Run class.ListGroup event.FirstItemPresented [] false false false (items (entry 2 false ∷ []) 1) refl
list_runs event.LastItemPresented h = comes_with action.Run class.ListGroup event.LastItemPresented [] false false false (items (entry 2 false ∷ []) 1) refl
list_runs event.IsAvailable h = comes_as action.Run class.ListGroup event.IsAvailable [] false false refl
list_runs event.IsRunning h = comes_as action.Run class.ListGroup event.IsRunning [] false false refl
list_runs _ h = absurd cc

run_comes : (c : Class) (e : EventType) → is_listed (run_events c) e ≡ true → IsEmitted action.Run c e
run_comes class.Text e h = comes_as action.Run class.Text e [] false false h
run_comes class.EntryField e h = comes_as action.Run class.EntryField e [] false false h
run_comes class.ListGroup e h = list_runs e h
run_comes class.TokenGroup e h = comes_as action.Run class.TokenGroup e [] false false h
run_comes c e h = comes_as action.Run c e [] false false h

-- only a link is activated
activate_comes : (c : Class) (e : EventType) → is_listed (may_emit action.Activate c) e ≡ true → IsEmitted action.Activate c e
activate_comes class.Link e h = comes_as action.Activate class.Link e [] false false h
activate_comes _ e h = absurd cc

prepare_comes : (c : Class) (e : EventType) → is_listed (prepare_events c) e ≡ true → is_listed (events_put [] false action.Preload [] (one c false false).fixed.key (one c false false)) e ≡ true
prepare_comes class.Text e h = h
prepare_comes class.EntryField e h = h
prepare_comes _ e h = h

-- what is listed where the class has a rule is listed
admitted_only : (b : Bool) (es : List EventType) (e : EventType) → is_listed (if b then es else []) e ≡ true → is_listed es e ≡ true
admitted_only true es e h = h
admitted_only false es e h = absurd cc

sent_of_all : (c : Class) (e : EventType) → is_listed (events_put [] false action.SendEvent (value.Object (one c true true).fixed.key ∷ value.Int (pos (number_of e)) ∷ []) (one c true true).fixed.key (one c true true)) e ≡ true
sent_of_all c event.IsAvailable = refl
sent_of_all c _ = refl

-- Stopping

stop_comes : (c : Class) (e : EventType) → is_listed (event.IsStopped ∷ []) e ≡ true → is_listed (kinds (halt_items (one c true true).fixed.key (Some (one c true true))) ++ []) e ≡ true
stop_comes class.TokenGroup e h = h
stop_comes class.ListGroup e h = h
stop_comes _ e h = h

unload_comes : (c : Class) (e : EventType) → is_listed (event.IsStopped ∷ event.IsDeleted ∷ []) e ≡ true → is_listed (events_put [] false action.Unload [] (one c true true).fixed.key (one c true true)) e ≡ true
unload_comes class.TokenGroup e h = h
unload_comes class.ListGroup e h = h
unload_comes _ e h = h

-- Widgets

abbrev marked : Class → Object
marked c = record (one c true true) { body = record (one c true true).body { highlighted = true; selected = true } }

highlight_comes : (c : Class) (e : EventType) → is_listed (event.HighlightOn ∷ event.HighlightOff ∷ []) e ≡ true → IsEmitted action.SetHighlightStatus c e
highlight_comes c event.HighlightOn h = comes_as action.SetHighlightStatus c event.HighlightOn (value.Bool true ∷ []) true true refl
highlight_comes c event.HighlightOff h = record { values = value.Bool false ∷ []; object = marked c; class = refl; interacts = false; comes = refl }
highlight_comes c _ h = absurd cc

-- all four events come of a list of two that is scrolled by one; of one that is put into a list or taken off it they come
-- by threes and ones

abbrev two : Listed
two = items (entry 2 false ∷ entry 3 false ∷ []) 1

abbrev last_of_two : Listed
last_of_two = items (entry 2 false ∷ entry 3 false ∷ []) 2

abbrev single : Listed
single = items (entry 2 false ∷ []) 1

scroll_comes : (c : Class) (e : EventType) → is_listed (may_emit action.ScrollItems c) e ≡ true → IsEmitted action.ScrollItems c e
scroll_comes class.ListGroup e h = comes_with action.ScrollItems class.ListGroup e (number 1) false true true two h
scroll_comes _ e h = absurd cc

first_comes : (c : Class) (e : EventType) → is_listed (may_emit action.SetFirstItem c) e ≡ true → IsEmitted action.SetFirstItem c e
first_comes class.ListGroup e h = comes_with action.SetFirstItem class.ListGroup e (number 2) false true true two h
first_comes _ e h = absurd cc

abbrev put_in : ℕ → List Value
put_in i = value.Int (pos i) ∷ value.Object (record { group = []; number = 9 }) ∷ []

abbrev taken_out : ℕ → List Value
taken_out n = value.Object (record { group = []; number = n }) ∷ []

added_comes : (e : EventType) → is_listed window_events e ≡ true → IsEmitted action.AddItem class.ListGroup e
added_comes event.FirstItemPresented h = comes_with action.AddItem class.ListGroup event.FirstItemPresented (put_in 1) false true true no_list refl
added_comes event.LastItemPresented h = comes_with action.AddItem class.ListGroup event.LastItemPresented (put_in 1) false true true no_list refl
added_comes event.HeadItems h = comes_with action.AddItem class.ListGroup event.HeadItems (put_in 1) false true true last_of_two refl
added_comes event.TailItems h = comes_with action.AddItem class.ListGroup event.TailItems (put_in 2) false true true single refl
added_comes _ h = absurd cc

add_comes : (c : Class) (e : EventType) → is_listed (may_emit action.AddItem c) e ≡ true → IsEmitted action.AddItem c e
add_comes class.ListGroup e h = added_comes e h
add_comes _ e h = absurd cc

deleted_comes : (e : EventType) → is_listed window_events e ≡ true → IsEmitted action.DelItem class.ListGroup e
deleted_comes event.FirstItemPresented h = comes_with action.DelItem class.ListGroup event.FirstItemPresented (taken_out 2) false true true single refl
deleted_comes event.LastItemPresented h = comes_with action.DelItem class.ListGroup event.LastItemPresented (taken_out 2) false true true single refl
deleted_comes event.HeadItems h = comes_with action.DelItem class.ListGroup event.HeadItems (taken_out 2) false true true last_of_two refl
deleted_comes event.TailItems h = comes_with action.DelItem class.ListGroup event.TailItems (taken_out 3) false true true two refl
deleted_comes _ h = absurd cc

delete_comes : (c : Class) (e : EventType) → is_listed (may_emit action.DelItem c) e ≡ true → IsEmitted action.DelItem c e
delete_comes class.ListGroup e h = deleted_comes e h
delete_comes _ e h = absurd cc

row_comes : (c : Class) (e : EventType) → is_listed (may_emit action.Move c) e ≡ true → IsEmitted action.Move c e
row_comes class.ListGroup e h = comes_as action.Move class.ListGroup e (number 1) true true h
row_comes class.TokenGroup e h = comes_as action.Move class.TokenGroup e (number 1) true true h
row_comes _ e h = absurd cc

place_comes : (c : Class) (e : EventType) → is_listed (may_emit action.MoveTo c) e ≡ true → IsEmitted action.MoveTo c e
place_comes class.ListGroup e h = comes_as action.MoveTo class.ListGroup e (number 0) true true h
place_comes class.TokenGroup e h = comes_as action.MoveTo class.TokenGroup e (number 0) true true h
place_comes _ e h = absurd cc

abbrev chosen : Listed
chosen = items (entry 2 true ∷ entry 3 false ∷ []) 1

enter_comes : (e : EventType) (r : ObjRef) (o : Object) → is_listed (event.IsRunning ∷ []) e ≡ true → is_listed (kinds (entering r.group (o.fixed ∷ [])) ++ []) e ≡ true
enter_comes e r o h = ap (λ es. is_listed (es ++ []) e) (entered_runs r.group (o.fixed ∷ [])) ∙ h

pub lists_emitted : ListsWhatIsEmitted
lists_emitted action.Run c e h = run_comes c e (admitted_only (admits c action.Run) (run_events c) e h)
lists_emitted action.Activate c e h = activate_comes c e h
lists_emitted action.Stop c e h = comes_as action.Stop c e [] true true (stop_comes c e (admitted_only (admits c action.Stop) (event.IsStopped ∷ []) e h))
lists_emitted action.Deactivate c e h = comes_as action.Deactivate c e [] true true (stop_comes c e (admitted_only (admits c action.Deactivate) (event.IsStopped ∷ []) e h))
lists_emitted action.Preload c e h =
    comes_as action.Preload c e [] false false (prepare_comes c e (admitted_only (admits c action.Preload) (prepare_events c) e h))
lists_emitted action.Unload c e h = comes_as action.Unload c e [] true true (unload_comes c e (admitted_only (admits c action.Unload) (event.IsStopped ∷ event.IsDeleted ∷ []) e h))
lists_emitted action.SendEvent c e h =
    comes_as action.SendEvent c e (value.Object (one c true true).fixed.key ∷ value.Int (pos (number_of e)) ∷ []) true true (sent_of_all c e)
lists_emitted action.TestVariable c e h =
    comes_as action.TestVariable c e (value.Int (pos 1) ∷ value.Bool true ∷ []) true true (admitted_only (admits c action.TestVariable) (event.TestEvent ∷ []) e h)
lists_emitted action.SetData c e h =
    comes_as action.SetData c e (value.Octets [] ∷ []) true true (admitted_only (admits c action.SetData) (event.ContentAvailable ∷ []) e h)
lists_emitted action.Fork c e h = comes_as action.Fork c e [] true true (admitted_only (admits c action.Fork) (event.AsyncStopped ∷ []) e h)
lists_emitted action.SetInteractionStatus c e h =
    comes_with action.SetInteractionStatus c e (value.Bool false ∷ []) true true true no_list (admitted_only (admits c action.SetInteractionStatus) (event.InteractionCompleted ∷ []) e h)
lists_emitted action.SetHighlightStatus c e h = highlight_comes c e (admitted_only (admits c action.SetHighlightStatus) (event.HighlightOn ∷ event.HighlightOff ∷ []) e h)
lists_emitted action.Select c e h = comes_as action.Select c e [] true true (admitted_only (admits c action.Select) (event.IsSelected ∷ []) e h)
lists_emitted action.Deselect c e h =
    record { values = []; object = marked c; class = refl; interacts = false; comes = admitted_only (admits c action.Deselect) (event.IsDeselected ∷ []) e h }
lists_emitted action.Move c e h = row_comes c e h
lists_emitted action.MoveTo c e h = place_comes c e h
lists_emitted action.TransitionTo c e h =
    comes_as action.TransitionTo c e [] true true (enter_comes e (one c true true).fixed.key (one c true true) (admitted_only (admits c action.TransitionTo) (event.IsRunning ∷ []) e h))
lists_emitted action.Launch c e h =
    comes_as action.Launch c e [] true true (enter_comes e (one c true true).fixed.key (one c true true) (admitted_only (admits c action.Launch) (event.IsRunning ∷ []) e h))
lists_emitted action.AddItem c e h = add_comes c e h
lists_emitted action.DelItem c e h = delete_comes c e h
lists_emitted action.ScrollItems c e h = scroll_comes c e h
lists_emitted action.SetFirstItem c e h = first_comes c e h
lists_emitted action.SelectItem c e h = comes_with action.SelectItem c e (number 2) false true true chosen (admitted_only (admits c action.SelectItem) (event.ItemDeselected ∷ event.ItemSelected ∷ []) e h)
lists_emitted action.ToggleItem c e h = comes_with action.ToggleItem c e (number 2) false true true chosen (admitted_only (admits c action.ToggleItem) (event.ItemDeselected ∷ event.ItemSelected ∷ []) e h)
lists_emitted action.DeselectItem c e h = comes_with action.DeselectItem c e (number 1) false true true chosen (admitted_only (admits c action.DeselectItem) (event.ItemDeselected ∷ []) e h)
lists_emitted n c e h = let never : false ≡ true = admitted_only (admits c n) [] e h in absurd cc
