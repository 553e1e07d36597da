-- Widgets by themselves, worked by the definitions alone: a list that is scrolled, a token that moves, a field into
-- which digits are typed, and a button.
use Rattle.std.specs.Prelude.{◌≡◌, ℕ, Bool, true, false, List, [], ◌∷◌, map, codes, ℤ, pos, negsuc}
use Rattle.mh_base.specs.declared.obj_ref.ObjRef.{ObjRef}
use Rattle.mh_base.specs.declared.value.Value.{Value}
use Rattle.mh_base.specs.declared.value.Value.TheVariants as value
use Rattle.mh_base.specs.declared.event.EventType.{EventType}
use Rattle.mh_base.specs.declared.event.EventType.TheVariants as event
use Rattle.mh_group.specs.declared.class.Class.TheVariants as class
use Rattle.mh_group.specs.declared.action_name.ActionName.{ActionName}
use Rattle.mh_group.specs.declared.action_name.ActionName.TheVariants as action
use Rattle.mh_group.specs.declared.attribute.Attribute.TheVariants as attribute
use Rattle.mh_group.specs.declared.written.Position.{Position}
use Rattle.mh_model.specs.declared.act.Act.{Act}
use Rattle.mh_model.specs.declared.act.Argument.TheVariants as argument
use Rattle.mh_model.specs.declared.held.Held.TheVariants as of
use Rattle.mh_model.specs.declared.input.Input.TheVariants as input
use Rattle.mh_model.specs.declared.input.Move.{Move}
use Rattle.mh_model.specs.declared.input.Move.TheVariants as move
use Rattle.mh_model.specs.declared.item.Item.{Item}
use Rattle.mh_model.specs.declared.item.Item.TheVariants as item
use Rattle.mh_model.specs.declared.key.Key.{Key}
use Rattle.mh_model.specs.declared.key.Key.TheVariants as key
use Rattle.mh_model.specs.declared.object.member.Member.{Member}
use Rattle.mh_model.specs.declared.object.Body.{Body}
use Rattle.mh_model.specs.declared.object.Fixed.{Fixed}
use Rattle.mh_model.specs.Bodies.{text_of}
use Rattle.mh_laws.specs.ExampleComputing.{act, here, on_red, service_of, to_number}
use Rattle.mh_laws.specs.ExampleFirst.{move_it, rectangle, shows_red, steps}
use Rattle.mh_model.specs.EntryFields.{Pressed, field_pressed, button_set}
use Rattle.mh_model.specs.Items.{plain_event}
use Rattle.mh_model.specs.Lists.{in_cells, list_items, list_worked, nothing_shown, selection_worked, shows}
use Rattle.mh_model.specs.Picture.{cell_at}
use Rattle.mh_model.specs.Service.{Service, fresh}
use Rattle.mh_model.specs.Reference.{group_ref}
use Rattle.mh_model.specs.State.{State, all, begun}
use Rattle.mh_model.specs.Step.{run, is_idle}
use Rattle.mh_model.specs.Tokens.{token_worked}
use Rattle.mh_model.specs.Widget.{Worked, event_with}

abbrev pub one : ObjRef
one = here 1

abbrev pub member : ℕ → Member
member n = record { object = here n; slots = [] }

abbrev pub int : ℤ → List Value
int n = value.Int n ∷ []

-- A list of three cells, with the items 11 to 15, one of them written twice

abbrev pub cell : ℤ → Position
cell x = record { x = x; y = pos 0 }

abbrev pub list_of : Bool → Fixed
list_of wrapping = record {
  key = one;
  class = class.ListGroup;
  properties =
      record { attribute = attribute.TokenGroupItems; held = of.Members (map member (11 ∷ 12 ∷ 11 ∷ 13 ∷ 14 ∷ 15 ∷ [])) }
      ∷ record { attribute = attribute.Positions; held = of.Positions (map cell (pos 0 ∷ pos 12 ∷ pos 24 ∷ [])) }
      ∷ record { attribute = attribute.WrapAround; held = of.Value (value.Bool wrapping) }
      ∷ [];
}

abbrev pub running_list : Bool → Body
running_list wrapping = record (fresh (list_of wrapping)).body { running = true }

-- what comes of the action, and the list behind it
abbrev pub on_list : Bool → ActionName → List Value → Body → Worked
on_list wrapping n vs b = list_worked n vs one (list_of wrapping) b

abbrev pub shown_now : Bool → Body → List ObjRef
shown_now wrapping b = in_cells (list_of wrapping) b.list

abbrev pub truth : Bool → Value
truth b = value.Bool b

abbrev pub count : ℕ → Value
count n = value.Int (pos n)

-- two items on
unfoldable pub scrolled : Worked
scrolled = on_list false action.ScrollItems (int (pos 2)) (running_list false)

unfoldable pub scrolled_again : Worked
scrolled_again = on_list false action.ScrollItems (int (pos 1)) scrolled.body

-- the second item goes, which stands before those that are shown
unfoldable pub deleted : Worked
deleted = on_list false action.DelItem (value.Object (here 12) ∷ []) scrolled.body

unfoldable pub added : Worked
added = on_list false action.AddItem (value.Int (pos 1) ∷ value.Object (here 16) ∷ []) scrolled.body

-- Selection

abbrev pub on_selection : ActionName → ℤ → Body → Worked
on_selection n i b = selection_worked n (int i) one (list_of false) b

unfoldable pub chosen : Worked
chosen = on_selection action.SelectItem (pos 2) (running_list false)

unfoldable pub chosen_again : Worked
chosen_again = on_selection action.SelectItem (pos 3) chosen.body

-- Tokens: a group of three members, with one row that turns

abbrev pub turning : Fixed
turning = record {
  key = one;
  class = class.TokenGroup;
  properties =
      record { attribute = attribute.MovementTable; held = of.Rows ((pos 2 ∷ pos 3 ∷ pos 1 ∷ []) ∷ []) }
      ∷ record { attribute = attribute.TokenGroupItems; held = of.Members (map member (11 ∷ 12 ∷ 13 ∷ [])) }
      ∷ [];
}

abbrev pub on_token : ActionName → ℤ → Body → Worked
on_token n i b = token_worked n (int i) one turning b

abbrev pub moved : ℤ → ℤ → List Item
moved x y = event_with one event.TokenMovedFrom (value.Int x) ∷ event_with one event.TokenMovedTo (value.Int y) ∷ []

unfoldable pub turned_once : Worked
turned_once = on_token action.Move (pos 1) (fresh turning).body

unfoldable pub turned_twice : Worked
turned_twice = on_token action.Move (pos 1) turned_once.body

unfoldable pub turned_off : Worked
turned_off = on_token action.MoveTo (pos 0) turned_twice.body

-- A field of two octets

abbrev pub field : Fixed
field = record {
  key = one;
  class = class.EntryField;
  properties = record { attribute = attribute.MaxLength; held = of.Value (value.Int (pos 2)) } ∷ [];
}

abbrev pub press : Key → Body → Pressed
press k b = field_pressed k (codes "7") one field b

unfoldable pub typed_one : Pressed
typed_one = press key.Digit1 (fresh field).body

unfoldable pub typed_two : Pressed
typed_two = press key.Digit2 typed_one.body

unfoldable pub typed_over : Pressed
typed_over = press key.Digit5 (record typed_two.body { point = 0; overwrites = true })

abbrev pub full : List Item
full = plain_event one event.EntryFieldFull ∷ []

-- A scene with a field of two octets that interacts from the start on, and ends that when it is full

abbrev pub field_shown : Fixed
field_shown = record {
  key = here 10;
  class = class.EntryField;
  properties =
      record { attribute = attribute.OrigBoxSize; held = of.Pair (pos 24) (pos 16) }
      ∷ record { attribute = attribute.MaxLength; held = of.Value (value.Int (pos 2)) }
      ∷ [];
}

-- a link without data
abbrev pub link_to : ℕ → ObjRef → EventType → Act → Fixed
link_to n source kind a = record {
  key = here n;
  class = class.Link;
  properties =
      record { attribute = attribute.EventSource; held = of.Value (value.Object source) }
      ∷ record { attribute = attribute.EventType; held = of.Event kind }
      ∷ record { attribute = attribute.LinkEffect; held = of.Effect (a ∷ []) }
      ∷ [];
}

abbrev pub interact : Bool → Act
interact on = act action.SetInteractionStatus 10 (argument.Direct (value.Bool on) ∷ [])

abbrev pub typing : Service
typing =
    service_of
    (field_shown ∷ link_to 11 (here 10) event.EntryFieldFull (interact false)
    ∷ link_to 12 (group_ref (here 10).group) event.IsRunning (interact true) ∷ [])

unfoldable pub asked_for : State
asked_for = run (steps 15) (begun typing 60000)

abbrev pub post_key : Key → Move
post_key k = move.Post (input.Key k)

unfoldable pub typed_in : State
typed_in = run (post_key key.Digit1 ∷ post_key key.Digit2 ∷ post_key key.Digit3 ∷ steps 8) asked_for

-- the characters of the first three cells
abbrev pub row_of : State → List ℕ
row_of x = map (λ c. (cell_at (all x.objects) x.stack c).scalar) (0 ∷ 1 ∷ 2 ∷ [])

-- A token group of one rectangle in a scene, which runs it, and whose slot moves it

abbrev pub red_one : Fixed
red_one = rectangle

abbrev pub group_shown : Fixed
group_shown = record {
  key = here 1;
  class = class.TokenGroup;
  properties =
      record {
        attribute = attribute.TokenGroupItems;
        held = of.Members (record { object = here 10; slots = (move_it 10 ∷ []) ∷ [] } ∷ []);
      }
      ∷ [];
}

abbrev pub grouped : Service
grouped =
    service_of
    (record red_one { properties = record { attribute = attribute.InitiallyActive; held = of.Value (value.Bool false) } ∷ red_one.properties }
    ∷ group_shown
    ∷ on_red (act action.CallActionSlot 1 (to_number (pos 1) ∷ []) ∷ act action.Stop 1 [] ∷ [])
    ∷ [])

unfoldable pub group_runs_it : State
group_runs_it = run (steps 30) (begun grouped 60000)

unfoldable pub group_moves_it : State
group_moves_it = run (post_key key.Red ∷ steps 3) group_runs_it

unfoldable pub group_stops_it : State
group_stops_it = run (steps 30) group_moves_it

pub record WorksWidgets : Type 0 where
  -- a list that begins to run shows three of five, and is scrolled to the last three, and no further
  pub begun_items : list_items one nothing_shown (shows true (list_of false) (running_list false).list) ≡ item.RunMember (here 11) ∷ item.RunMember (here 12) ∷ item.RunMember (here 13) ∷ event_with one event.FirstItemPresented (truth true) ∷ event_with one event.TailItems (count 2) ∷ []
  pub scrolled_items : scrolled.items ≡ item.HaltMember (here 11) ∷ item.HaltMember (here 12) ∷ item.RunMember (here 14) ∷ item.RunMember (here 15) ∷ event_with one event.FirstItemPresented (truth false) ∷ event_with one event.LastItemPresented (truth true) ∷ event_with one event.HeadItems (count 2) ∷ event_with one event.TailItems (count 0) ∷ []
  pub scrolled_placed : scrolled.placed ≡ (here 13, cell (pos 0)) ∷ (here 14, cell (pos 12)) ∷ (here 15, cell (pos 24)) ∷ []
  pub again_items : scrolled_again.items ≡ item.HaltMember (here 13) ∷ event_with one event.HeadItems (count 3) ∷ []
  pub no_further : (on_list false action.ScrollItems (int (pos 2)) scrolled_again.body).items ≡ []
  pub no_further_placed : (on_list false action.ScrollItems (int (pos 2)) scrolled_again.body).placed ≡ []
  -- with wrapping all cells are filled
  pub wrapped : shown_now true (on_list true action.ScrollItems (int (negsuc 0)) (running_list true)).body ≡ here 15 ∷ here 11 ∷ here 12 ∷ []
  -- what is shown stays where an item before it goes or comes
  pub deleted_shows : shown_now false deleted.body ≡ here 13 ∷ here 14 ∷ here 15 ∷ []
  pub deleted_items : deleted.items ≡ event_with one event.HeadItems (count 1) ∷ []
  pub added_shows : shown_now false added.body ≡ here 13 ∷ here 14 ∷ here 15 ∷ []
  pub added_twice : (on_list false action.AddItem (value.Int (pos 1) ∷ value.Object (here 15) ∷ []) scrolled.body).items ≡ []
  pub stopped : (list_worked action.ScrollItems (int (pos 2)) one (list_of false) (fresh (list_of false)).body).items ≡ []
  -- one item is selected at a time
  pub chosen_items : chosen.items ≡ event_with one event.ItemSelected (count 2) ∷ []
  pub chosen_again_items : chosen_again.items ≡ event_with one event.ItemDeselected (count 2) ∷ event_with one event.ItemSelected (count 3) ∷ []
  pub chosen_twice : (on_selection action.SelectItem (pos 3) chosen_again.body).items ≡ []
  -- the token turns, goes to 0, and by no row from there
  pub turned_once_items : turned_once.items ≡ moved (pos 1) (pos 2)
  pub turned_twice_items : turned_twice.items ≡ moved (pos 2) (pos 3)
  pub no_row : (on_token action.Move (pos 2) turned_twice.body).items ≡ []
  pub no_place : (on_token action.MoveTo (pos 4) turned_twice.body).items ≡ []
  pub turned_off_items : turned_off.items ≡ moved (pos 3) (pos 0)
  pub off_stays : (on_token action.Move (pos 1) turned_off.body).items ≡ []
  -- two digits fill the field, a third is not taken, and one that is typed over another fills nothing
  pub typed_one_items : typed_one.items ≡ []
  pub typed_two_text : text_of typed_two.body ≡ codes "12"
  pub typed_two_items : typed_two.items ≡ full
  pub typed_three : text_of (press key.Digit3 typed_two.body).body ≡ codes "12"
  pub typed_over_text : text_of typed_over.body ≡ codes "52"
  pub typed_over_items : typed_over.items ≡ []
  pub cancelled : text_of (press key.Cancel typed_two.body).body ≡ codes "7"
  pub cancelled_ends : (press key.Cancel typed_two.body).ends ≡ true
  -- a button is selected once
  pub button_on : (button_set true one (fresh field).body).items ≡ plain_event one event.IsSelected ∷ []
  -- 15 steps, then 8 for three keys: two are typed, and the third goes to the scene
  pub asked_taken : asked_for.taken ≡ 15
  pub asked_idle : is_idle asked_for ≡ true
  pub typed_taken : typed_in.taken ≡ 23
  pub typed_idle : is_idle typed_in ≡ true
  pub typed_shows : row_of typed_in ≡ 49 ∷ 50 ∷ 32 ∷ []
  pub typed_faultless : typed_in.faults ≡ []
  -- a group runs its member, a slot moves it, and it stops with the group
  pub group_idle : is_idle group_runs_it ≡ true
  pub group_shows : shows_red (61 ∷ 62 ∷ 121 ∷ 122 ∷ []) group_runs_it ≡ true
  pub group_moves : shows_red (62 ∷ 63 ∷ 122 ∷ 123 ∷ []) group_moves_it ≡ true
  pub group_stops : shows_red [] group_stops_it ≡ true
  pub group_stops_idle : is_idle group_stops_it ≡ true
  pub group_faultless : group_stops_it.faults ≡ []
  pub button_stays : (button_set true one (button_set true one (fresh field).body).body).items ≡ []
