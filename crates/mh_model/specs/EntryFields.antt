-- Entry fields and push buttons: highlight and selection, and what a key does to the one that interacts.
use Rattle.std.specs.Prelude.{ℕ, ◌+◌, ◌-◌, Bool, true, false, ◌&&◌, nat_lt, if◌then◌else◌, List, [], ◌∷◌, ◌++◌, length, take, drop, slice_set, Some, ℤ, pos, int_lt}
use Rattle.std.specs.Ordering.{int_eq}
use Rattle.mh_base.specs.declared.obj_ref.ObjRef.{ObjRef}
use Rattle.mh_base.specs.declared.value.Value.{Value}
use Rattle.mh_base.specs.declared.value.Value.TheVariants as value
use Rattle.mh_base.specs.declared.event.EventType.TheVariants as event
use Rattle.mh_group.specs.declared.action_name.ActionName.{ActionName}
use Rattle.mh_group.specs.declared.action_name.ActionName.TheVariants as action
use Rattle.mh_group.specs.declared.attribute.Attribute.TheVariants as attribute
use Rattle.mh_group.specs.declared.class.Class.{Class}
use Rattle.mh_group.specs.declared.class.Class.TheVariants as class
use Rattle.mh_model.specs.declared.item.Item.{Item}
use Rattle.mh_model.specs.declared.key.Key.{Key}
use Rattle.mh_model.specs.declared.key.Key.TheVariants as key
use Rattle.mh_model.specs.declared.object.Body.{Body}
use Rattle.mh_model.specs.declared.object.Fixed.{Fixed}
use Rattle.mh_model.specs.Bodies.{text_of}
use Rattle.mh_model.specs.Items.{plain_event}
use Rattle.mh_group.specs.Same.{are_same}
use Rattle.mh_model.specs.Property.{held, as_int}
use Rattle.mh_model.specs.Widget.{Worked, no_work}

-- Highlight and selection. Only a change is told.

abbrev pub highlit : Bool → ObjRef → Body → Worked
highlit on r b =
    if are_same b.highlighted on then no_work b
    else record {
      body = record b { highlighted = on };
      placed = [];
      items = plain_event r (if on then event.HighlightOn else event.HighlightOff) ∷ [];
    }

abbrev pub button_set : Bool → ObjRef → Body → Worked
button_set on r b =
    if are_same b.selected on then no_work b
    else record {
      body = record b { selected = on };
      placed = [];
      items = plain_event r (if on then event.IsSelected else event.IsDeselected) ∷ [];
    }

abbrev pub button_worked : ActionName → List Value → ObjRef → Fixed → Body → Worked
button_worked action.SetHighlightStatus (value.Bool on ∷ []) r p b = highlit on r b
button_worked action.Select vs r p b = button_set true r b
button_worked action.Deselect vs r p b = button_set false r b
button_worked _ vs r p b = no_work b

-- Keys. They go to the object that interacts; the text that it had when that began can be restored.

-- what is made of the object, and whether its interaction ends
pub record Pressed : Type 0 where
  pub body : Body
  pub items : List Item
  pub ends : Bool

abbrev pub not_pressed : Body → Pressed
not_pressed b = record { body = b; items = []; ends = false }

-- interaction ends, which is told
abbrev pub completed : ObjRef → Body → Pressed
completed r b = record { body = b; items = plain_event r event.InteractionCompleted ∷ []; ends = true }

-- the most octets that can be typed into a field
abbrev pub most_typed : Fixed → ℤ
most_typed p = as_int (pos 255) (held attribute.MaxLength p.properties)

-- the octet replaces the one at the entry point
abbrev pub overtyped : ℕ → Body → Pressed
overtyped c b = record {
  body = record b { text = Some (slice_set (text_of b) b.point c); point = b.point + 1 };
  items = [];
  ends = false;
}

-- the entry point, within the text
abbrev pub point_in : Body → ℕ
point_in b = if nat_lt b.point (length (text_of b)) then b.point else length (text_of b)

-- the octet is put in at the entry point, which is told where the field is full by that
abbrev pub put_in : ℕ → ObjRef → Fixed → Body → Pressed
put_in c r p b = record {
  body = record b {
    text = Some (take (point_in b) (text_of b) ++ c ∷ drop (point_in b) (text_of b));
    point = point_in b + 1;
  };
  items =
      if int_eq (pos (length (text_of b) + 1)) (most_typed p) then plain_event r event.EntryFieldFull ∷ [] else [];
  ends = false;
}

abbrev pub typed : ℕ → ObjRef → Fixed → Body → Pressed
typed c r p b =
    if b.overwrites && nat_lt b.point (length (text_of b)) then overtyped c b
    else (if int_lt (pos (length (text_of b))) (most_typed p) then put_in c r p b else not_pressed b)

abbrev pub point_at : ℕ → Body → Pressed
point_at n b = not_pressed (record b { point = n })

-- to the right within the text
abbrev pub right_of : Body → ℕ
right_of b = if nat_lt b.point (length (text_of b)) then b.point + 1 else b.point

abbrev pub restored : List ℕ → Body → Body
restored before b = record b { text = Some before; point = length before }

-- the octet of a digit
abbrev pub field_pressed : Key → List ℕ → ObjRef → Fixed → Body → Pressed
field_pressed key.Digit0 before r p b = typed 48 r p b
field_pressed key.Digit1 before r p b = typed 49 r p b
field_pressed key.Digit2 before r p b = typed 50 r p b
field_pressed key.Digit3 before r p b = typed 51 r p b
field_pressed key.Digit4 before r p b = typed 52 r p b
field_pressed key.Digit5 before r p b = typed 53 r p b
field_pressed key.Digit6 before r p b = typed 54 r p b
field_pressed key.Digit7 before r p b = typed 55 r p b
field_pressed key.Digit8 before r p b = typed 56 r p b
field_pressed key.Digit9 before r p b = typed 57 r p b
field_pressed key.Left before r p b = point_at (b.point - 1) b
field_pressed key.Right before r p b = point_at (right_of b) b
field_pressed key.Select before r p b = completed r b
field_pressed key.Cancel before r p b = completed r (restored before b)
field_pressed _ before r p b = not_pressed b

abbrev pub pressed_by : Worked → Pressed
pressed_by w = record { body = w.body; items = w.items; ends = false }

abbrev pub button_pressed : Key → ObjRef → Body → Pressed
button_pressed key.Select r b = pressed_by (button_set true r b)
button_pressed key.Cancel r b = completed r b
button_pressed _ r b = not_pressed b

-- what a key does to the object that interacts, which had this text when that began
abbrev pub pressed_of : Class → Key → List ℕ → ObjRef → Fixed → Body → Pressed
pressed_of class.EntryField k before r p b = field_pressed k before r p b
pressed_of class.PushButton k before r p b = button_pressed k r b
pressed_of _ k before r p b = not_pressed b
