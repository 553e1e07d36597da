-- What is made of a body and leaves parts of it alone: what widgets and keys make of it keeps its changed attributes and
-- whether it runs, and every change keeps the register of a scene, but for that of the action that sets it.
use Rattle.std.specs.List.{find}
use Rattle.std.specs.Option.{option_map}
use Rattle.std.specs.Ordering.{int_eq}
use Rattle.std.specs.Prelude.{if◌then◌else◌, ◌&&◌, ◌*ℤ◌, ◌++◌, ◌+ℤ◌, ◌-ℤ◌, ◌==◌, ◌∷◌, ◌≡◌, [], Bool, cond, false, int_div, int_le, int_lt, int_rem, length, List, nat_le, nat_lt, negsuc, None, Option, pos, refl, slice_get, Some, suc, true, ℕ, ℤ}
use Rattle.std.proofs.Common.{◌∙◌, ap, sym}
use Rattle.std.proofs.lemmas.Bool.Decides.{Decides-eqb}
use Rattle.mh_base.specs.declared.obj_ref.ObjRef.{ObjRef}
use Rattle.mh_base.specs.declared.value.Value.{Value}
use Rattle.mh_base.specs.declared.value.Value.TheVariants as value
use Rattle.mh_group.specs.declared.action_name.ActionName.{ActionName}
use Rattle.mh_group.specs.declared.action_name.ActionName.TheVariants as action
use Rattle.mh_group.specs.declared.attribute.Attribute.{Attribute}
use Rattle.mh_group.specs.declared.attribute.Attribute.TheVariants as attribute
use Rattle.mh_group.specs.declared.class.Class.{Class}
use Rattle.mh_group.specs.declared.class.Class.TheVariants as class
use Rattle.mh_group.specs.Same.{are_same}
use Rattle.mh_group.specs.Table.{attribute_number, is_list_group}
use Rattle.mh_model.specs.declared.held.Held.{Held}
use Rattle.mh_model.specs.declared.held.Held.TheVariants as of
use Rattle.mh_model.specs.declared.held.Property.{Property}
use Rattle.mh_model.specs.declared.key.Key.{Key}
use Rattle.mh_model.specs.declared.key.Key.TheVariants as key
use Rattle.mh_model.specs.declared.object.Body.{Body}
use Rattle.mh_model.specs.declared.object.Fixed.{Fixed}
use Rattle.mh_model.specs.declared.object.listing.Entry.{Entry}
use Rattle.mh_model.specs.declared.picture.drawing.Figure.{Figure}
use Rattle.mh_model.specs.declared.picture.drawing.Figure.TheVariants as figure
use Rattle.mh_model.specs.Bodies.{changed_by, coloured, divided, drawing_of, drawn, fits_value, given, given_number, is_drawable, number_of, octets_of, pointed, put, text_of}
use Rattle.mh_model.specs.EntryFields.{button_pressed, button_worked, field_pressed, most_typed, not_pressed, overtyped, pressed_of, put_in, typed}
use Rattle.mh_model.specs.Limits.{most_drawings}
use Rattle.mh_model.specs.Listed.{Listed}
use Rattle.mh_model.specs.Lists.{list_changed, list_worked, relisted, selection_at, selection_by, selection_wanted, selection_worked}
use Rattle.mh_model.specs.Property.{held, is_of, with_held}
use Rattle.mh_model.specs.Tokens.{can_turn, token_wanted, turned}
use Rattle.mh_model.specs.Variables.{converted, fits_int, fits_octets}
use Rattle.mh_model.specs.Widget.{no_work, Worked}
use Rattle.mh_model.specs.Worked.{worked}
use Rattle.mh_model.proofs.ListLemmas.{some_same}

-- WHAT IS HELD

held_past : (b : Attribute) (p : Property) (ps : List Property) → is_of b p ≡ false → held b (p ∷ ps) ≡ held b ps
held_past b p ps other = ap (λ (t : Bool). option_map (λ (q : Property). q.held) (cond t (Some p) (find (is_of b) ps))) other

-- what is held under an attribute stays where another one is put
other_held : (a b : Attribute) (h : Held) (ps : List Property) → (attribute_number a == attribute_number b) ≡ false → held b (with_held a h ps) ≡ held b ps
other_held a b h [] apart = held_past b (record { attribute = a; held = h }) [] apart
other_held a b h (p ∷ ps) apart = by (is_of a p) refl (other_held a b h ps apart)
  where
    among : (t : Bool) → held b (with_held a h ps) ≡ held b ps → option_map (λ (q : Property). q.held) (cond t (Some p) (find (is_of b) (with_held a h ps))) ≡ option_map (λ (q : Property). q.held) (cond t (Some p) (find (is_of b) ps))
    among true below = refl
    among false below = below

    by : (t : Bool) → is_of a p ≡ t → held b (with_held a h ps) ≡ held b ps → held b (if t then record { attribute = a; held = h } ∷ ps else p ∷ with_held a h ps) ≡ held b (p ∷ ps)
    by true same below =
        let other : is_of b p ≡ false = ap (λ (n : ℕ). n == attribute_number b) ((Decides-eqb (attribute_number p.attribute) (attribute_number a)).0 same) ∙ apart in
        held_past b (record { attribute = a; held = h }) ps apart ∙ sym (held_past b p ps other)
    by false other below = among (is_of b p) below

-- and what is put is held
register_held : (h : Held) (ps : List Property) → held attribute.InputEventReg (with_held attribute.InputEventReg h ps) ≡ Some h
register_held h [] = refl
register_held h (p ∷ ps) = by (is_of attribute.InputEventReg p) refl (register_held h ps)
  where
    more : List Property
    more = with_held attribute.InputEventReg h ps

    by : (t : Bool) → is_of attribute.InputEventReg p ≡ t → held attribute.InputEventReg more ≡ Some h → held attribute.InputEventReg (if t then record { attribute = attribute.InputEventReg; held = h } ∷ ps else p ∷ more) ≡ Some h
    by true same below = refl
    by false other below = held_past attribute.InputEventReg p more other ∙ below

-- WIDGETS AND KEYS. What they make of a body keeps its changed attributes and whether it runs.

abbrev pub Keeps : Body → Body → Type 0
Keeps b d = (d.running ≡ b.running) × (d.changes ≡ b.changes)

unless_keeps : (t : Bool) (w : Worked) (b : Body) → Keeps b w.body → Keeps b (if t then no_work b else w).body
unless_keeps true w b h = (refl, refl)
unless_keeps false w b h = h

where_keeps : (t : Bool) (w : Worked) (b : Body) → Keeps b w.body → Keeps b (if t then w else no_work b).body
where_keeps true w b h = h
where_keeps false w b h = (refl, refl)

list_keeps : (r : ObjRef) (p : Fixed) (b : Body) (m : Option Listed) → Keeps b (list_changed r p b m).body
list_keeps r p b None = (refl, refl)
list_keeps r p b (Some l) = (refl, refl)

relisted_keeps : (n : ActionName) (vs : List Value) (r : ObjRef) (p : Fixed) (b : Body) → Keeps b (if is_list_group p.class then list_worked n vs r p b else no_work b).body
relisted_keeps n vs r p b = where_keeps (is_list_group p.class) (list_worked n vs r p b) b (list_keeps r p b (relisted n vs p b.list))

selected_keeps : (want now : Bool) (k : ℕ) (r : ObjRef) (p : Fixed) (b : Body) → Keeps b (selection_by want now k r p b).body
selected_keeps true false k r p b = (refl, refl)
selected_keeps false true k r p b = (refl, refl)
selected_keeps true true k r p b = (refl, refl)
selected_keeps false false k r p b = (refl, refl)

selection_keeps : (n : ActionName) (vs : List Value) (r : ObjRef) (p : Fixed) (b : Body) → Keeps b (selection_worked n vs r p b).body
selection_keeps n (value.Int (pos (suc k)) ∷ []) r p b = by (slice_get b.list.entries k)
  where
    by : (m : Option Entry) → Keeps b (selection_at n k m r p b).body
    by None = (refl, refl)
    by (Some e) = selected_keeps (selection_wanted n e.selected) e.selected k r p b
selection_keeps n _ r p b = (refl, refl)

turned_keeps : (r : ObjRef) (p : Fixed) (b : Body) (m : Option ℤ) → Keeps b (turned r p b m).body
turned_keeps r p b None = (refl, refl)
turned_keeps r p b (Some (negsuc n)) = (refl, refl)
turned_keeps r p b (Some (pos n)) = where_keeps (can_turn p b n) _ b (refl, refl)

button_keeps : (n : ActionName) (vs : List Value) (r : ObjRef) (p : Fixed) (b : Body) → Keeps b (button_worked n vs r p b).body
button_keeps action.SetHighlightStatus (value.Bool on ∷ []) r p b = unless_keeps (are_same b.highlighted on) _ b (refl, refl)
button_keeps action.Select vs r p b = unless_keeps (are_same b.selected true) _ b (refl, refl)
button_keeps action.Deselect vs r p b = unless_keeps (are_same b.selected false) _ b (refl, refl)
button_keeps _ vs r p b = (refl, refl)

pub worked_keeps : (n : ActionName) (vs : List Value) (r : ObjRef) (p : Fixed) (b : Body) → Keeps b (worked n vs r p b).body
worked_keeps action.Move vs r p b = turned_keeps r p b (token_wanted action.Move vs p b)
worked_keeps action.MoveTo vs r p b = turned_keeps r p b (token_wanted action.MoveTo vs p b)
worked_keeps action.AddItem vs r p b = relisted_keeps action.AddItem vs r p b
worked_keeps action.DelItem vs r p b = relisted_keeps action.DelItem vs r p b
worked_keeps action.ScrollItems vs r p b = relisted_keeps action.ScrollItems vs r p b
worked_keeps action.SetFirstItem vs r p b = relisted_keeps action.SetFirstItem vs r p b
worked_keeps action.SelectItem vs r p b = selection_keeps action.SelectItem vs r p b
worked_keeps action.DeselectItem vs r p b = selection_keeps action.DeselectItem vs r p b
worked_keeps action.ToggleItem vs r p b = selection_keeps action.ToggleItem vs r p b
worked_keeps action.SetHighlightStatus vs r p b = button_keeps action.SetHighlightStatus vs r p b
worked_keeps action.Select vs r p b = button_keeps action.Select vs r p b
worked_keeps action.Deselect vs r p b = button_keeps action.Deselect vs r p b
worked_keeps _ vs r p b = (refl, refl)

-- Keys

typed_keeps : (c : ℕ) (r : ObjRef) (p : Fixed) (b : Body) → Keeps b (typed c r p b).body
typed_keeps c r p b = by (b.overwrites && nat_lt b.point (length (text_of b))) (int_lt (pos (length (text_of b))) (most_typed p))
  where
    by : (over room : Bool) → Keeps b (if over then overtyped c b else (if room then put_in c r p b else not_pressed b)).body
    by true room = (refl, refl)
    by false true = (refl, refl)
    by false false = (refl, refl)

field_keeps : (k : Key) (before : List ℕ) (r : ObjRef) (p : Fixed) (b : Body) → Keeps b (field_pressed k before r p b).body
field_keeps key.Digit0 before r p b = typed_keeps 48 r p b
field_keeps key.Digit1 before r p b = typed_keeps 49 r p b
field_keeps key.Digit2 before r p b = typed_keeps 50 r p b
field_keeps key.Digit3 before r p b = typed_keeps 51 r p b
field_keeps key.Digit4 before r p b = typed_keeps 52 r p b
field_keeps key.Digit5 before r p b = typed_keeps 53 r p b
field_keeps key.Digit6 before r p b = typed_keeps 54 r p b
field_keeps key.Digit7 before r p b = typed_keeps 55 r p b
field_keeps key.Digit8 before r p b = typed_keeps 56 r p b
field_keeps key.Digit9 before r p b = typed_keeps 57 r p b
field_keeps _ before r p b = (refl, refl)

push_keeps : (k : Key) (r : ObjRef) (b : Body) → Keeps b (button_pressed k r b).body
push_keeps key.Select r b = unless_keeps (are_same b.selected true) _ b (refl, refl)
push_keeps _ r b = (refl, refl)

pub pressed_keeps : (x : Class) (k : Key) (before : List ℕ) (r : ObjRef) (p : Fixed) (b : Body) → Keeps b (pressed_of x k before r p b).body
pressed_keeps class.EntryField k before r p b = field_keeps k before r p b
pressed_keeps class.PushButton k before r p b = push_keeps k r b
pressed_keeps _ k before r p b = (refl, refl)

-- THE REGISTER. What is made of a body leaves it alone, but for the action that sets it.

abbrev pub register : Body → Option Held
register b = held attribute.InputEventReg b.changes

abbrev pub Stays : Body → Body → Type 0
Stays b d = register d ≡ register b

pub changes_stay : (b d : Body) → d.changes ≡ b.changes → Stays b d
changes_stay b d same = ap (held attribute.InputEventReg) same

-- any attribute but the register
abbrev pub IsOther : Attribute → Type 0
IsOther a = (attribute_number a == attribute_number attribute.InputEventReg) ≡ false

pub put_stays : (a : Attribute) → IsOther a → (h : Held) (b : Body) → Stays b (put a h b)
put_stays a other h b = other_held a attribute.InputEventReg h b.changes other

pub if_stays : (t : Bool) (x y b : Body) → Stays b x → Stays b y → Stays b (if t then x else y)
if_stays true x y b h k = h
if_stays false x y b h k = k

pub put_if : (t : Bool) (a : Attribute) → IsOther a → (h : Held) (b : Body) → Stays b (if t then put a h b else b)
put_if t a other h b = if_stays t (put a h b) b b (put_stays a other h b) refl

coloured_stays : (a : Attribute) → IsOther a → (os : List ℕ) (b : Body) → Stays b (coloured a os b)
coloured_stays a other (r ∷ g ∷ x ∷ t ∷ []) b = put_stays a other _ b
coloured_stays a other _ b = refl

pointed_stays : (n : ℤ) (b : Body) → Stays b (pointed n b)
pointed_stays (pos n) b = if_stays (nat_le n (length (text_of b))) (record b { point = n }) b b refl refl
pointed_stays (negsuc n) b = refl

number_stays : (x : ℤ) (b : Body) → Stays b (given_number x b)
number_stays x b = if_stays (fits_int x) (given (value.Int x) b) b b refl refl

divided_stays : (by : ℤ → ℤ → ℤ) (m n : ℤ) (b : Body) → Stays b (divided by m n b)
divided_stays by m n b = if_stays (int_eq n (pos 0)) b (given_number (by m n) b) b refl (number_stays (by m n) b)

drawn_stays : (f : Figure) (x y u v : ℤ) (p : Fixed) (b : Body) → Stays b (drawn f x y u v p b)
drawn_stays f x y u v p b =
    if_stays (is_drawable f x y u v && nat_lt (length b.drawings) most_drawings)
    (record b { drawings = b.drawings ++ drawing_of f x y u v (record { fixed = p; body = b }) ∷ [] }) b b refl refl

-- the register that an action sets, if it sets one
abbrev pub set_to : ActionName → List Value → Option ℤ
set_to action.SetInputRegister (value.Int n ∷ []) = Some n
set_to _ _ = None

abbrev pub register_or : Option ℤ → Body → Option Held
register_or None b = register b
register_or (Some n) b = Some (of.Value (value.Int n))

pub changed_register : (n : ActionName) (vs : List Value) (p : Fixed) (b : Body) → register (changed_by n vs p b) ≡ register_or (set_to n vs) b
changed_register action.SetInputRegister (value.Int n ∷ []) p b = register_held (of.Value (value.Int n)) b.changes
changed_register action.SetVariable (v ∷ []) p b = if_stays (fits_value (converted p.class v)) _ b b refl refl
changed_register action.Add (value.Int n ∷ []) p b = number_stays (number_of p b +ℤ n) b
changed_register action.Subtract (value.Int n ∷ []) p b = number_stays (number_of p b -ℤ n) b
changed_register action.Multiply (value.Int n ∷ []) p b = number_stays (number_of p b *ℤ n) b
changed_register action.Divide (value.Int n ∷ []) p b = divided_stays int_div (number_of p b) n b
changed_register action.Modulo (value.Int n ∷ []) p b = divided_stays int_rem (number_of p b) n b
changed_register action.Append (value.Octets os ∷ []) p b = if_stays (fits_octets (octets_of p b ++ os)) (given (value.Octets (octets_of p b ++ os)) b) b b refl refl
changed_register action.SetPosition (value.Int x ∷ value.Int y ∷ []) p b = put_stays attribute.OrigPosition refl (of.Pair x y) b
changed_register action.SetBoxSize (value.Int w ∷ value.Int h ∷ []) p b = put_if (int_le (pos 0) w && int_le (pos 0) h) attribute.OrigBoxSize refl (of.Pair w h) b
changed_register action.SetFillColour (value.Octets os ∷ []) p b = coloured_stays attribute.OrigRefFillColour refl os b
changed_register action.SetLineColour (value.Octets os ∷ []) p b = coloured_stays attribute.OrigRefLineColour refl os b
changed_register action.SetLineWidth (value.Int n ∷ []) p b = put_if (int_le (pos 0) n) attribute.OrigLineWidth refl (of.Value (value.Int n)) b
changed_register action.Clear vs p b = refl
changed_register action.DrawLine (value.Int x ∷ value.Int y ∷ value.Int u ∷ value.Int v ∷ []) p b = drawn_stays figure.Line x y u v p b
changed_register action.DrawRectangle (value.Int x ∷ value.Int y ∷ value.Int u ∷ value.Int v ∷ []) p b = drawn_stays figure.Rectangle x y u v p b
changed_register action.SetTextColour (value.Octets os ∷ []) p b = coloured_stays attribute.TextColour refl os b
changed_register action.SetEntryPoint (value.Int n ∷ []) p b = pointed_stays n b
changed_register action.SetOverwriteMode (value.Bool on ∷ []) p b = refl
changed_register action.SetLabel (value.Octets os ∷ []) p b = put_if (fits_octets os) attribute.OrigLabel refl (of.Value (value.Octets os)) b
changed_register _ _ p b = refl

-- an action that sets it has the number as its one value
pub set_by_name : (n : ActionName) (vs : List Value) (m : ℤ) → set_to n vs ≡ Some m → (n ≡ action.SetInputRegister) × (vs ≡ value.Int m ∷ [])
set_by_name action.SetInputRegister (value.Int n ∷ []) m e = (refl, ap (λ (k : ℤ). value.Int k ∷ []) (some_same e))
set_by_name _ _ m e = absurd cc
