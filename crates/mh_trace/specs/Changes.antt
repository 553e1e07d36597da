-- What a step has made of an object, told part by part: how it was, and how it is.
use Rattle.std.specs.Prelude.{ℕ, ◌==◌, Bool, true, false, ◌&&◌, not, nat_le, if◌then◌else◌, List, [], ◌∷◌, ◌++◌, codes, length, take, Option, Some, None, ℤ}
use Rattle.std.specs.Fmt.{decimal, signed_decimal}
use Rattle.std.specs.List.{flat_map}
use Rattle.std.specs.Ordering.{int_eq}
use Rattle.std.specs.Str.{bytes_eq}
use Rattle.mh_base.specs.declared.obj_ref.ObjRef.{ObjRef}
use Rattle.mh_base.specs.declared.colour.Colour.{Colour}
use Rattle.mh_base.specs.declared.value.Value.{Value}
use Rattle.mh_base.specs.declared.value.Value.TheVariants as value
use Rattle.mh_group.specs.declared.attribute.Attribute.{Attribute}
use Rattle.mh_group.specs.Words.{attribute_word, attributes}
use Rattle.mh_model.specs.declared.held.Held.{Held}
use Rattle.mh_model.specs.declared.held.Held.TheVariants as of
use Rattle.mh_model.specs.declared.object.listing.Entry.{Entry}
use Rattle.mh_model.specs.declared.object.Body.{Body}
use Rattle.mh_model.specs.declared.object.Fixed.{Fixed}
use Rattle.mh_model.specs.declared.object.Object.{Object}
use Rattle.mh_model.specs.Property.{held, read, read_of, value_held}
use Rattle.mh_model.specs.Reference.{same_ref}
use Rattle.mh_model.specs.Service.{object_at}
use Rattle.mh_model.specs.Variables.{same_value}
use Rattle.mh_trace.specs.declared.form.Form.{Form}
use Rattle.mh_trace.specs.declared.form.Form.TheVariants as form
use Rattle.mh_trace.specs.Json.{member_text, more_text}
use Rattle.mh_trace.specs.Words.{octets_text, ref_text, truth_text, value_text}

-- Words. Octets that are many are cut off.

abbrev pub most_shown : ℕ
most_shown = 40

unfoldable pub cut_text : List ℕ → List ℕ
cut_text bs = octets_text (take most_shown bs) ++ codes ".. of " ++ decimal (length bs)

abbrev pub short_octets : List ℕ → List ℕ
short_octets bs = if nat_le (length bs) most_shown then octets_text bs else cut_text bs

abbrev pub short_value : Value → List ℕ
short_value (value.Octets bs) = short_octets bs
short_value v = value_text v

abbrev pub given_text : Option Value → List ℕ
given_text None = codes "nothing"
given_text (Some v) = short_value v

abbrev pub loaded_text : Option (List ℕ) → List ℕ
loaded_text None = codes "nothing"
loaded_text (Some bs) = short_octets bs

unfoldable pub pair_text : ℤ → ℤ → List ℕ
pair_text x y = signed_decimal x ++ codes " " ++ signed_decimal y

unfoldable pub colour_text : Colour → List ℕ
colour_text c =
    decimal c.red ++ codes " " ++ decimal c.green ++ codes " " ++ decimal c.blue ++ codes " " ++ decimal c.transparency

abbrev pub held_text : Held → List ℕ
held_text (of.Value v) = short_value v
held_text (of.Pair x y) = pair_text x y
held_text (of.Colour c) = colour_text c
held_text _ = codes "another"

abbrev pub read_text : Option Held → List ℕ
read_text None = codes "nothing"
read_text (Some h) = held_text h

-- What is the same

abbrev pub same_bool : Bool → Bool → Bool
same_bool a b = if a then b else not b

abbrev pub same_given : Option Value → Option Value → Bool
same_given None None = true
same_given (Some v) (Some w) = same_value v w
same_given _ _ = false

abbrev pub same_loaded : Option (List ℕ) → Option (List ℕ) → Bool
same_loaded None None = true
same_loaded (Some a) (Some b) = bytes_eq a b
same_loaded _ _ = false

abbrev pub same_colour : Colour → Colour → Bool
same_colour c d = c.red == d.red && c.green == d.green && c.blue == d.blue && c.transparency == d.transparency

-- what no action changes is the same
abbrev pub same_held : Held → Held → Bool
same_held (of.Value v) (of.Value w) = same_value v w
same_held (of.Pair x y) (of.Pair u v) = int_eq x u && int_eq y v
same_held (of.Colour c) (of.Colour d) = same_colour c d
same_held (of.Value v) _ = false
same_held (of.Pair x y) _ = false
same_held (of.Colour c) _ = false
same_held _ (of.Value w) = false
same_held _ (of.Pair u v) = false
same_held _ (of.Colour d) = false
same_held _ _ = true

abbrev pub same_read : Option Held → Held → Bool
same_read None k = false
same_read (Some h) k = same_held h k

abbrev pub same_entry : Entry → Entry → Bool
same_entry e f = same_bool e.selected f.selected && same_ref e.object f.object

abbrev pub same_entries : List Entry → List Entry → Bool
same_entries [] [] = true
same_entries (e ∷ es) (f ∷ fs) = same_entry e f && same_entries es fs
same_entries _ _ = false

-- NOTES, each on a part of an object that is not as it was: in a line, or as an object of a list

unfoldable pub note_start : ObjRef → List ℕ
note_start r = codes "; " ++ ref_text r ++ codes ": "

unfoldable pub becomes : List ℕ
becomes = codes " becomes "

abbrev pub not_word : Bool → List ℕ
not_word b = if b then [] else codes "not "

unfoldable pub json_start : ObjRef → List ℕ → List ℕ
json_start r part = codes ",{" ++ member_text (codes "object") (ref_text r) ++ more_text (codes "part") part

unfoldable pub json_change : ObjRef → List ℕ → List ℕ → List ℕ → List ℕ
json_change r part x y = json_start r part ++ more_text (codes "from") x ++ more_text (codes "to") y ++ codes "}"

-- whether it is available, runs and the like

unfoldable pub flag_text : ObjRef → List ℕ → Bool → List ℕ
flag_text r word b = note_start r ++ not_word b ++ word

abbrev pub flag_json : ObjRef → List ℕ → Bool → List ℕ
flag_json r word b = json_change r word (truth_text (not b)) (truth_text b)

abbrev pub flag_change : Form → ObjRef → List ℕ → Bool → List ℕ
flag_change form.Text r word b = flag_text r word b
flag_change form.Json r word b = flag_json r word b

-- its numbers

unfoldable pub count_text : ObjRef → List ℕ → ℕ → ℕ → List ℕ
count_text r word m n = note_start r ++ word ++ codes " " ++ decimal m ++ becomes ++ decimal n

abbrev pub count_json : ObjRef → List ℕ → ℕ → ℕ → List ℕ
count_json r word m n = json_change r word (decimal m) (decimal n)

abbrev pub count_change : Form → ObjRef → List ℕ → ℕ → ℕ → List ℕ
count_change form.Text r word m n = count_text r word m n
count_change form.Json r word m n = count_json r word m n

-- what a variable holds

unfoldable pub value_text_change : ObjRef → Option Value → Option Value → List ℕ
value_text_change r v w = note_start r ++ given_text v ++ becomes ++ given_text w

abbrev pub value_json : ObjRef → Option Value → Option Value → List ℕ
value_json r v w = json_change r (codes "value") (given_text v) (given_text w)

abbrev pub value_change : Form → ObjRef → Option Value → Option Value → List ℕ
value_change form.Text r v w = value_text_change r v w
value_change form.Json r v w = value_json r v w

-- its text

unfoldable pub loaded_change : ObjRef → Option (List ℕ) → Option (List ℕ) → List ℕ
loaded_change r x y = note_start r ++ codes "text " ++ loaded_text x ++ becomes ++ loaded_text y

abbrev pub loaded_json : ObjRef → Option (List ℕ) → Option (List ℕ) → List ℕ
loaded_json r x y = json_change r (codes "text") (loaded_text x) (loaded_text y)

abbrev pub text_change : Form → ObjRef → Option (List ℕ) → Option (List ℕ) → List ℕ
text_change form.Text r x y = loaded_change r x y
text_change form.Json r x y = loaded_json r x y

-- its items

unfoldable pub items_text : ObjRef → List ℕ
items_text r = note_start r ++ codes "other items"

unfoldable pub items_json : ObjRef → List ℕ
items_json r = json_start r (codes "items") ++ codes "}"

abbrev pub items_change : Form → ObjRef → List ℕ
items_change form.Text r = items_text r
items_change form.Json r = items_json r

-- an attribute that an action has changed, against what was read before

unfoldable pub attribute_text : ObjRef → Attribute → Option Held → Held → List ℕ
attribute_text r a h k = note_start r ++ attribute_word a ++ codes " " ++ read_text h ++ becomes ++ held_text k

abbrev pub attribute_json : ObjRef → Attribute → Option Held → Held → List ℕ
attribute_json r a h k = json_change r (attribute_word a) (read_text h) (held_text k)

abbrev pub attribute_change : Form → ObjRef → Attribute → Option Held → Held → List ℕ
attribute_change form.Text r a h k = attribute_text r a h k
attribute_change form.Json r a h k = attribute_json r a h k

-- all of them

abbrev pub flag_note : Form → ObjRef → List ℕ → Bool → Bool → List ℕ
flag_note f r word b c = if same_bool b c then [] else flag_change f r word c

abbrev pub count_note : Form → ObjRef → List ℕ → ℕ → ℕ → List ℕ
count_note f r word m n = if m == n then [] else count_change f r word m n

abbrev pub value_note : Form → ObjRef → Option Value → Option Value → List ℕ
value_note f r v w = if same_given v w then [] else value_change f r v w

abbrev pub text_note : Form → ObjRef → Option (List ℕ) → Option (List ℕ) → List ℕ
text_note f r x y = if same_loaded x y then [] else text_change f r x y

abbrev pub items_note : Form → ObjRef → List Entry → List Entry → List ℕ
items_note f r es fs = if same_entries es fs then [] else items_change f r

abbrev pub attribute_by : Form → ObjRef → Attribute → Option Held → Option Held → List ℕ
attribute_by f r a h None = []
attribute_by f r a h (Some k) = if same_read h k then [] else attribute_change f r a h k

abbrev pub attribute_note : Form → Object → Body → Attribute → List ℕ
attribute_note f o c a = attribute_by f o.fixed.key a (read a o) (held a c.changes)

abbrev pub attribute_notes : Form → Object → Body → List ℕ
attribute_notes f o c = flat_map (attribute_note f o c) attributes

-- all that is told of an object, which was this, and has this body now

unfoldable pub available_note : Form → ObjRef → Bool → Bool → List ℕ
available_note f r b c = flag_note f r (codes "available") b c

unfoldable pub running_note : Form → ObjRef → Bool → Bool → List ℕ
running_note f r b c = flag_note f r (codes "running") b c

unfoldable pub highlighted_note : Form → ObjRef → Bool → Bool → List ℕ
highlighted_note f r b c = flag_note f r (codes "highlighted") b c

unfoldable pub selected_note : Form → ObjRef → Bool → Bool → List ℕ
selected_note f r b c = flag_note f r (codes "selected") b c

unfoldable pub overwriting_note : Form → ObjRef → Bool → Bool → List ℕ
overwriting_note f r b c = flag_note f r (codes "overwriting") b c

unfoldable pub life_notes : Form → ObjRef → Body → Body → List ℕ
life_notes f r b c =
    available_note f r b.available c.available ++ running_note f r b.running c.running
    ++ highlighted_note f r b.highlighted c.highlighted ++ selected_note f r b.selected c.selected
    ++ overwriting_note f r b.overwrites c.overwrites

unfoldable pub token_note : Form → ObjRef → ℕ → ℕ → List ℕ
token_note f r m n = count_note f r (codes "token") m n

unfoldable pub point_note : Form → ObjRef → ℕ → ℕ → List ℕ
point_note f r m n = count_note f r (codes "entry point") m n

unfoldable pub drawings_note : Form → ObjRef → ℕ → ℕ → List ℕ
drawings_note f r m n = count_note f r (codes "drawings") m n

unfoldable pub first_note : Form → ObjRef → ℕ → ℕ → List ℕ
first_note f r m n = count_note f r (codes "first item") m n

unfoldable pub count_notes : Form → ObjRef → Body → Body → List ℕ
count_notes f r b c =
    token_note f r b.token c.token ++ point_note f r b.point c.point
    ++ drawings_note f r (length b.drawings) (length c.drawings) ++ first_note f r b.list.first c.list.first

unfoldable pub content_notes : Form → Object → Body → List ℕ
content_notes f o c =
    value_note f o.fixed.key (value_held o.fixed o.body) (value_held o.fixed c)
    ++ text_note f o.fixed.key o.body.text c.text
    ++ items_note f o.fixed.key o.body.list.entries c.list.entries

unfoldable pub notes_on : Form → Object → Body → List ℕ
notes_on f o c =
    life_notes f o.fixed.key o.body c ++ count_notes f o.fixed.key o.body c ++ content_notes f o c ++ attribute_notes f o c

abbrev pub notes_at : Form → Object → Option Object → List ℕ
notes_at f o None = []
notes_at f o (Some p) = notes_on f o p.body

-- of an object that was this before, among these objects
abbrev pub notes_among : Form → List Object → Object → List ℕ
notes_among f os o = notes_at f o (object_at o.fixed.key os)

-- OF ALL THAT WERE THESE BEFORE
abbrev pub notes : Form → List Object → List Object → List ℕ
notes f before os = flat_map (notes_among f os) before
