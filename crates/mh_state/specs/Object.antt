-- What is told of an object as it is: its class, its status, what it holds, and its attributes, those of several values by
-- their names alone.
use Rattle.std.specs.Prelude.{ℕ, Bool, if◌then◌else◌, List, [], ◌∷◌, ◌++◌, codes, length, Option, Some, None}
use Rattle.std.specs.Fmt.{decimal}
use Rattle.std.specs.List.{flat_map}
use Rattle.mh_base.specs.declared.obj_ref.ObjRef.{ObjRef}
use Rattle.mh_base.specs.declared.value.Value.{Value}
use Rattle.mh_group.specs.declared.attribute.Attribute.{Attribute}
use Rattle.mh_group.specs.declared.class.Class.{Class}
use Rattle.mh_group.specs.Table.{is_dynamic_line_art, is_entry_field, is_list_group, is_token_manager}
use Rattle.mh_group.specs.Words.{attribute_word, attributes, class_word}
use Rattle.mh_model.specs.declared.held.Held.{Held}
use Rattle.mh_model.specs.declared.held.Held.TheVariants as of
use Rattle.mh_model.specs.declared.object.listing.Entry.{Entry}
use Rattle.mh_model.specs.declared.object.Body.{Body}
use Rattle.mh_model.specs.declared.object.Object.{Object}
use Rattle.mh_model.specs.Property.{read, value_held}
use Rattle.mh_model.specs.Service.{object_at}
use Rattle.mh_trace.specs.Changes.{held_text, loaded_text, short_value}
use Rattle.mh_trace.specs.Words.{ref_text}

unfoldable pub head_line : Object → List ℕ
head_line o = ref_text o.fixed.key ++ codes " " ++ class_word o.fixed.class ++ 10 ∷ []

-- status

unfoldable pub flag_line : List ℕ → List ℕ
flag_line word = word ++ 10 ∷ []

abbrev pub flag_if : Bool → List ℕ → List ℕ
flag_if b word = if b then flag_line word else []

unfoldable pub available_line : Bool → List ℕ
available_line b = flag_if b (codes "available")

unfoldable pub running_line : Bool → List ℕ
running_line b = flag_if b (codes "running")

unfoldable pub highlighted_line : Bool → List ℕ
highlighted_line b = flag_if b (codes "highlighted")

unfoldable pub selected_line : Bool → List ℕ
selected_line b = flag_if b (codes "selected")

unfoldable pub overwriting_line : Bool → List ℕ
overwriting_line b = flag_if b (codes "overwriting")

unfoldable pub status_text : Body → List ℕ
status_text b =
    available_line b.available ++ running_line b.running ++ highlighted_line b.highlighted ++ selected_line b.selected
    ++ overwriting_line b.overwrites

-- the numbers of groups of objects, lists, entry fields and drawings

unfoldable pub count_line : List ℕ → ℕ → List ℕ
count_line word n = word ++ decimal n ++ 10 ∷ []

abbrev pub count_if : Bool → List ℕ → ℕ → List ℕ
count_if has word n = if has then count_line word n else []

unfoldable pub token_line : Class → ℕ → List ℕ
token_line k n = count_if (is_token_manager k) (codes "token ") n

unfoldable pub first_line : Class → ℕ → List ℕ
first_line k n = count_if (is_list_group k) (codes "first item ") n

unfoldable pub point_line : Class → ℕ → List ℕ
point_line k n = count_if (is_entry_field k) (codes "entry point ") n

unfoldable pub drawings_line : Class → ℕ → List ℕ
drawings_line k n = count_if (is_dynamic_line_art k) (codes "drawings ") n

unfoldable pub counts_text : Class → Body → List ℕ
counts_text k b =
    token_line k b.token ++ first_line k b.list.first ++ point_line k b.point ++ drawings_line k (length b.drawings)

-- what it holds

unfoldable pub holds_line : Value → List ℕ
holds_line v = codes "holds " ++ short_value v ++ 10 ∷ []

abbrev pub value_line : Option Value → List ℕ
value_line None = []
value_line (Some v) = holds_line v

unfoldable pub text_line : Option (List ℕ) → List ℕ
text_line x = codes "text " ++ loaded_text x ++ 10 ∷ []

abbrev pub loaded_line : Option (List ℕ) → List ℕ
loaded_line None = []
loaded_line (Some bs) = text_line (Some bs)

abbrev pub selected_note : Bool → List ℕ
selected_note b = if b then codes ", selected" else []

unfoldable pub entry_line : Entry → List ℕ
entry_line e = codes "item " ++ ref_text e.object ++ selected_note e.selected ++ 10 ∷ []

-- attributes

unfoldable pub behind_word : Held → List ℕ
behind_word h = codes " " ++ held_text h

abbrev pub told_held : Held → List ℕ
told_held (of.Value v) = behind_word (of.Value v)
told_held (of.Pair x y) = behind_word (of.Pair x y)
told_held (of.Colour c) = behind_word (of.Colour c)
told_held _ = []

unfoldable pub attribute_line : Attribute → Held → List ℕ
attribute_line a h = attribute_word a ++ told_held h ++ 10 ∷ []

abbrev pub attribute_if : Attribute → Option Held → List ℕ
attribute_if a None = []
attribute_if a (Some h) = attribute_line a h

abbrev pub attribute_of : Object → Attribute → List ℕ
attribute_of o a = attribute_if a (read a o)

unfoldable pub present_text : Object → List ℕ
present_text o =
    head_line o ++ status_text o.body ++ counts_text o.fixed.class o.body ++ value_line (value_held o.fixed o.body) ++ loaded_line o.body.text
    ++ flat_map entry_line o.body.list.entries ++ flat_map (attribute_of o) attributes

unfoldable pub absent_line : ObjRef → List ℕ
absent_line r = ref_text r ++ codes " is not present" ++ 10 ∷ []

abbrev pub told_of : ObjRef → Option Object → List ℕ
told_of r None = absent_line r
told_of r (Some o) = present_text o

-- WHAT IS TOLD OF THE OBJECT AT A REFERENCE
abbrev pub object_text : List Object → ObjRef → List ℕ
object_text os r = told_of r (object_at r os)
