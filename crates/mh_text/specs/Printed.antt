-- The printed form of a group: its words in the order of the grammar, the first at the beginning, each other
-- behind one space, and a line feed at the end. Every part below stands behind its space.
use Rattle.std.specs.Prelude.{◌≡◌, ◌≢◌, ℕ, ◌+◌, ◌/◌, ◌%◌, ℤ, pos, int_lt, Bool, true, false, ◌&&◌, ◌||◌, not, ◌==◌, nat_lt, if◌then◌else◌, List, [], ◌∷◌, ◌++◌, length, take, drop, Option, Some, None, Result, Ok, Err, codes}
use Rattle.std.specs.List.{flat_map}
use Rattle.std.specs.Fmt.{signed_decimal}
use Rattle.mh_base.specs.declared.colour.Colour.{Colour}
use Rattle.mh_base.specs.Limits.{largest_file}
use Rattle.mh_group.specs.declared.attribute.Attribute.TheVariants as attribute
use Rattle.mh_group.specs.declared.reference.Ref.{Ref}
use Rattle.mh_group.specs.declared.reference.Ref.TheVariants as ref
use Rattle.mh_group.specs.declared.reference.Generic.{Generic}
use Rattle.mh_group.specs.declared.reference.Generic.TheVariants.{Direct, Indirect}
use Rattle.mh_group.specs.declared.action.Action.{Action}
use Rattle.mh_group.specs.declared.action.Content.{Content}
use Rattle.mh_group.specs.declared.action.Content.TheVariants as of_content
use Rattle.mh_group.specs.declared.action.EventData.{EventData}
use Rattle.mh_group.specs.declared.action.EventData.TheVariants as of_data
use Rattle.mh_group.specs.declared.action.Typed.{Typed}
use Rattle.mh_group.specs.declared.action.Typed.TheVariants as of_typed
use Rattle.mh_group.specs.declared.action.Parameter.{Parameter}
use Rattle.mh_group.specs.declared.action.Parameter.TheVariants as of_parameter
use Rattle.mh_group.specs.declared.written.Member.{Member}
use Rattle.mh_group.specs.declared.written.Position.{Position}
use Rattle.mh_group.specs.declared.written.NextScene.{NextScene}
use Rattle.mh_group.specs.declared.written.Setting.{Setting}
use Rattle.mh_group.specs.declared.written.Setting.TheVariants as of_setting
use Rattle.mh_group.specs.declared.written.Field.{Field}
use Rattle.mh_group.specs.declared.written.Ingredient.{Ingredient}
use Rattle.mh_group.specs.declared.written.Written.{Written}
use Rattle.mh_group.specs.Holdable.{colour_octets, is_holdable}
use Rattle.mh_group.specs.Words.{class_word, attribute_word, action_word, event_word, justification_word, kind_word, kind_of}
use Rattle.mh_group.specs.Fit.{before_items}
use Rattle.mh_text.specs.declared.text_error.TextError.{TextError}
use Rattle.mh_text.specs.declared.text_error.TextError.TheVariants.{At, NoMemory}
use Rattle.mh_text.specs.declared.text_error.Why.TheVariants.{Limit}
use Rattle.mh_text.specs.Bytes.{is_quoted_byte}
use Rattle.mh_text.specs.Spelling.{truth_word}

abbrev pub opening : List ℕ
opening = 32 ∷ 40 ∷ []

abbrev pub closing : List ℕ
closing = 32 ∷ 41 ∷ []

abbrev pub opening_brace : List ℕ
opening_brace = 32 ∷ 123 ∷ []

abbrev pub closing_brace : List ℕ
closing_brace = 32 ∷ 125 ∷ []

unfoldable pub keyword : List ℕ → List ℕ
keyword name = 32 ∷ 58 ∷ name

unfoldable pub word : List ℕ → List ℕ
word letters = 32 ∷ letters

unfoldable pub truth : Bool → List ℕ
truth b = word (truth_word b)

-- without leading zeros, and without a plus
unfoldable pub integer : ℤ → List ℕ
integer x = 32 ∷ signed_decimal x

-- the space in front of an integer, and its sign where it has one
abbrev pub sign : ℤ → List ℕ
sign x = if int_lt x (pos 0) then 32 ∷ 45 ∷ [] else 32 ∷ []

abbrev pub natural : ℕ → List ℕ
natural n = integer (pos n)

-- a name, as a string
unfoldable pub name : List ℕ → List ℕ
name bytes = 32 ∷ 34 ∷ (bytes ++ 34 ∷ [])

-- the upper-case digit of this value
abbrev pub hexadecimal_digit : ℕ → ℕ
hexadecimal_digit d = if nat_lt d 10 then 48 + d else 55 + d

-- an octet in a quoted string: as it is where it may stand so, else as its two digits
abbrev pub quoted : ℕ → List ℕ
quoted b = if is_quoted_byte b && not (b == 61) then b ∷ [] else 61 ∷ hexadecimal_digit (b / 16) ∷ hexadecimal_digit (b % 16) ∷ []

-- octets, as a quoted string
unfoldable pub octets : List ℕ → List ℕ
octets bytes = 32 ∷ 39 ∷ (flat_map quoted bytes ++ 39 ∷ [])

-- a colour, as its four octets
abbrev pub colour : Colour → List ℕ
colour c = octets (colour_octets c)

-- a list between parentheses
unfoldable pub list : {A : Type 0} → (A → List ℕ) → List A → List ℕ
list printed xs = opening ++ flat_map printed xs ++ closing

-- a name and a number
unfoldable pub named : List ℕ → ℕ → List ℕ
named bytes n = opening ++ name bytes ++ natural n ++ closing

abbrev pub reference : Ref → List ℕ
reference (ref.Here n) = natural n
reference (ref.In bytes n) = named bytes n

unfoldable pub indirect_word : List ℕ
indirect_word = codes "IndirectRef"

-- a value, or the reference of the variable that holds it
unfoldable pub generic : {A : Type 0} → (A → List ℕ) → Generic A → List ℕ
generic printed (Direct x) = printed x
generic printed (Indirect r) = keyword indirect_word ++ reference r

-- the name of a content file
unfoldable pub content_name : List ℕ → List ℕ
content_name bytes = keyword (codes "ContentRef") ++ opening ++ name bytes ++ closing

abbrev pub kind_value : Typed → List ℕ
kind_value (of_typed.Bool x) = generic truth x
kind_value (of_typed.Int x) = generic integer x
kind_value (of_typed.Octets x) = generic octets x
kind_value (of_typed.Ref x) = generic reference x
kind_value (of_typed.ContentRef x) = generic content_name x

-- a value behind the keyword of its kind
unfoldable pub typed_value : Typed → List ℕ
typed_value x = keyword (kind_word (kind_of x)) ++ kind_value x

abbrev pub content_value : Content → List ℕ
content_value (of_content.Included bytes) = octets bytes
content_value (of_content.Referenced bytes) = content_name bytes

abbrev pub data_value : EventData → List ℕ
data_value (of_data.Bool b) = truth b
data_value (of_data.Int x) = integer x

abbrev pub parameter_value : Parameter → List ℕ
parameter_value (of_parameter.Bool x) = generic truth x
parameter_value (of_parameter.Int x) = generic integer x
parameter_value (of_parameter.Octets x) = generic octets x
parameter_value (of_parameter.Ref x) = generic reference x
parameter_value (of_parameter.Content x) = generic content_value x
parameter_value (of_parameter.Data x) = generic data_value x
parameter_value (of_parameter.Event e) = word (event_word e)
parameter_value (of_parameter.Receiver r) = reference r
parameter_value (of_parameter.Typed x) = typed_value x
parameter_value (of_parameter.Arguments xs) = list typed_value xs

unfoldable pub action : Action → List ℕ
action a = keyword (action_word a.name) ++ opening ++ generic reference a.target ++ flat_map parameter_value a.parameters ++ closing

-- a member: its object, and the effect of each slot
unfoldable pub member : Member → List ℕ
member m = opening ++ reference m.object ++ flat_map (list action) m.slots ++ closing

unfoldable pub position : Position → List ℕ
position p = opening ++ integer p.x ++ integer p.y ++ closing

unfoldable pub next_scene : NextScene → List ℕ
next_scene s = opening ++ name s.name ++ integer s.weight ++ closing

-- the value of an attribute
unfoldable pub value : Setting → List ℕ
value (of_setting.Bool b) = truth b
value (of_setting.Int x) = integer x
value (of_setting.Pair x y) = integer x ++ integer y
value (of_setting.Octets bytes) = octets bytes
value (of_setting.Colour c) = colour c
value (of_setting.Ref r) = reference r
value (of_setting.Content x) = content_value x
value (of_setting.ContentRef bytes) = content_name bytes
value (of_setting.Event e) = word (event_word e)
value (of_setting.Data x) = data_value x
value (of_setting.Justification j) = word (justification_word j)
value (of_setting.Effect actions) = list action actions
value (of_setting.MovementTable rows) = list (list integer) rows
value (of_setting.Members members) = list member members
value (of_setting.Positions positions) = list position positions
value (of_setting.NextScenes scenes) = list next_scene scenes

unfoldable pub field : Field → List ℕ
field f = keyword (attribute_word f.attribute) ++ value f.setting

unfoldable pub ingredient : Ingredient → List ℕ
ingredient i = opening_brace ++ keyword (class_word i.class) ++ natural i.number ++ flat_map field i.fields ++ closing_brace

unfoldable pub items : List Ingredient → List ℕ
items is = keyword (attribute_word attribute.Items) ++ list ingredient is

-- the fields, and the items at their place among them
unfoldable pub body : Option (List Ingredient) → List Field → List ℕ
body None fields = flat_map field fields
body (Some is) fields = flat_map field (take (before_items fields) fields) ++ items is ++ flat_map field (drop (before_items fields) fields)

unfoldable pub printed : Written → List ℕ
printed g = 123 ∷ (keyword (class_word g.class) ++ named g.identifier 0 ++ body g.items g.fields ++ closing_brace ++ 10 ∷ [])

-- a list of the group has too many members, or its printed form is too long for a file
unfoldable pub passes_limit : Written → Bool
passes_limit g = not (is_holdable g) || nat_lt largest_file (length (printed g))

-- unless memory ran out, the error is that of a limit and the test of what was to be printed fails
abbrev pub Refuses : Bool → TextError → Type 0
Refuses fits e = e ≢ NoMemory → (e ≡ At Limit 0) × (fits ≡ false)

-- What a printer did: behind what the buffer held stands what is printed of a value that fits, or the
-- value is refused.
abbrev pub Puts : {X : Type 0} → Result X TextError → List ℕ → List ℕ → List ℕ → Bool → Type 0
Puts (Ok _) old new printed fits = (new ≡ old ++ printed) × (fits ≡ true)
Puts (Err e) old new printed fits = Refuses fits e
