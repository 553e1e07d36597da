-- The exact reading: the group that a text writes, or the first refusal from the left. It goes from
-- token to token, as the reader does; what it means is said by the laws that join it to the spelling.
use Rattle.std.specs.Prelude.{ℕ, zero, suc, ◌-◌, Bool, true, false, ◌&&◌, not, ◌==◌, nat_lt, nat_le, if◌then◌else◌, List, [], ◌∷◌, ◌++◌, length, take, drop, insert, Option, Some, None, Result, Ok, ℤ, pos, int_lt, unsigned_abs}
use Rattle.std.specs.Ordering.{int_eq}
use Rattle.std.specs.List.{list_all, prefix_len}
use Rattle.mh_base.specs.declared.colour.Colour.{Colour}
use Rattle.mh_base.specs.declared.event.EventType.{EventType}
use Rattle.mh_base.specs.declared.value.Kind.{Kind}
use Rattle.mh_base.specs.declared.value.Kind.TheVariants as kind
use Rattle.mh_base.specs.Path.{is_name_byte}
use Rattle.mh_base.specs.Reading.{whole, refused, ◌>>=◌, is_same}
use Rattle.mh_base.specs.Limits.{largest_file, longest_list}
use Rattle.mh_group.specs.declared.class.Class.{Class}
use Rattle.mh_group.specs.declared.attribute.Attribute.{Attribute}
use Rattle.mh_group.specs.declared.action_name.ActionName.{ActionName}
use Rattle.mh_group.specs.declared.shape.Shape.{Shape}
use Rattle.mh_group.specs.declared.shape.Shape.TheVariants as shape
use Rattle.mh_group.specs.declared.shape.Need.{Need}
use Rattle.mh_group.specs.declared.shape.Need.TheVariants as need
use Rattle.mh_group.specs.declared.reference.Ref.{Ref}
use Rattle.mh_group.specs.declared.reference.Ref.TheVariants as ref
use Rattle.mh_group.specs.declared.reference.Generic.{Generic}
use Rattle.mh_group.specs.declared.reference.Generic.TheVariants.{Direct, Indirect}
use Rattle.mh_group.specs.declared.justification.Justification.{Justification}
use Rattle.mh_group.specs.declared.action.Action.{Action}
use Rattle.mh_group.specs.declared.action.Content.{Content}
use Rattle.mh_group.specs.declared.action.Content.TheVariants as of_content
use Rattle.mh_group.specs.declared.action.EventData.{EventData}
use Rattle.mh_group.specs.declared.action.EventData.TheVariants as of_data
use Rattle.mh_group.specs.declared.action.Typed.{Typed}
use Rattle.mh_group.specs.declared.action.Typed.TheVariants as of_typed
use Rattle.mh_group.specs.declared.action.Parameter.{Parameter}
use Rattle.mh_group.specs.declared.action.Parameter.TheVariants as of_parameter
use Rattle.mh_group.specs.declared.written.Member.{Member}
use Rattle.mh_group.specs.declared.written.Position.{Position}
use Rattle.mh_group.specs.declared.written.NextScene.{NextScene}
use Rattle.mh_group.specs.declared.written.Setting.{Setting}
use Rattle.mh_group.specs.declared.written.Setting.TheVariants as of_setting
use Rattle.mh_group.specs.declared.written.Field.{Field}
use Rattle.mh_group.specs.declared.written.Ingredient.{Ingredient}
use Rattle.mh_group.specs.declared.written.Written.{Written}
use Rattle.mh_group.specs.Table.{attribute_number, shape_of, takes, needs_of, optional_of, is_group_class, is_items_shape}
use Rattle.mh_group.specs.Fit.{has_required, is_field_length, has_attribute}
use Rattle.mh_text.specs.declared.sign.Sign.{Sign}
use Rattle.mh_text.specs.declared.sign.Sign.TheVariants as sign
use Rattle.mh_text.specs.declared.text_error.Why.{Why}
use Rattle.mh_text.specs.declared.text_error.Why.TheVariants.{Syntax, Range, Limit, Lexical}
use Rattle.mh_text.specs.declared.octet_text.Escape.TheVariants.{Outside}
use Rattle.mh_text.specs.Escapes.{unescaped}
use Rattle.mh_text.specs.Rest.{Left, Piece}
use Rattle.mh_text.specs.Left.{left}
use Rattle.mh_text.specs.Gives.{Refusal}

-- the token is refused
abbrev pub refused_at : {A : Type 0} → Why → Piece → Result A Refusal
refused_at w p = refused w p.start

-- the end, where nothing is wrong there
abbrev pub end_of : {A : Type 0} → A → Option Why → ℕ → Result A Refusal
end_of x None o = Ok x
end_of x (Some w) o = refused w o

-- what is wrong at the end, where a token is wanted
abbrev pub missing : {A : Type 0} → Option Why → ℕ → Result A Refusal
missing None o = refused Syntax o
missing (Some w) o = refused w o

-- the next token and what is left behind it; none at the end
abbrev pub taken : Left → Result (Option (Piece × Left)) Refusal
taken left = first left.pieces
  where
    first : List Piece → Result (Option (Piece × Left)) Refusal
    first [] = end_of None left.wrong left.offset
    first (p ∷ ps) = Ok (Some (p, record left { pieces = ps }))

-- the next token and what is left behind it
abbrev pub next : Left → Result (Piece × Left) Refusal
next left = first left.pieces
  where
    first : List Piece → Result (Piece × Left) Refusal
    first [] = missing left.wrong left.offset
    first (p ∷ ps) = Ok (p, record left { pieces = ps })

-- nothing is left
abbrev pub ended : Left → Result (Unit {0}) Refusal
ended left = first left.pieces
  where
    first : List Piece → Result (Unit {0}) Refusal
    first [] = end_of tt left.wrong left.offset
    first (p ∷ ps) = refused_at Syntax p

abbrev pub is_open : Sign → Bool
is_open sign.OpenParenthesis = true
is_open _ = false

abbrev pub is_close : Sign → Bool
is_close sign.CloseParenthesis = true
is_close _ = false

abbrev pub is_indirect : Sign → Bool
is_indirect sign.IndirectRef = true
is_indirect _ = false

abbrev pub is_content_ref : Sign → Bool
is_content_ref sign.ContentRef = true
is_content_ref _ = false

abbrev pub is_open_brace : Sign → Bool
is_open_brace sign.OpenBrace = true
is_open_brace _ = false

abbrev pub is_close_brace : Sign → Bool
is_close_brace sign.CloseBrace = true
is_close_brace _ = false

-- what is left behind a token that passes the test; another is refused so
abbrev pub past : (Sign → Bool) → Why → Left → Result Left Refusal
past test w left = next left >>= λ x. if test x.0.sign then Ok x.1 else refused_at w x.0

unfoldable pub opened : Left → Result Left Refusal
opened left = past is_open Syntax left

unfoldable pub closed : Left → Result Left Refusal
closed left = past is_close Syntax left

-- behind a list that can take no more members
unfoldable pub closed_list : Left → Result Left Refusal
closed_list left = past is_close Limit left

unfoldable pub braced : Left → Result Left Refusal
braced left = past is_open_brace Syntax left

-- the bytes between the marks of a string
abbrev pub inner : List ℕ → List ℕ
inner text = take (length text - 2) (drop 1 text)

unfoldable pub name_of : Piece → Result (List ℕ) Refusal
name_of p = named p.sign
  where
    named : Sign → Result (List ℕ) Refusal
    named sign.Text = if list_all is_name_byte (inner p.text) then Ok (inner p.text) else refused_at Lexical p
    named _ = refused_at Syntax p

unfoldable pub integer_of : Piece → Result ℤ Refusal
integer_of p = written p.sign
  where
    written : Sign → Result ℤ Refusal
    written (sign.Integer x) = Ok x
    written _ = refused_at Syntax p

-- an integer from 0
unfoldable pub natural_of : Piece → Result ℤ Refusal
natural_of p = integer_of p >>= λ x. if int_lt x (pos 0) then refused_at Range p else Ok x

-- the length of an entry field
unfoldable pub field_length_of : Piece → Result ℤ Refusal
field_length_of p = integer_of p >>= λ x. if is_field_length x then Ok x else refused_at Range p

-- this integer and no other
unfoldable pub fixed_of : ℤ → Piece → Result ℤ Refusal
fixed_of wanted p = integer_of p >>= λ x. if int_eq x wanted then Ok x else refused_at Range p

-- the number of an object
unfoldable pub number_of : Piece → Result ℕ Refusal
number_of p = natural_of p >>= λ x. Ok (unsigned_abs x)

-- the number of an ingredient, from 1
unfoldable pub ingredient_number_of : Piece → Result ℕ Refusal
ingredient_number_of p = number_of p >>= λ n. if n == 0 then refused_at Range p else Ok n

unfoldable pub truth_of : Piece → Result Bool Refusal
truth_of p = written p.sign
  where
    written : Sign → Result Bool Refusal
    written (sign.Truth b) = Ok b
    written _ = refused_at Syntax p

unfoldable pub event_of : Piece → Result EventType Refusal
event_of p = written p.sign
  where
    written : Sign → Result EventType Refusal
    written (sign.Event e) = Ok e
    written _ = refused_at Syntax p

unfoldable pub justification_of : Piece → Result Justification Refusal
justification_of p = written p.sign
  where
    written : Sign → Result Justification Refusal
    written (sign.Justification j) = Ok j
    written _ = refused_at Syntax p

unfoldable pub octets_of : Piece → Result (List ℕ) Refusal
octets_of p = written p.sign
  where
    written : Sign → Result (List ℕ) Refusal
    written sign.Text = Ok (inner p.text)
    written sign.Quoted = Ok (unescaped Outside (inner p.text))
    written _ = refused_at Syntax p

-- the colour that these four octets are; any other number of octets is refused
abbrev pub colour_in : Piece → List ℕ → Result Colour Refusal
colour_in p (red ∷ green ∷ blue ∷ transparency ∷ []) = Ok (record { red = red; green = green; blue = blue; transparency = transparency })
colour_in p _ = refused_at Range p

unfoldable pub colour_of : Piece → Result Colour Refusal
colour_of p = octets_of p >>= λ octets. colour_in p octets

-- what stands behind the opening parenthesis of a reference with a name
unfoldable pub named_reference : Left → Result (Ref × Left) Refusal
named_reference left = do
  a ← next left
  name ← name_of a.0
  b ← next a.1
  number ← number_of b.0
  behind ← closed b.1
  Ok (ref.In name number, behind)

-- a reference that begins with this token
unfoldable pub reference : Piece → Left → Result (Ref × Left) Refusal
reference p left = begun p.sign
  where
    begun : Sign → Result (Ref × Left) Refusal
    begun (sign.Integer _) = number_of p >>= λ n. Ok (ref.Here n, left)
    begun sign.OpenParenthesis = named_reference left
    begun _ = refused_at Syntax p

-- a value, as a part of what f makes of it
abbrev pub made : {A B : Type 0} → (A → B) → Result (A × Left) Refusal → Result (B × Left) Refusal
made f read = read >>= λ x. Ok (f x.0, x.1)

-- a value of one token, and what is left behind the token
abbrev pub alone : {A : Type 0} → Result A Refusal → Left → Result (A × Left) Refusal
alone read left = read >>= λ x. Ok (x, left)

-- Values that begin with a token, by what they are; of each, what is left behind it.

abbrev pub truth : Piece → Left → Result (Bool × Left) Refusal
truth p left = alone (truth_of p) left

abbrev pub integer : Piece → Left → Result (ℤ × Left) Refusal
integer p left = alone (integer_of p) left

abbrev pub octets : Piece → Left → Result (List ℕ × Left) Refusal
octets p left = alone (octets_of p) left

-- the data of an event
unfoldable pub data_of : Piece → Result EventData Refusal
data_of p = written p.sign
  where
    written : Sign → Result EventData Refusal
    written (sign.Truth b) = Ok (of_data.Bool b)
    written (sign.Integer x) = Ok (of_data.Int x)
    written _ = refused_at Syntax p

abbrev pub event_data : Piece → Left → Result (EventData × Left) Refusal
event_data p left = alone (data_of p) left

-- the name of a content file, behind its keyword
unfoldable pub content_name : Piece → Left → Result (List ℕ × Left) Refusal
content_name p left = if is_content_ref p.sign then named else refused_at Syntax p
  where
    named : Result (List ℕ × Left) Refusal
    named = do
      a ← opened left
      b ← next a
      name ← name_of b.0
      behind ← closed b.1
      Ok (name, behind)

unfoldable pub content : Piece → Left → Result (Content × Left) Refusal
content p left =
    if is_content_ref p.sign then made of_content.Referenced (content_name p left)
    else made of_content.Included (octets p left)

-- a value that is written directly, or the reference of the variable that holds it
unfoldable pub generic : {A : Type 0} → (Piece → Left → Result (A × Left) Refusal) → Piece → Left → Result (Generic A × Left) Refusal
generic value p left =
    if is_indirect p.sign then made Indirect (next left >>= λ a. reference a.0 a.1)
    else made Direct (value p left)

-- the next member of a list, which begins with its token; none behind the closing parenthesis
unfoldable pub next_member : {A : Type 0} → (Piece → Left → Result (A × Left) Refusal) → Left → Result (Option A × Left) Refusal
next_member member left = next left >>= λ a.
    if is_close a.0.sign then Ok (None, a.1) else (member a.0 a.1 >>= λ x. Ok (Some x.0, x.1))

-- a list goes on behind a member, and else is done
abbrev pub continued : {A : Type 0} → (List A → Left → Result (List A × Left) Refusal) → List A → Option A → Left → Result (List A × Left) Refusal
continued further done None left = Ok (done, left)
continued further done (Some x) left = further (done ++ x ∷ []) left

-- the members of a list up to its closing parenthesis, of which so many more may come
unfoldable pub listed : {A : Type 0} → (Piece → Left → Result (A × Left) Refusal) → ℕ → List A → Left → Result (List A × Left) Refusal
listed member zero done left = closed_list left >>= λ behind. Ok (done, behind)
listed member (suc n) done left = next_member member left >>= λ x. continued (listed member n) done x.0 x.1

-- the members of a list between parentheses, of which this token is the first; at most so many
unfoldable pub list : {A : Type 0} → (Piece → Left → Result (A × Left) Refusal) → ℕ → Piece → Left → Result (List A × Left) Refusal
list member most p left = if is_open p.sign then listed member most [] left else refused_at Syntax p

-- a value behind the keyword of its kind
unfoldable pub value_of : Kind → Piece → Left → Result (Typed × Left) Refusal
value_of kind.Bool p left = made of_typed.Bool (generic truth p left)
value_of kind.Int p left = made of_typed.Int (generic integer p left)
value_of kind.Octets p left = made of_typed.Octets (generic octets p left)
value_of kind.Object p left = made of_typed.Ref (generic reference p left)
value_of kind.Content p left = made of_typed.ContentRef (generic content_name p left)

-- a value with the keyword of its kind in front
unfoldable pub typed : Piece → Left → Result (Typed × Left) Refusal
typed p left = behind p.sign
  where
    behind : Sign → Result (Typed × Left) Refusal
    behind (sign.Kind k) = next left >>= λ a. value_of k a.0 a.1
    behind _ = refused_at Syntax p

-- a parameter that a variable may hold
unfoldable pub generic_parameter : Need → Piece → Left → Result (Parameter × Left) Refusal
generic_parameter need.Bool p left = made of_parameter.Bool (generic truth p left)
generic_parameter need.Int p left = made of_parameter.Int (generic integer p left)
generic_parameter need.Octets p left = made of_parameter.Octets (generic octets p left)
generic_parameter need.Ref p left = made of_parameter.Ref (generic reference p left)
generic_parameter need.Content p left = made of_parameter.Content (generic content p left)
generic_parameter need.Data p left = made of_parameter.Data (generic event_data p left)
generic_parameter _ p left = refused_at Syntax p

unfoldable pub parameter : Need → Piece → Left → Result (Parameter × Left) Refusal
parameter need.Event p left = made of_parameter.Event (alone (event_of p) left)
parameter (need.Receiver _) p left = made of_parameter.Receiver (reference p left)
parameter need.Typed p left = made of_parameter.Typed (typed p left)
parameter need.Arguments p left = made of_parameter.Arguments (list typed longest_list p left)
parameter n p left = generic_parameter n p left

-- The parameters that are needed, in their order, up to the closing parenthesis. So many of them may be
-- missing at the end.
abbrev pub parameters : ℕ → List Need → List Parameter → Left → Result (List Parameter × Left) Refusal
parameters optional [] done left = closed left >>= λ behind. Ok (done, behind)
parameters optional (n ∷ ns) done left = next left >>= λ a.
    if nat_le (length (n ∷ ns)) optional && is_close a.0.sign then Ok (done, a.1)
    else (parameter n a.0 a.1 >>= λ x. parameters optional ns (done ++ x.0 ∷ []) x.1)

unfoldable pub action_name_of : Piece → Result ActionName Refusal
action_name_of p = written p.sign
  where
    written : Sign → Result ActionName Refusal
    written (sign.Action name) = Ok name
    written _ = refused_at Syntax p

-- the action that begins with this token
unfoldable pub action : Piece → Left → Result (Action × Left) Refusal
action p left = do
  name ← action_name_of p
  a ← opened left
  b ← next a
  target ← generic reference b.0 b.1
  given ← parameters (optional_of name) (needs_of name) [] target.1
  Ok (record { name = name; target = target.0; parameters = given.0 }, given.1)

abbrev pub effect : Piece → Left → Result (List Action × Left) Refusal
effect p left = list action longest_list p left

-- one row of a movement table
abbrev pub row : Piece → Left → Result (List ℤ × Left) Refusal
row p left = list integer longest_list p left

-- a member with its slots
unfoldable pub member : Piece → Left → Result (Member × Left) Refusal
member p left = if is_open p.sign then described else refused_at Syntax p
  where
    described : Result (Member × Left) Refusal
    described = do
      a ← next left
      object ← reference a.0 a.1
      slots ← listed effect longest_list [] object.1
      Ok (record { object = object.0; slots = slots.0 }, slots.1)

-- a member of a list group, which has no slots
unfoldable pub list_item : Piece → Left → Result (Member × Left) Refusal
list_item p left = if is_open p.sign then described else refused_at Syntax p
  where
    described : Result (Member × Left) Refusal
    described = do
      a ← next left
      object ← reference a.0 a.1
      behind ← closed object.1
      Ok (record { object = object.0; slots = [] }, behind)

-- where a cell lies: two integers between parentheses
unfoldable pub position : Piece → Left → Result (Position × Left) Refusal
position p left = if is_open p.sign then described else refused_at Syntax p
  where
    described : Result (Position × Left) Refusal
    described = do
      a ← next left
      x ← integer_of a.0
      b ← next a.1
      y ← integer_of b.0
      behind ← closed b.1
      Ok (record { x = x; y = y }, behind)

-- a scene that may come next: a name and an integer between parentheses
unfoldable pub next_scene : Piece → Left → Result (NextScene × Left) Refusal
next_scene p left = if is_open p.sign then described else refused_at Syntax p
  where
    described : Result (NextScene × Left) Refusal
    described = do
      a ← next left
      name ← name_of a.0
      b ← next a.1
      weight ← integer_of b.0
      behind ← closed b.1
      Ok (record { name = name; weight = weight }, behind)

-- the value of a shape of one token
unfoldable pub single : Shape → Piece → Result Setting Refusal
single shape.Bool p = truth_of p >>= λ x. Ok (of_setting.Bool x)
single shape.Int p = integer_of p >>= λ x. Ok (of_setting.Int x)
single shape.Natural p = natural_of p >>= λ x. Ok (of_setting.Int x)
single shape.Length p = field_length_of p >>= λ x. Ok (of_setting.Int x)
single shape.Event p = event_of p >>= λ x. Ok (of_setting.Event x)
single shape.Data p = data_of p >>= λ x. Ok (of_setting.Data x)
single shape.Octets p = octets_of p >>= λ x. Ok (of_setting.Octets x)
single shape.Colour p = colour_of p >>= λ x. Ok (of_setting.Colour x)
single shape.Justification p = justification_of p >>= λ x. Ok (of_setting.Justification x)
single _ p = refused_at Syntax p

-- one integer of a pair; the screen's has one value
unfoldable pub part : Shape → ℤ → Piece → Result ℤ Refusal
part shape.Size screen p = natural_of p
part shape.Screen screen p = fixed_of screen p
part _ screen p = integer_of p

unfoldable pub pair : Shape → Piece → Left → Result (Setting × Left) Refusal
pair s p left = do
  x ← part s (pos 720) p
  a ← next left
  y ← part s (pos 576) a.0
  Ok (of_setting.Pair x y, a.1)

-- the value of a shape that is a list
unfoldable pub several : Shape → Piece → Left → Result (Setting × Left) Refusal
several shape.Effect p left = made of_setting.Effect (effect p left)
several shape.MovementTable p left = made of_setting.MovementTable (list row longest_list p left)
several shape.Members p left = made of_setting.Members (list member longest_list p left)
several shape.ListItems p left = made of_setting.Members (list list_item 256 p left)
several shape.Positions p left = made of_setting.Positions (list position longest_list p left)
several shape.NextScenes p left = made of_setting.NextScenes (list next_scene longest_list p left)
several _ p left = refused_at Syntax p

-- the value of this shape, which begins with this token
unfoldable pub setting_at : Shape → Piece → Left → Result (Setting × Left) Refusal
setting_at shape.Ref p left = made of_setting.Ref (reference p left)
setting_at shape.Pair p left = pair shape.Pair p left
setting_at shape.Size p left = pair shape.Size p left
setting_at shape.Screen p left = pair shape.Screen p left
setting_at shape.Content p left = made of_setting.Content (content p left)
setting_at shape.ContentRef p left = made of_setting.ContentRef (content_name p left)
setting_at shape.Effect p left = several shape.Effect p left
setting_at shape.MovementTable p left = several shape.MovementTable p left
setting_at shape.Members p left = several shape.Members p left
setting_at shape.ListItems p left = several shape.ListItems p left
setting_at shape.Positions p left = several shape.Positions p left
setting_at shape.NextScenes p left = several shape.NextScenes p left
setting_at s p left = alone (single s p) left

unfoldable pub setting : Shape → Left → Result (Setting × Left) Refusal
setting s left = next left >>= λ a. setting_at s a.0 a.1

-- the attribute that this token names, where the class takes it and it has not come before
unfoldable pub attribute_of : Class → List Field → Piece → Result Attribute Refusal
attribute_of c fields p = named p.sign
  where
    named : Sign → Result Attribute Refusal
    named (sign.Attribute a) = if takes c a && not (has_attribute fields a) then Ok a else refused_at Syntax p
    named _ = refused_at Syntax p

-- the fields with one more, put behind those of smaller numbers
abbrev pub placed : Field → List Field → List Field
placed f fields = insert fields (prefix_len (λ g. nat_lt (attribute_number g.attribute) (attribute_number f.attribute)) fields) f

-- the token is the keyword of a group's items
unfoldable pub is_items : Class → Sign → Bool
is_items c (sign.Attribute a) = is_items_shape (shape_of c a)
is_items c _ = false

-- the next field, with the token at which it begins; none at the closing brace or the keyword of the
-- items
unfoldable pub next_field : Class → List Field → Left → Result (Option Field × Piece × Left) Refusal
next_field c done left = next left >>= λ a.
    if is_close_brace a.0.sign then Ok (None, a.0, a.1)
    else (attribute_of c done a.0 >>= λ name.
    if is_items_shape (shape_of c name) then Ok (None, a.0, a.1)
    else (setting (shape_of c name) a.1 >>= λ x. Ok (Some (record { attribute = name; setting = x.0 }), a.0, x.1)))

-- fields go on behind a field, and else are done
abbrev pub gathered : (List Field → Left → Result (List Field × Piece × Left) Refusal) → List Field → Option Field → Piece → Left → Result (List Field × Piece × Left) Refusal
gathered further done None p left = Ok (done, p, left)
gathered further done (Some f) p left = further (placed f done) left

-- The fields up to the closing brace or the keyword of the items, put in order among those that came
-- before, with the token at which they end; so many more may come.
unfoldable pub fields : Class → ℕ → List Field → Left → Result (List Field × Piece × Left) Refusal
fields c zero done left = next left >>= λ a. refused_at Limit a.0
fields c (suc n) done left = next_field c done left >>= λ x. gathered (fields c n) done x.0 x.1 x.2

-- the fields behind the items, which do not come twice
unfoldable pub fields_behind_items : Class → List Field → Left → Result (List Field × Piece × Left) Refusal
fields_behind_items c done left = fields c longest_list done left >>= λ x. if is_items c x.1.sign then refused_at Syntax x.1 else Ok (x.0, x.1, x.2)

-- the fields, where none that the class needs is missing
unfoldable pub complete : Class → List Field → Piece → Result (List Field) Refusal
complete c done end = if has_required c done then Ok done else refused_at Syntax end

-- the class of a group, or of an ingredient
unfoldable pub class_of : Bool → Piece → Result Class Refusal
class_of wanted p = named p.sign
  where
    named : Sign → Result Class Refusal
    named (sign.Class c) = if is_same (is_group_class c) wanted then Ok c else refused_at Syntax p
    named _ = refused_at Syntax p

-- the rest of an ingredient, behind its class and number
abbrev pub ingredient_with : Class → ℕ → Left → Result (Ingredient × Left) Refusal
ingredient_with class number left = do
  x ← fields class longest_list [] left
  done ← complete class x.0 x.1
  Ok (record { class = class; number = number; fields = done }, x.2)

-- the ingredient that begins with this token
unfoldable pub ingredient : Piece → Left → Result (Ingredient × Left) Refusal
ingredient p left = if is_open_brace p.sign then described else refused_at Syntax p
  where
    described : Result (Ingredient × Left) Refusal
    described = do
      a ← next left
      class ← class_of false a.0
      b ← next a.1
      number ← ingredient_number_of b.0
      ingredient_with class number b.1

unfoldable pub items : Left → Result (List Ingredient × Left) Refusal
items left = next left >>= λ a. list ingredient longest_list a.0 a.1

-- a name, and the number 0
unfoldable pub identifier : Left → Result (List ℕ × Left) Refusal
identifier left = do
  a ← opened left
  b ← next a
  name ← name_of b.0
  c ← next b.1
  number ← number_of c.0
  behind ← (if number == 0 then closed c.1 else refused_at Range c.0)
  Ok (name, behind)

-- the items, and the fields behind them among those before
abbrev pub items_and_fields : Class → List Field → Left → Result (List Field × Option (List Ingredient) × Piece × Left) Refusal
items_and_fields c before left = do
  y ← items left
  z ← fields_behind_items c before y.1
  Ok (z.0, Some y.0, z.1, z.2)

-- what stands between a group's identifier and its closing brace
unfoldable pub body : Class → Left → Result (List Field × Option (List Ingredient) × Piece × Left) Refusal
body c left = fields c longest_list [] left >>= λ x.
    if is_items c x.1.sign then items_and_fields c x.0 x.2
    else Ok (x.0, None, x.1, x.2)

-- the rest of a group, behind its class and identifier
abbrev pub group_with : Class → List ℕ → Left → Result (Written × Left) Refusal
group_with class identifier left = do
  x ← body class left
  done ← complete class x.0 x.2
  Ok (record { class = class; identifier = identifier; fields = done; items = x.1 }, x.3)

unfoldable pub group : Left → Result (Written × Left) Refusal
group left = do
  a ← braced left
  b ← next a
  class ← class_of true b.0
  identity ← identifier b.1
  group_with class identity.0 identity.1

-- the group that the text writes, or the first refusal from the left
unfoldable pub read : List ℕ → Result Written Refusal
read bytes = if nat_lt largest_file (length bytes) then refused Limit 0 else (do
  x ← group (left false (whole bytes))
  end ← ended x.1
  Ok x.0)
