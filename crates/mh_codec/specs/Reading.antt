-- The exact reading by a table of tags: the group that the octets spell, or the first refusal from the
-- left. It goes from element to element, as the reader does; what it means is said by the laws that join
-- it to the spelling.
use Rattle.std.specs.Prelude.{ℕ, zero, suc, Bool, true, false, ◌||◌, ◌&&◌, ◌==◌, nat_lt, nat_le, if◌then◌else◌, List, [], ◌∷◌, ◌++◌, length, Option, Some, None, Result, Ok, ℤ, pos, int_lt, unsigned_abs}
use Rattle.std.specs.Ordering.{int_eq}
use Rattle.std.specs.List.{list_all, find}
use Rattle.mh_base.specs.declared.colour.Colour.{Colour}
use Rattle.mh_base.specs.declared.event.EventType.{EventType}
use Rattle.mh_base.specs.Event.{event_of as event_with}
use Rattle.mh_base.specs.declared.value.Kind.{Kind as ValueKind}
use Rattle.mh_base.specs.declared.value.Kind.TheVariants as value_kind
use Rattle.mh_base.specs.Path.{is_name_byte}
use Rattle.mh_base.specs.Reading.{Rest, whole, refused, ◌>>=◌, is_same}
use Rattle.mh_base.specs.Limits.{largest_file, longest_list}
use Rattle.mh_der.specs.Rest.{Element}
use Rattle.mh_der.specs.Element.{begins_with}
use Rattle.mh_der.specs.Reading.{next, ended as der_ended, told_at, integer_of, boolean_of, is_empty}
use Rattle.mh_group.specs.declared.class.Class.{Class}
use Rattle.mh_group.specs.declared.class.Class.TheVariants as class
use Rattle.mh_group.specs.declared.attribute.Attribute.{Attribute}
use Rattle.mh_group.specs.declared.shape.Shape.{Shape}
use Rattle.mh_group.specs.declared.shape.Shape.TheVariants as shape
use Rattle.mh_group.specs.declared.shape.Need.{Need}
use Rattle.mh_group.specs.declared.shape.Need.TheVariants as need
use Rattle.mh_group.specs.declared.reference.Ref.{Ref}
use Rattle.mh_group.specs.declared.reference.Ref.TheVariants as ref
use Rattle.mh_group.specs.declared.reference.Generic.{Generic}
use Rattle.mh_group.specs.declared.reference.Generic.TheVariants.{Direct, Indirect}
use Rattle.mh_group.specs.declared.justification.Justification.{Justification}
use Rattle.mh_group.specs.declared.action.Action.{Action}
use Rattle.mh_group.specs.declared.action.Content.{Content}
use Rattle.mh_group.specs.declared.action.Content.TheVariants as of_content
use Rattle.mh_group.specs.declared.action.EventData.{EventData}
use Rattle.mh_group.specs.declared.action.EventData.TheVariants as of_data
use Rattle.mh_group.specs.declared.action.Typed.{Typed}
use Rattle.mh_group.specs.declared.action.Typed.TheVariants as of_typed
use Rattle.mh_group.specs.declared.action.Parameter.{Parameter}
use Rattle.mh_group.specs.declared.action.Parameter.TheVariants as of_parameter
use Rattle.mh_group.specs.declared.written.Member.{Member}
use Rattle.mh_group.specs.declared.written.Position.{Position}
use Rattle.mh_group.specs.declared.written.NextScene.{NextScene}
use Rattle.mh_group.specs.declared.written.Setting.{Setting}
use Rattle.mh_group.specs.declared.written.Setting.TheVariants as of_setting
use Rattle.mh_group.specs.declared.written.Field.{Field}
use Rattle.mh_group.specs.declared.written.Ingredient.{Ingredient}
use Rattle.mh_group.specs.declared.written.Written.{Written}
use Rattle.mh_group.specs.Words.{justifications, justification_number}
use Rattle.mh_group.specs.Fit.{has_required, is_field_length}
use Rattle.mh_group.specs.Table.{attribute_number, shape_of, takes, needs_of, optional_of, is_group_class, is_items_shape}
use Rattle.mh_codec.specs.declared.kind.Kind.{Kind}
use Rattle.mh_codec.specs.declared.kind.Kind.TheVariants as kind
use Rattle.mh_codec.specs.declared.codec_error.Why.{Why}
use Rattle.mh_codec.specs.declared.codec_error.Why.TheVariants.{UnknownTag, MissingField, WrongOrder, Limit, BadValue}
use Rattle.mh_codec.specs.Tags.{Tags, kind_of, class_tag, class_with, attribute_with, action_with, value_kind_with, content_name_tag, variable_tag, items_number}
use Rattle.mh_codec.specs.Spelling.{own}
use Rattle.mh_codec.specs.Gives.{Refusal, der}

-- the element is refused
abbrev pub refused_at : {A : Type 0} → Why → Element → Result A Refusal
refused_at w e = refused w e.offset

-- the next element, and what is left behind it
unfoldable pub taken : Rest → Result (Element × Rest) Refusal
taken left = der (next left)

-- nothing is left
unfoldable pub ended : Rest → Result (Unit {0}) Refusal
ended left = der (der_ended left)

-- nothing is left; else what is left is refused for this cause
unfoldable pub exhausted : Why → Rest → Result (Unit {0}) Refusal
exhausted w left = if is_empty left.bytes then Ok tt else refused w left.offset

-- what was read, where it may stand; else the element is refused
abbrev pub admitted : {A : Type 0} → Bool → Why → Element → A → Result A Refusal
admitted b w e x = if b then Ok x else refused_at w e

unfoldable pub truth_at : Element → Result Bool Refusal
truth_at e = of_kind (kind_of e.tag)
  where
    of_kind : Kind → Result Bool Refusal
    of_kind kind.Boolean = der (told_at e (boolean_of e.contents.bytes))
    of_kind _ = refused_at UnknownTag e

unfoldable pub integer_at : Element → Result ℤ Refusal
integer_at e = of_kind (kind_of e.tag)
  where
    of_kind : Kind → Result ℤ Refusal
    of_kind kind.Integer = der (told_at e (integer_of e.contents.bytes))
    of_kind _ = refused_at UnknownTag e

unfoldable pub octets_at : Element → Result (List ℕ) Refusal
octets_at e = of_kind (kind_of e.tag)
  where
    of_kind : Kind → Result (List ℕ) Refusal
    of_kind kind.Octets = Ok e.contents.bytes
    of_kind _ = refused_at UnknownTag e

-- what is inside a sequence
unfoldable pub sequence_at : Element → Result Rest Refusal
sequence_at e = of_kind (kind_of e.tag)
  where
    of_kind : Kind → Result Rest Refusal
    of_kind kind.Sequence = Ok e.contents
    of_kind _ = refused_at UnknownTag e

-- the number of a tag of the notation's own
unfoldable pub own_at : Element → Result ℕ Refusal
own_at e = of_kind (kind_of e.tag)
  where
    of_kind : Kind → Result ℕ Refusal
    of_kind (kind.Own n) = Ok n
    of_kind _ = refused_at UnknownTag e

-- the number of a tag of the notation's own that is primitive
unfoldable pub primitive_at : Element → Result ℕ Refusal
primitive_at e = of_kind (kind_of e.tag)
  where
    of_kind : Kind → Result ℕ Refusal
    of_kind (kind.Primitive n) = Ok n
    of_kind _ = refused_at UnknownTag e

-- an integer from 0
unfoldable pub natural_at : Element → Result ℤ Refusal
natural_at e = integer_at e >>= λ x. if int_lt x (pos 0) then refused_at BadValue e else Ok x

-- the length of an entry field
unfoldable pub length_at : Element → Result ℤ Refusal
length_at e = integer_at e >>= λ x. if is_field_length x then Ok x else refused_at BadValue e

-- this integer and no other
unfoldable pub fixed_at : ℤ → Element → Result ℤ Refusal
fixed_at wanted e = integer_at e >>= λ x. if int_eq x wanted then Ok x else refused_at BadValue e

-- the number of an object
unfoldable pub number_at : Element → Result ℕ Refusal
number_at e = natural_at e >>= λ x. Ok (unsigned_abs x)

-- the number of an ingredient, from 1
unfoldable pub ingredient_number_at : Element → Result ℕ Refusal
ingredient_number_at e = number_at e >>= λ n. if n == 0 then refused_at BadValue e else Ok n

-- the bytes, where a name may hold them; else the element is refused
abbrev pub name_of : Element → List ℕ → Result (List ℕ) Refusal
name_of e name = if list_all is_name_byte name then Ok name else refused_at BadValue e

unfoldable pub name_at : Element → Result (List ℕ) Refusal
name_at e = octets_at e >>= λ name. name_of e name

-- the data of an event
unfoldable pub data_at : Element → Result EventData Refusal
data_at e = of_kind (kind_of e.tag)
  where
    of_kind : Kind → Result EventData Refusal
    of_kind kind.Boolean = truth_at e >>= λ x. Ok (of_data.Bool x)
    of_kind _ = integer_at e >>= λ x. Ok (of_data.Int x)

abbrev pub some_at : {A : Type 0} → Element → Why → Option A → Result A Refusal
some_at e w (Some x) = Ok x
some_at e w None = refused_at w e

unfoldable pub event_at : Element → Result EventType Refusal
event_at e = number_at e >>= λ n. some_at e BadValue (event_with n)

unfoldable pub justification_at : Element → Result Justification Refusal
justification_at e = number_at e >>= λ n. some_at e BadValue (find (λ j. justification_number j == n) justifications)

-- the colour of four octets
abbrev pub colour_of : List ℕ → Option Colour
colour_of (red ∷ green ∷ blue ∷ transparency ∷ []) = Some (record { red = red; green = green; blue = blue; transparency = transparency })
colour_of _ = None

unfoldable pub colour_at : Element → Result Colour Refusal
colour_at e = octets_at e >>= λ octets. some_at e BadValue (colour_of octets)

-- a name and a number with its element, and nothing behind them
unfoldable pub named_in : Rest → Result (List ℕ × ℕ × Element) Refusal
named_in left = do
  a ← taken left
  name ← name_at a.0
  b ← taken a.1
  number ← number_at b.0
  end ← ended b.1
  Ok (name, number, b.0)

unfoldable pub reference_at : Element → Result Ref Refusal
reference_at e = of_kind (kind_of e.tag)
  where
    of_kind : Kind → Result Ref Refusal
    of_kind kind.Integer = number_at e >>= λ n. Ok (ref.Here n)
    of_kind kind.Sequence = named_in e.contents >>= λ x. Ok (ref.In x.0 x.1)
    of_kind _ = refused_at UnknownTag e

-- the one element that is left
unfoldable pub only : Rest → Result Element Refusal
only left = taken left >>= λ a. ended a.1 >>= λ end. Ok a.0

unfoldable pub variable_at : Element → Result Ref Refusal
variable_at e = only e.contents >>= λ a. reference_at a

-- the next member of a list, and what is left behind it; none at the end
unfoldable pub next_member : {A : Type 0} → (Element → Result A Refusal) → Rest → Result (Option A × Rest) Refusal
next_member member left =
    if is_empty left.bytes then Ok (None, left)
    else (taken left >>= λ a. member a.0 >>= λ x. Ok (Some x, a.1))

-- a list goes on behind a member, and else is done
abbrev pub continued : {A : Type 0} → (List A → Rest → Result (List A) Refusal) → List A → Option A → Rest → Result (List A) Refusal
continued further done None left = Ok done
continued further done (Some x) left = further (done ++ x ∷ []) left

-- the members of a list up to its end, of which so many more may come
unfoldable pub listed : {A : Type 0} → (Element → Result A Refusal) → ℕ → List A → Rest → Result (List A) Refusal
listed member zero done left = exhausted Limit left >>= λ end. Ok done
listed member (suc n) done left = next_member member left >>= λ x. continued (listed member n) done x.0 x.1

-- a sequence of at most so many members
unfoldable pub list_at : {A : Type 0} → (Element → Result A Refusal) → ℕ → Element → Result (List A) Refusal
list_at member limit e = sequence_at e >>= λ left. listed member limit [] left

-- a member of a list group: its object alone, and no slots
unfoldable pub list_item_in : Rest → Result Member Refusal
list_item_in left = do
  a ← taken left
  object ← reference_at a.0
  end ← exhausted UnknownTag a.1
  Ok (record { object = object; slots = [] })

unfoldable pub list_item_at : Element → Result Member Refusal
list_item_at e = sequence_at e >>= λ left. list_item_in left

-- a row of a movement table
abbrev pub row_at : Element → Result (List ℤ) Refusal
row_at = list_at integer_at longest_list

-- one integer of a pair; the screen's has one value
unfoldable pub part : Shape → ℤ → Element → Result ℤ Refusal
part shape.Size screen e = natural_at e
part shape.Screen screen e = fixed_at screen e
part _ screen e = integer_at e

-- two integers, and nothing behind them
unfoldable pub pair : Shape → Rest → Result (ℤ × ℤ) Refusal
pair s left = do
  a ← taken left
  x ← part s (pos 720) a.0
  b ← taken a.1
  y ← part s (pos 576) b.0
  end ← ended b.1
  Ok (x, y)

unfoldable pub position_at : Element → Result Position Refusal
position_at e = sequence_at e >>= λ left. pair shape.Pair left >>= λ p. Ok (record { x = p.0; y = p.1 })

-- a name and an integer, and nothing behind them
unfoldable pub next_scene_in : Rest → Result NextScene Refusal
next_scene_in left = do
  a ← taken left
  name ← name_at a.0
  b ← taken a.1
  weight ← integer_at b.0
  end ← ended b.1
  Ok (record { name = name; weight = weight })

unfoldable pub next_scene_at : Element → Result NextScene Refusal
next_scene_at e = sequence_at e >>= λ left. next_scene_in left

abbrev pub is_pair : Shape → Bool
is_pair shape.Pair = true
is_pair shape.Size = true
is_pair shape.Screen = true
is_pair _ = false

-- fields go on behind a field, and else are done
abbrev pub gathered : (ℕ → List Field → Rest → Result (List Field × Option Element × Rest) Refusal) → List Field → Option Field → Option Element → Rest → Result (List Field × Option Element × Rest) Refusal
gathered further done None items left = Ok (done, items, left)
gathered further done (Some f) items left = further (attribute_number f.attribute) (done ++ f ∷ []) left

-- the element lacks nothing with which the class has to be written
unfoldable pub complete : Class → List Field → Element → Result (List Field) Refusal
complete c fs e = if has_required c fs then Ok fs else refused_at MissingField e

-- the group's own identifier: its name, and the number 0
unfoldable pub identifier_in : Rest → Result (List ℕ) Refusal
identifier_in left = named_in left >>= λ x. if x.1 == 0 then Ok x.0 else refused_at BadValue x.2

module _ (tags : Tags) where
  -- the name of a content file
  unfoldable pub content_name_at : Element → Result (List ℕ) Refusal
  content_name_at e = do
    n ← primitive_at e
    same ← admitted (n == content_name_tag tags) UnknownTag e n
    name_of e e.contents.bytes

  -- content: in the file, or in a file of a name
  unfoldable pub content_at : Element → Result Content Refusal
  content_at e = of_kind (kind_of e.tag)
    where
      of_kind : Kind → Result Content Refusal
      of_kind kind.Octets = octets_at e >>= λ x. Ok (of_content.Included x)
      of_kind _ = content_name_at e >>= λ x. Ok (of_content.Referenced x)

  -- the element holds the reference of a variable
  unfoldable pub is_indirect : Element → Bool
  is_indirect e = of_kind (kind_of e.tag)
    where
      of_kind : Kind → Bool
      of_kind (kind.Own n) = n == variable_tag tags
      of_kind _ = false

  -- a value that is written directly, or is held by a variable
  unfoldable pub generic_at : {A : Type 0} → (Element → Result A Refusal) → Element → Result (Generic A) Refusal
  generic_at value e =
      if is_indirect e then (variable_at e >>= λ r. Ok (Indirect r)) else (value e >>= λ x. Ok (Direct x))

  -- a value of this kind
  unfoldable pub value_at : ValueKind → Element → Result Typed Refusal
  value_at value_kind.Bool e = generic_at truth_at e >>= λ x. Ok (of_typed.Bool x)
  value_at value_kind.Int e = generic_at integer_at e >>= λ x. Ok (of_typed.Int x)
  value_at value_kind.Octets e = generic_at octets_at e >>= λ x. Ok (of_typed.Octets x)
  value_at value_kind.Object e = generic_at reference_at e >>= λ x. Ok (of_typed.Ref x)
  value_at value_kind.Content e = generic_at content_name_at e >>= λ x. Ok (of_typed.ContentRef x)

  -- a value behind the tag of its kind
  unfoldable pub typed_at : Element → Result Typed Refusal
  typed_at e = do
    n ← own_at e
    kind ← some_at e UnknownTag (value_kind_with tags n)
    a ← only e.contents
    value_at kind a

  unfoldable pub parameter_at : Need → Element → Result Parameter Refusal
  parameter_at need.Bool e = generic_at truth_at e >>= λ x. Ok (of_parameter.Bool x)
  parameter_at need.Int e = generic_at integer_at e >>= λ x. Ok (of_parameter.Int x)
  parameter_at need.Octets e = generic_at octets_at e >>= λ x. Ok (of_parameter.Octets x)
  parameter_at need.Ref e = generic_at reference_at e >>= λ x. Ok (of_parameter.Ref x)
  parameter_at need.Content e = generic_at content_at e >>= λ x. Ok (of_parameter.Content x)
  parameter_at need.Data e = generic_at data_at e >>= λ x. Ok (of_parameter.Data x)
  parameter_at need.Event e = event_at e >>= λ x. Ok (of_parameter.Event x)
  parameter_at (need.Receiver _) e = reference_at e >>= λ x. Ok (of_parameter.Receiver x)
  parameter_at need.Typed e = typed_at e >>= λ x. Ok (of_parameter.Typed x)
  parameter_at need.Arguments e = list_at typed_at longest_list e >>= λ x. Ok (of_parameter.Arguments x)

  -- the parameters that are needed, in their order; where nothing is left, so many of them may be missing
  abbrev pub parameters : ℕ → List Need → List Parameter → Rest → Result (List Parameter × Rest) Refusal
  parameters optional [] done left = Ok (done, left)
  parameters optional (n ∷ ns) done left =
      if is_empty left.bytes && nat_le (length (n ∷ ns)) optional then Ok (done, left)
      else (taken left >>= λ a. parameter_at n a.0 >>= λ x. parameters optional ns (done ++ x ∷ []) a.1)

  unfoldable pub action_at : Element → Result Action Refusal
  action_at e = do
    n ← own_at e
    name ← some_at e UnknownTag (action_with tags n)
    a ← taken e.contents
    target ← generic_at reference_at a.0
    given ← parameters (optional_of name) (needs_of name) [] a.1
    end ← ended given.1
    Ok (record { name = name; target = target; parameters = given.0 })

  abbrev pub effect_at : Element → Result (List Action) Refusal
  effect_at = list_at action_at longest_list

  -- a member: its object, and the effect of each slot
  unfoldable pub member_in : Rest → Result Member Refusal
  member_in left = do
    a ← taken left
    object ← reference_at a.0
    slots ← listed effect_at longest_list [] a.1
    Ok (record { object = object; slots = slots })

  unfoldable pub member_at : Element → Result Member Refusal
  member_at e = sequence_at e >>= λ left. member_in left

  -- the value of a shape of one element
  unfoldable pub single : Shape → Element → Result Setting Refusal
  single shape.Effect e = effect_at e >>= λ x. Ok (of_setting.Effect x)
  single shape.Bool e = truth_at e >>= λ x. Ok (of_setting.Bool x)
  single shape.Int e = integer_at e >>= λ x. Ok (of_setting.Int x)
  single shape.Natural e = natural_at e >>= λ x. Ok (of_setting.Int x)
  single shape.Length e = length_at e >>= λ x. Ok (of_setting.Int x)
  single shape.Ref e = reference_at e >>= λ x. Ok (of_setting.Ref x)
  single shape.Event e = event_at e >>= λ x. Ok (of_setting.Event x)
  single shape.Data e = data_at e >>= λ x. Ok (of_setting.Data x)
  single shape.Octets e = octets_at e >>= λ x. Ok (of_setting.Octets x)
  single shape.Colour e = colour_at e >>= λ x. Ok (of_setting.Colour x)
  single shape.Content e = content_at e >>= λ x. Ok (of_setting.Content x)
  single shape.ContentRef e = content_name_at e >>= λ x. Ok (of_setting.ContentRef x)
  single shape.Justification e = justification_at e >>= λ x. Ok (of_setting.Justification x)
  single shape.MovementTable e = list_at row_at longest_list e >>= λ x. Ok (of_setting.MovementTable x)
  single shape.Members e = list_at member_at longest_list e >>= λ x. Ok (of_setting.Members x)
  single shape.ListItems e = list_at list_item_at 256 e >>= λ x. Ok (of_setting.Members x)
  single shape.Positions e = list_at position_at longest_list e >>= λ x. Ok (of_setting.Positions x)
  single shape.NextScenes e = list_at next_scene_at longest_list e >>= λ x. Ok (of_setting.NextScenes x)
  single _ e = refused_at UnknownTag e

  -- the value of this shape, and nothing behind it
  unfoldable pub setting : Shape → Rest → Result Setting Refusal
  setting s left = if is_pair s then (pair s left >>= λ p. Ok (of_setting.Pair p.0 p.1)) else (only left >>= λ e. single s e)

  -- the attribute that the element gives, which the class takes and which comes behind the last one
  unfoldable pub attribute_at : Class → ℕ → Element → Result Attribute Refusal
  attribute_at c last e = do
    n ← own_at e
    a ← some_at e UnknownTag (attribute_with tags n)
    b ← admitted (takes c a) UnknownTag e a
    admitted (nat_lt last (attribute_number b)) WrongOrder e b

  -- the next field, or the element of the items, and what is left behind it; neither at the end
  unfoldable pub next_field : Class → ℕ → Rest → Result (Option Field × Option Element × Rest) Refusal
  next_field c last left =
      if is_empty left.bytes then Ok (None, None, left)
      else (taken left >>= λ a. attribute_at c last a.0 >>= λ name.
      if is_items_shape (shape_of c name) then Ok (None, Some a.0, a.1)
      else (setting (shape_of c name) a.0.contents >>= λ x. Ok (Some (record { attribute = name; setting = x }), None, a.1)))

  -- the fields up to the end or to the element of the items, of which so many more may come: more than
  -- there are, since their numbers rise
  unfoldable pub fields : Class → ℕ → ℕ → List Field → Rest → Result (List Field × Option Element × Rest) Refusal
  fields c zero last done left = refused Limit left.offset
  fields c (suc n) last done left = next_field c last left >>= λ x. gathered (fields c n) done x.0 x.1 x.2

  -- the class of the element, a group's or an ingredient's
  unfoldable pub class_at : Bool → Element → Result Class Refusal
  class_at wants_group e = do
    n ← own_at e
    c ← some_at e UnknownTag (class_with tags n)
    admitted (is_same wants_group (is_group_class c)) UnknownTag e c

  unfoldable pub ingredient_at : Element → Result Ingredient Refusal
  ingredient_at e = do
    class ← class_at false e
    a ← taken e.contents
    number ← ingredient_number_at a.0
    x ← fields class 64 0 [] a.1
    done ← complete class x.0 e
    Ok (record { class = class; number = number; fields = done })

  unfoldable pub items_at : Element → Result (List Ingredient) Refusal
  items_at e = only e.contents >>= λ a. list_at ingredient_at longest_list a

  -- the items where they were met, and the fields behind them
  abbrev pub with_items : Class → List Field → Option Element → Rest → Result (List Field × Option (List Ingredient)) Refusal
  with_items c before None behind = Ok (before, None)
  with_items c before (Some e) behind = items_at e >>= λ is. fields c 64 items_number before behind >>= λ x. Ok (x.0, Some is)

  -- the fields of a group, and the items among them
  unfoldable pub body : Class → Rest → Result (List Field × Option (List Ingredient)) Refusal
  body c left = fields c 64 0 [] left >>= λ x. with_items c x.0 x.1 x.2

  unfoldable pub group_at : Element → Result Written Refusal
  group_at e = do
    class ← class_at true e
    a ← taken e.contents
    inner ← sequence_at a.0
    identifier ← identifier_in inner
    x ← body class a.1
    done ← complete class x.0 e
    Ok (record { class = class; identifier = identifier; fields = done; items = x.1 })

  -- the group that the octets spell, or the first refusal from the left
  unfoldable pub read : List ℕ → Result Written Refusal
  read octets = if nat_lt largest_file (length octets) then refused Limit 0 else (do
    a ← taken (whole octets)
    x ← group_at a.0
    end ← ended a.1
    Ok x)

  -- the octets begin as a group does: with the tag of an application or of a scene
  abbrev pub begins_group : List ℕ → Bool
  begins_group octets = begins_with octets (own (class_tag tags class.Application)) || begins_with octets (own (class_tag tags class.Scene))
