-- The binary spelling of a group by a table of tags: a function from a group to its octets. Every part is
-- an element of the distinguished encoding rules.
use Rattle.std.specs.Prelude.{ℕ, ℤ, pos, Bool, true, false, List, [], ◌∷◌, ◌++◌, take, drop, Option, Some, None}
use Rattle.mh_base.specs.declared.colour.Colour.{Colour}
use Rattle.mh_base.specs.Event.{number_of}
use Rattle.mh_base.specs.declared.value.Kind.TheVariants as kind
use Rattle.mh_der.specs.declared.tag.Tag.{Tag}
use Rattle.mh_der.specs.declared.tag.TagClass.TheVariants.{Context}
use Rattle.mh_der.specs.Tags.{boolean_tag, integer_tag, octet_string_tag, sequence_tag}
use Rattle.mh_der.specs.Element.{element}
use Rattle.mh_der.specs.Integer.{integer_octets, boolean_octets}
use Rattle.mh_group.specs.declared.reference.Ref.{Ref}
use Rattle.mh_group.specs.declared.reference.Ref.TheVariants as ref
use Rattle.mh_group.specs.declared.reference.Generic.{Generic}
use Rattle.mh_group.specs.declared.reference.Generic.TheVariants.{Direct, Indirect}
use Rattle.mh_group.specs.declared.action.Action.{Action}
use Rattle.mh_group.specs.declared.action.Content.{Content}
use Rattle.mh_group.specs.declared.action.Content.TheVariants as content
use Rattle.mh_group.specs.declared.action.EventData.{EventData}
use Rattle.mh_group.specs.declared.action.EventData.TheVariants as event_data
use Rattle.mh_group.specs.declared.action.Typed.{Typed}
use Rattle.mh_group.specs.declared.action.Typed.TheVariants as typed
use Rattle.mh_group.specs.declared.action.Parameter.{Parameter}
use Rattle.mh_group.specs.declared.action.Parameter.TheVariants as parameter
use Rattle.mh_group.specs.declared.attribute.Attribute.TheVariants as attribute
use Rattle.mh_group.specs.declared.written.Member.{Member}
use Rattle.mh_group.specs.declared.written.Position.{Position}
use Rattle.mh_group.specs.declared.written.NextScene.{NextScene}
use Rattle.mh_group.specs.declared.written.Setting.{Setting}
use Rattle.mh_group.specs.declared.written.Setting.TheVariants as setting
use Rattle.mh_group.specs.declared.written.Field.{Field}
use Rattle.mh_group.specs.declared.written.Ingredient.{Ingredient}
use Rattle.mh_group.specs.declared.written.Written.{Written}
use Rattle.mh_group.specs.Words.{justification_number}
use Rattle.mh_group.specs.Fit.{before_items}
use Rattle.mh_group.specs.Holdable.{colour_octets}
use Rattle.mh_codec.specs.Tags.{Tags, class_tag, attribute_tag, action_tag, content_name_tag, variable_tag, value_tag}

-- the tag of this number that is the notation's own
abbrev pub own : ℕ → Tag
own n = record { class = Context; is_constructed = true; number = n }

unfoldable pub integer : ℤ → List ℕ
integer x = element integer_tag (integer_octets x)

abbrev pub natural : ℕ → List ℕ
natural n = integer (pos n)

unfoldable pub boolean : Bool → List ℕ
boolean b = element boolean_tag (boolean_octets b)

unfoldable pub octet_string : List ℕ → List ℕ
octet_string octets = element octet_string_tag octets

-- elements one after the other, each spelled so
abbrev pub several : {A : Type 0} → (A → List ℕ) → List A → List ℕ
several spelling [] = []
several spelling (x ∷ xs) = spelling x ++ several spelling xs

unfoldable pub list : {A : Type 0} → (A → List ℕ) → List A → List ℕ
list spelling xs = element sequence_tag (several spelling xs)

-- a name and a number
unfoldable pub named : List ℕ → ℕ → List ℕ
named name n = element sequence_tag (octet_string name ++ natural n)

abbrev pub reference : Ref → List ℕ
reference (ref.Here n) = natural n
reference (ref.In name n) = named name n

-- the data of an event
abbrev pub data_value : EventData → List ℕ
data_value (event_data.Bool b) = boolean b
data_value (event_data.Int x) = integer x

-- a colour: its four octets
abbrev pub colour_value : Colour → List ℕ
colour_value c = octet_string (colour_octets c)

unfoldable pub position : Position → List ℕ
position p = element sequence_tag (integer p.x ++ integer p.y)

unfoldable pub next_scene : NextScene → List ℕ
next_scene s = element sequence_tag (octet_string s.name ++ integer s.weight)

module _ (tags : Tags) where
  -- a value, or behind a tag of its own the reference of the variable that holds it
  unfoldable pub generic : {A : Type 0} → (A → List ℕ) → Generic A → List ℕ
  generic spelling (Direct x) = spelling x
  generic spelling (Indirect r) = element (own (variable_tag tags)) (reference r)

  -- the tag of the name of a content file
  abbrev pub content_tag : Tag
  content_tag = record { class = Context; is_constructed = false; number = content_name_tag tags }

  -- the name of a content file
  unfoldable pub content_name : List ℕ → List ℕ
  content_name name = element content_tag name

  -- a value behind the tag of its kind
  unfoldable pub typed_value : Typed → List ℕ
  typed_value (typed.Bool x) = element (own (value_tag tags kind.Bool)) (generic boolean x)
  typed_value (typed.Int x) = element (own (value_tag tags kind.Int)) (generic integer x)
  typed_value (typed.Octets x) = element (own (value_tag tags kind.Octets)) (generic octet_string x)
  typed_value (typed.Ref x) = element (own (value_tag tags kind.Object)) (generic reference x)
  typed_value (typed.ContentRef x) = element (own (value_tag tags kind.Content)) (generic content_name x)

  -- content: in the file, or in a file of this name
  abbrev pub content_value : Content → List ℕ
  content_value (content.Included octets) = octet_string octets
  content_value (content.Referenced name) = content_name name

  abbrev pub parameter_value : Parameter → List ℕ
  parameter_value (parameter.Bool x) = generic boolean x
  parameter_value (parameter.Int x) = generic integer x
  parameter_value (parameter.Octets x) = generic octet_string x
  parameter_value (parameter.Ref x) = generic reference x
  parameter_value (parameter.Content x) = generic content_value x
  parameter_value (parameter.Data x) = generic data_value x
  parameter_value (parameter.Event e) = natural (number_of e)
  parameter_value (parameter.Receiver r) = reference r
  parameter_value (parameter.Typed x) = typed_value x
  parameter_value (parameter.Arguments xs) = list typed_value xs

  unfoldable pub action : Action → List ℕ
  action a = element (own (action_tag tags a.name)) (generic reference a.target ++ several parameter_value a.parameters)

  -- a member: its object, and the effect of each slot
  unfoldable pub member : Member → List ℕ
  member m = element sequence_tag (reference m.object ++ several (list action) m.slots)

  -- the value of an attribute
  unfoldable pub value : Setting → List ℕ
  value (setting.Bool b) = boolean b
  value (setting.Int x) = integer x
  value (setting.Pair x y) = integer x ++ integer y
  value (setting.Octets octets) = octet_string octets
  value (setting.Colour c) = colour_value c
  value (setting.Ref r) = reference r
  value (setting.Content c) = content_value c
  value (setting.ContentRef name) = content_name name
  value (setting.Event e) = natural (number_of e)
  value (setting.Data d) = data_value d
  value (setting.Justification j) = natural (justification_number j)
  value (setting.Effect actions) = list action actions
  value (setting.MovementTable rows) = list (list integer) rows
  value (setting.Members members) = list member members
  value (setting.Positions positions) = list position positions
  value (setting.NextScenes scenes) = list next_scene scenes

  unfoldable pub field : Field → List ℕ
  field f = element (own (attribute_tag tags f.attribute)) (value f.setting)

  unfoldable pub ingredient : Ingredient → List ℕ
  ingredient i = element (own (class_tag tags i.class)) (natural i.number ++ several field i.fields)

  unfoldable pub items : List Ingredient → List ℕ
  items is = element (own (attribute_tag tags attribute.Items)) (list ingredient is)

  -- the fields, and the items at their place among them
  unfoldable pub body : Option (List Ingredient) → List Field → List ℕ
  body None fields = several field fields
  body (Some is) fields = several field (take (before_items fields) fields) ++ (items is ++ several field (drop (before_items fields) fields))

  unfoldable pub group : Written → List ℕ
  group g = element (own (class_tag tags g.class)) (named g.identifier 0 ++ body g.items g.fields)
