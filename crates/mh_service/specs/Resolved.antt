-- What a written group says of its objects, with every reference resolved, where all of its names lead
-- to paths.
use Rattle.std.specs.Prelude.{ℕ, Bool, true, ◌&&◌, List, [], ◌∷◌, map, Option, Some, None, pos}
use Rattle.std.specs.List.{list_all, find, flat_map}
use Rattle.std.specs.Option.{option_map}
use Rattle.std.specs.Str.{bytes_eq}
use Rattle.mh_base.specs.Path.{is_path, led_to}
use Rattle.mh_base.specs.Event.{number_of}
use Rattle.mh_base.specs.declared.obj_ref.ObjRef.{ObjRef}
use Rattle.mh_base.specs.declared.value.Kind.{Kind}
use Rattle.mh_base.specs.declared.value.Kind.TheVariants as kind
use Rattle.mh_base.specs.declared.value.Value.{Value}
use Rattle.mh_base.specs.declared.value.Value.TheVariants as value
use Rattle.mh_group.specs.declared.class.Class.{Class}
use Rattle.mh_group.specs.declared.reference.Ref.{Ref}
use Rattle.mh_group.specs.declared.reference.Ref.TheVariants as ref
use Rattle.mh_group.specs.declared.reference.Generic.{Generic}
use Rattle.mh_group.specs.declared.reference.Generic.TheVariants as generic
use Rattle.mh_group.specs.declared.action.Action.{Action}
use Rattle.mh_group.specs.declared.action.Parameter.{Parameter}
use Rattle.mh_group.specs.declared.action.Parameter.TheVariants as parameter
use Rattle.mh_group.specs.declared.action.Content.{Content}
use Rattle.mh_group.specs.declared.action.Content.TheVariants as content
use Rattle.mh_group.specs.declared.action.EventData.{EventData}
use Rattle.mh_group.specs.declared.action.EventData.TheVariants as event_data
use Rattle.mh_group.specs.declared.action.Typed.{Typed}
use Rattle.mh_group.specs.declared.action.Typed.TheVariants as typed
use Rattle.mh_group.specs.declared.written.Member.{Member}
use Rattle.mh_group.specs.declared.written.Setting.{Setting}
use Rattle.mh_group.specs.declared.written.Setting.TheVariants as setting
use Rattle.mh_group.specs.declared.written.Field.{Field}
use Rattle.mh_group.specs.declared.written.Ingredient.{Ingredient}
use Rattle.mh_group.specs.declared.written.Written.{Written}
use Rattle.mh_group.specs.Words.{justification_number}
use Rattle.mh_group.specs.Fit.{items_of}
use Rattle.mh_model.specs.declared.act.Act.{Act}
use Rattle.mh_model.specs.declared.act.Argument.{Argument}
use Rattle.mh_model.specs.declared.act.Argument.TheVariants as argument
use Rattle.mh_model.specs.declared.act.Target.{Target}
use Rattle.mh_model.specs.declared.act.Target.TheVariants as target
use Rattle.mh_model.specs.declared.held.Held.{Held}
use Rattle.mh_model.specs.declared.held.Held.TheVariants as held
use Rattle.mh_model.specs.declared.held.Property.{Property}
use Rattle.mh_model.specs.declared.object.member.Member.{Member as HeldMember}
use Rattle.mh_model.specs.declared.object.Fixed.{Fixed}

-- References. A number alone is an object of the group in which it is written.

abbrev pub ref_of : List ℕ → Ref → ObjRef
ref_of from (ref.Here n) = record { group = from; number = n }
ref_of from (ref.In name n) = record { group = led_to from name; number = n }

-- the name of the reference leads to a path
abbrev pub leads : List ℕ → Ref → Bool
leads from (ref.Here n) = true
leads from (ref.In name n) = is_path (led_to from name)

-- Actions, as they are written. An indirect target or parameter is the reference to its variable.

abbrev pub target_of : List ℕ → Generic Ref → Target
target_of from (generic.Direct r) = target.Direct (ref_of from r)
target_of from (generic.Indirect r) = target.Through (ref_of from r)

abbrev pub target_leads : List ℕ → Generic Ref → Bool
target_leads from (generic.Direct r) = leads from r
target_leads from (generic.Indirect r) = leads from r

-- with the kind of the value, if that is written
abbrev pub generic_of : {A : Type 0} → (A → Value) → Option Kind → List ℕ → Generic A → Argument
generic_of value_of k from (generic.Direct x) = argument.Direct (value_of x)
generic_of value_of k from (generic.Indirect r) = argument.Through (ref_of from r) k

abbrev pub generic_leads : {A : Type 0} → (A → Bool) → List ℕ → Generic A → Bool
generic_leads value_leads from (generic.Direct x) = value_leads x
generic_leads value_leads from (generic.Indirect r) = leads from r

-- a value without a name
abbrev pub is_nameless : {A : Type 0} → A → Bool
is_nameless x = true

-- the name of a content file leads to a path
abbrev pub name_leads : List ℕ → List ℕ → Bool
name_leads from name = is_path (led_to from name)

abbrev pub object_value : List ℕ → Ref → Value
object_value from r = value.Object (ref_of from r)

abbrev pub content_value : List ℕ → List ℕ → Value
content_value from name = value.Content (led_to from name)

abbrev pub typed_of : List ℕ → Typed → Argument
typed_of from (typed.Bool x) = generic_of value.Bool (Some kind.Bool) from x
typed_of from (typed.Int x) = generic_of value.Int (Some kind.Int) from x
typed_of from (typed.Octets x) = generic_of value.Octets (Some kind.Octets) from x
typed_of from (typed.Ref x) = generic_of (object_value from) (Some kind.Object) from x
typed_of from (typed.ContentRef x) = generic_of (content_value from) (Some kind.Content) from x

abbrev pub typed_leads : List ℕ → Typed → Bool
typed_leads from (typed.Bool x) = generic_leads is_nameless from x
typed_leads from (typed.Int x) = generic_leads is_nameless from x
typed_leads from (typed.Octets x) = generic_leads is_nameless from x
typed_leads from (typed.Ref x) = generic_leads (leads from) from x
typed_leads from (typed.ContentRef x) = generic_leads (name_leads from) from x

-- content: the octets of the file, or the name of another
abbrev pub content_of : List ℕ → Content → Value
content_of from (content.Included octets) = value.Octets octets
content_of from (content.Referenced name) = content_value from name

abbrev pub content_leads : List ℕ → Content → Bool
content_leads from (content.Included octets) = true
content_leads from (content.Referenced name) = name_leads from name

abbrev pub data_of : EventData → Value
data_of (event_data.Bool b) = value.Bool b
data_of (event_data.Int x) = value.Int x

-- one argument for each parameter, but one for each value that a program is called with
abbrev pub arguments_of : List ℕ → Parameter → List Argument
arguments_of from (parameter.Bool x) = generic_of value.Bool None from x ∷ []
arguments_of from (parameter.Int x) = generic_of value.Int None from x ∷ []
arguments_of from (parameter.Octets x) = generic_of value.Octets None from x ∷ []
arguments_of from (parameter.Ref x) = generic_of (object_value from) None from x ∷ []
arguments_of from (parameter.Content x) = generic_of (content_of from) None from x ∷ []
arguments_of from (parameter.Data x) = generic_of data_of None from x ∷ []
arguments_of from (parameter.Event e) = argument.Direct (value.Int (pos (number_of e))) ∷ []
arguments_of from (parameter.Receiver r) = argument.Receiver (ref_of from r) ∷ []
arguments_of from (parameter.Typed x) = typed_of from x ∷ []
arguments_of from (parameter.Arguments xs) = map (typed_of from) xs

abbrev pub parameter_leads : List ℕ → Parameter → Bool
parameter_leads from (parameter.Bool x) = generic_leads is_nameless from x
parameter_leads from (parameter.Int x) = generic_leads is_nameless from x
parameter_leads from (parameter.Octets x) = generic_leads is_nameless from x
parameter_leads from (parameter.Ref x) = generic_leads (leads from) from x
parameter_leads from (parameter.Content x) = generic_leads (content_leads from) from x
parameter_leads from (parameter.Data x) = generic_leads is_nameless from x
parameter_leads from (parameter.Event e) = true
parameter_leads from (parameter.Receiver r) = leads from r
parameter_leads from (parameter.Typed x) = typed_leads from x
parameter_leads from (parameter.Arguments xs) = list_all (typed_leads from) xs

abbrev pub act_of : List ℕ → Action → Act
act_of from a = record {
  name = a.name;
  target = target_of from a.target;
  arguments = flat_map (arguments_of from) a.parameters;
}

abbrev pub act_leads : List ℕ → Action → Bool
act_leads from a = target_leads from a.target && list_all (parameter_leads from) a.parameters

-- What an object holds under its attributes.

-- a member of a group of objects, with what its slots do
abbrev pub member_of : List ℕ → Member → HeldMember
member_of from m = record { object = ref_of from m.object; slots = map (map (act_of from)) m.slots }

-- a justification is held as its number; what no rule looks at is kept
abbrev pub held_of : List ℕ → Setting → Held
held_of from (setting.Bool b) = held.Value (value.Bool b)
held_of from (setting.Int n) = held.Value (value.Int n)
held_of from (setting.Pair a b) = held.Pair a b
held_of from (setting.Octets os) = held.Value (value.Octets os)
held_of from (setting.Colour c) = held.Colour c
held_of from (setting.Ref r) = held.Value (object_value from r)
held_of from (setting.Content c) = held.Value (content_of from c)
held_of from (setting.ContentRef name) = held.Value (content_value from name)
held_of from (setting.Event e) = held.Event e
held_of from (setting.Data d) = held.Value (data_of d)
held_of from (setting.Justification j) = held.Value (value.Int (pos (justification_number j)))
held_of from (setting.Effect acts) = held.Effect (map (act_of from) acts)
held_of from (setting.MovementTable rows) = held.Rows rows
held_of from (setting.Members members) = held.Members (map (member_of from) members)
held_of from (setting.Positions positions) = held.Positions positions
held_of from (setting.NextScenes scenes) = held.Kept

abbrev pub slots_lead : List ℕ → List (List Action) → Bool
slots_lead from slots = list_all (λ slot. list_all (act_leads from) slot) slots

-- the object and the slots of a member
abbrev pub member_leads : List ℕ → Member → Bool
member_leads from m = leads from m.object && slots_lead from m.slots

-- the names of the scenes that may come next are only kept
abbrev pub setting_leads : List ℕ → Setting → Bool
setting_leads from (setting.Ref r) = leads from r
setting_leads from (setting.Content c) = content_leads from c
setting_leads from (setting.ContentRef name) = name_leads from name
setting_leads from (setting.Effect acts) = list_all (act_leads from) acts
setting_leads from (setting.Members members) = list_all (member_leads from) members
setting_leads from _ = true

abbrev pub property_of : List ℕ → Field → Property
property_of from f = record { attribute = f.attribute; held = held_of from f.setting }

abbrev pub field_leads : List ℕ → Field → Bool
field_leads from f = setting_leads from f.setting

-- Parts, one for each object.

abbrev pub new_part : List ℕ → ℕ → Class → List Field → Fixed
new_part from n c fs = record {
  key = record { group = from; number = n };
  class = c;
  properties = map (property_of from) fs;
}

abbrev pub part_of : List ℕ → Ingredient → Fixed
part_of from i = new_part from i.number i.class i.fields

abbrev pub ingredient_leads : List ℕ → Ingredient → Bool
ingredient_leads from i = list_all (field_leads from) i.fields

-- the parts of a group: the group itself, which has number 0, and its ingredients in Items order
abbrev pub parts_of : List ℕ → Written → List Fixed
parts_of name w = new_part name 0 w.class w.fields ∷ map (part_of name) (items_of w)

-- each name that the group writes leads to a path; its identifier aside, which is only kept
abbrev pub group_leads : List ℕ → Written → Bool
group_leads name w =
    list_all (field_leads name) w.fields && list_all (ingredient_leads name) (items_of w)

-- the entry of a file in the service
abbrev pub resolved : List ℕ × Written → List ℕ × List Fixed
resolved f = (f.0, parts_of f.0 f.1)

-- the parts of the group of this name, if it is among the groups
abbrev pub parts_under : List ℕ → List (List ℕ × List Fixed) → Option (List Fixed)
parts_under name groups = option_map (λ e. e.1) (find (λ e. bytes_eq e.0 name) groups)
