-- Whether two groups are written the same, one kind of value after the other.
use Rattle.std.specs.Prelude.{◌≡◌, ℕ, ◌==◌, Bool, true, false, ◌&&◌, not, List, [], ◌∷◌, filter, Option, Some, None, ℤ}
use Rattle.std.specs.List.{find, list_any}
use Rattle.std.specs.Option.{option_map}
use Rattle.std.specs.Ordering.{int_eq}
use Rattle.std.specs.Str.{bytes_eq}
use Rattle.mh_base.specs.declared.colour.Colour.{Colour}
use Rattle.mh_base.specs.declared.event.EventType.{EventType}
use Rattle.mh_base.specs.Event.{number_of}
use Rattle.mh_group.specs.declared.reference.Ref.{Ref}
use Rattle.mh_group.specs.declared.reference.Ref.TheVariants as ref
use Rattle.mh_group.specs.declared.reference.Generic.{Generic}
use Rattle.mh_group.specs.declared.reference.Generic.TheVariants.{Direct, Indirect}
use Rattle.mh_group.specs.declared.action.Action.{Action}
use Rattle.mh_group.specs.declared.action.Content.{Content}
use Rattle.mh_group.specs.declared.action.Content.TheVariants as content
use Rattle.mh_group.specs.declared.action.EventData.{EventData}
use Rattle.mh_group.specs.declared.action.EventData.TheVariants as event_data
use Rattle.mh_group.specs.declared.action.Typed.{Typed}
use Rattle.mh_group.specs.declared.action.Typed.TheVariants as typed
use Rattle.mh_group.specs.declared.action.Parameter.{Parameter}
use Rattle.mh_group.specs.declared.action.Parameter.TheVariants as parameter
use Rattle.mh_group.specs.declared.written.Member.{Member}
use Rattle.mh_group.specs.declared.written.Position.{Position}
use Rattle.mh_group.specs.declared.written.NextScene.{NextScene}
use Rattle.mh_group.specs.declared.written.Setting.{Setting}
use Rattle.mh_group.specs.declared.written.Setting.TheVariants as setting
use Rattle.mh_group.specs.declared.written.Field.{Field}
use Rattle.mh_group.specs.declared.written.Ingredient.{Ingredient}
use Rattle.mh_group.specs.declared.written.Written.{Written}
use Rattle.mh_group.specs.Table.{class_number, attribute_number, action_number}
use Rattle.mh_group.specs.Words.{justification_number}

abbrev pub are_same : Bool → Bool → Bool
are_same true b = b
are_same false b = not b

abbrev pub same_list : {X : Type 0} → (X → X → Bool) → List X → List X → Bool
same_list same [] [] = true
same_list same (x ∷ xs) (y ∷ ys) = same x y && same_list same xs ys
same_list same _ _ = false

abbrev pub same_written_ref : Ref → Ref → Bool
same_written_ref (ref.Here m) (ref.Here n) = m == n
same_written_ref (ref.In g m) (ref.In h n) = bytes_eq g h && m == n
same_written_ref _ _ = false

abbrev pub same_generic : {X : Type 0} → (X → X → Bool) → Generic X → Generic X → Bool
same_generic same (Direct x) (Direct y) = same x y
same_generic same (Indirect q) (Indirect r) = same_written_ref q r
same_generic same _ _ = false

abbrev pub same_typed : Typed → Typed → Bool
same_typed (typed.Bool x) (typed.Bool y) = same_generic are_same x y
same_typed (typed.Int x) (typed.Int y) = same_generic int_eq x y
same_typed (typed.Octets x) (typed.Octets y) = same_generic bytes_eq x y
same_typed (typed.Ref x) (typed.Ref y) = same_generic same_written_ref x y
same_typed (typed.ContentRef x) (typed.ContentRef y) = same_generic bytes_eq x y
same_typed _ _ = false

abbrev pub same_content : Content → Content → Bool
same_content (content.Included x) (content.Included y) = bytes_eq x y
same_content (content.Referenced x) (content.Referenced y) = bytes_eq x y
same_content _ _ = false

abbrev pub same_data : EventData → EventData → Bool
same_data (event_data.Bool x) (event_data.Bool y) = are_same x y
same_data (event_data.Int x) (event_data.Int y) = int_eq x y
same_data _ _ = false

abbrev pub same_event_type : EventType → EventType → Bool
same_event_type x y = number_of x == number_of y

abbrev pub same_parameter : Parameter → Parameter → Bool
same_parameter (parameter.Bool x) (parameter.Bool y) = same_generic are_same x y
same_parameter (parameter.Int x) (parameter.Int y) = same_generic int_eq x y
same_parameter (parameter.Octets x) (parameter.Octets y) = same_generic bytes_eq x y
same_parameter (parameter.Ref x) (parameter.Ref y) = same_generic same_written_ref x y
same_parameter (parameter.Content x) (parameter.Content y) = same_generic same_content x y
same_parameter (parameter.Data x) (parameter.Data y) = same_generic same_data x y
same_parameter (parameter.Event x) (parameter.Event y) = same_event_type x y
same_parameter (parameter.Receiver x) (parameter.Receiver y) = same_written_ref x y
same_parameter (parameter.Typed x) (parameter.Typed y) = same_typed x y
same_parameter (parameter.Arguments x) (parameter.Arguments y) = same_list same_typed x y
same_parameter _ _ = false

abbrev pub same_written_action : Action → Action → Bool
same_written_action a b =
    action_number a.name == action_number b.name && same_generic same_written_ref a.target b.target
    && same_list same_parameter a.parameters b.parameters

abbrev pub same_member : Member → Member → Bool
same_member a b = same_written_ref a.object b.object && same_list (same_list same_written_action) a.slots b.slots

abbrev pub same_position : Position → Position → Bool
same_position a b = int_eq a.x b.x && int_eq a.y b.y

abbrev pub same_next : NextScene → NextScene → Bool
same_next a b = bytes_eq a.name b.name && int_eq a.weight b.weight

abbrev pub same_colour : Colour → Colour → Bool
same_colour a b = a.red == b.red && a.green == b.green && a.blue == b.blue && a.transparency == b.transparency

abbrev pub same_written_setting : Setting → Setting → Bool
same_written_setting (setting.Bool x) (setting.Bool y) = are_same x y
same_written_setting (setting.Int x) (setting.Int y) = int_eq x y
same_written_setting (setting.Pair a b) (setting.Pair x y) = int_eq a x && int_eq b y
same_written_setting (setting.Octets x) (setting.Octets y) = bytes_eq x y
same_written_setting (setting.Colour x) (setting.Colour y) = same_colour x y
same_written_setting (setting.Ref x) (setting.Ref y) = same_written_ref x y
same_written_setting (setting.Content x) (setting.Content y) = same_content x y
same_written_setting (setting.ContentRef x) (setting.ContentRef y) = bytes_eq x y
same_written_setting (setting.Event x) (setting.Event y) = same_event_type x y
same_written_setting (setting.Data x) (setting.Data y) = same_data x y
same_written_setting (setting.Justification x) (setting.Justification y) = justification_number x == justification_number y
same_written_setting (setting.Effect x) (setting.Effect y) = same_list same_written_action x y
same_written_setting (setting.MovementTable x) (setting.MovementTable y) = same_list (same_list int_eq) x y
same_written_setting (setting.Members x) (setting.Members y) = same_list same_member x y
same_written_setting (setting.Positions x) (setting.Positions y) = same_list same_position x y
same_written_setting (setting.NextScenes x) (setting.NextScenes y) = same_list same_next x y
same_written_setting _ _ = false

abbrev pub same_field : Field → Field → Bool
same_field a b = attribute_number a.attribute == attribute_number b.attribute && same_written_setting a.setting b.setting

abbrev pub same_ingredient : Ingredient → Ingredient → Bool
same_ingredient a b =
    class_number a.class == class_number b.class && a.number == b.number && same_list same_field a.fields b.fields

abbrev pub same_written_items : Option (List Ingredient) → Option (List Ingredient) → Bool
same_written_items None None = true
same_written_items (Some xs) (Some ys) = same_list same_ingredient xs ys
same_written_items _ _ = false

-- the two groups are written the same: the notation, white space and the order of fields in a text aside
unfoldable pub same_group : Written → Written → Bool
same_group a b =
    class_number a.class == class_number b.class && bytes_eq a.identifier b.identifier
    && same_list same_field a.fields b.fields && same_written_items a.items b.items

-- it is equality: groups for which it is true are equal, and each group is the same as itself
abbrev pub SameGroupDecides : Type 0
SameGroupDecides = ((a b : Written) → same_group a b ≡ true → a ≡ b) × ((a : Written) → same_group a a ≡ true)
