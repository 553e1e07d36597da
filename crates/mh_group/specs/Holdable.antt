-- Which groups a notation can hold: those with numbers of 32 bits, octets below 256, names of such bytes as a name
-- may have, and with lists that are not too long. The rest of a group's shape is left to the tables.
use Rattle.std.specs.Prelude.{ℕ, ◌^◌, ℤ, pos, negsuc, Bool, true, ◌&&◌, nat_lt, nat_le, int_le, List, [], ◌∷◌, length}
use Rattle.std.specs.List.{list_all}
use Rattle.mh_base.specs.Path.{is_name_byte}
use Rattle.mh_base.specs.declared.colour.Colour.{Colour}
use Rattle.mh_base.specs.Limits.{longest_list}
use Rattle.mh_group.specs.declared.reference.Ref.{Ref}
use Rattle.mh_group.specs.declared.reference.Ref.TheVariants as ref
use Rattle.mh_group.specs.declared.reference.Generic.{Generic}
use Rattle.mh_group.specs.declared.reference.Generic.TheVariants.{Direct, Indirect}
use Rattle.mh_group.specs.declared.action.Action.{Action}
use Rattle.mh_group.specs.declared.action.Content.{Content}
use Rattle.mh_group.specs.declared.action.Content.TheVariants as content
use Rattle.mh_group.specs.declared.action.EventData.{EventData}
use Rattle.mh_group.specs.declared.action.EventData.TheVariants as event_data
use Rattle.mh_group.specs.declared.action.Typed.{Typed}
use Rattle.mh_group.specs.declared.action.Typed.TheVariants as typed
use Rattle.mh_group.specs.declared.action.Parameter.{Parameter}
use Rattle.mh_group.specs.declared.action.Parameter.TheVariants as parameter
use Rattle.mh_group.specs.declared.written.Member.{Member}
use Rattle.mh_group.specs.declared.written.Position.{Position}
use Rattle.mh_group.specs.declared.written.NextScene.{NextScene}
use Rattle.mh_group.specs.declared.written.Setting.{Setting}
use Rattle.mh_group.specs.declared.written.Setting.TheVariants as setting
use Rattle.mh_group.specs.declared.written.Field.{Field}
use Rattle.mh_group.specs.declared.written.Ingredient.{Ingredient}
use Rattle.mh_group.specs.declared.written.Written.{Written}
use Rattle.mh_group.specs.Fit.{items_of}

-- an integer of 32 bits
abbrev pub is_integer : ℤ → Bool
is_integer x = int_le (negsuc 2147483647) x && int_le x (pos 2147483647)

-- the number of an object
abbrev pub is_number : ℕ → Bool
is_number n = nat_lt n (2 ^ 31)

abbrev pub is_reference : Ref → Bool
is_reference (ref.Here n) = is_number n
is_reference (ref.In name n) = list_all is_name_byte name && is_number n

abbrev pub is_generic : {A : Type 0} → (A → Bool) → Generic A → Bool
is_generic is_value (Direct x) = is_value x
is_generic is_value (Indirect r) = is_reference r

-- the name of a content file
abbrev pub is_name : List ℕ → Bool
is_name name = list_all is_name_byte name

-- octets are below 256
abbrev pub is_octets : List ℕ → Bool
is_octets octets = list_all (λ o. nat_lt o 256) octets

-- the four octets of a colour
abbrev pub colour_octets : Colour → List ℕ
colour_octets c = c.red ∷ c.green ∷ c.blue ∷ c.transparency ∷ []

-- truth values have no limit
abbrev pub is_plain : {A : Type 0} → A → Bool
is_plain x = true

-- a list of at most so many members as a list may have
abbrev pub is_list : {A : Type 0} → (A → Bool) → List A → Bool
is_list is_member xs = nat_le (length xs) longest_list && list_all is_member xs

abbrev pub is_typed : Typed → Bool
is_typed (typed.Bool x) = is_generic is_plain x
is_typed (typed.Int x) = is_generic is_integer x
is_typed (typed.Octets x) = is_generic is_octets x
is_typed (typed.Ref x) = is_generic is_reference x
is_typed (typed.ContentRef x) = is_generic is_name x

abbrev pub is_content : Content → Bool
is_content (content.Included octets) = is_octets octets
is_content (content.Referenced name) = is_name name

abbrev pub is_data : EventData → Bool
is_data (event_data.Bool b) = true
is_data (event_data.Int x) = is_integer x

abbrev pub is_parameter : Parameter → Bool
is_parameter (parameter.Bool x) = is_generic is_plain x
is_parameter (parameter.Int x) = is_generic is_integer x
is_parameter (parameter.Octets x) = is_generic is_octets x
is_parameter (parameter.Ref x) = is_generic is_reference x
is_parameter (parameter.Content x) = is_generic is_content x
is_parameter (parameter.Data x) = is_generic is_data x
is_parameter (parameter.Event e) = true
is_parameter (parameter.Receiver r) = is_reference r
is_parameter (parameter.Typed x) = is_typed x
is_parameter (parameter.Arguments xs) = is_list is_typed xs

abbrev pub is_action : Action → Bool
is_action a = is_generic is_reference a.target && list_all is_parameter a.parameters

abbrev pub is_member : Member → Bool
is_member m = is_reference m.object && is_list (is_list is_action) m.slots

abbrev pub is_position : Position → Bool
is_position p = is_integer p.x && is_integer p.y

abbrev pub is_next_scene : NextScene → Bool
is_next_scene s = is_name s.name && is_integer s.weight

abbrev pub is_setting : Setting → Bool
is_setting (setting.Bool b) = true
is_setting (setting.Int x) = is_integer x
is_setting (setting.Pair x y) = is_integer x && is_integer y
is_setting (setting.Octets octets) = is_octets octets
is_setting (setting.Colour c) = is_octets (colour_octets c)
is_setting (setting.Ref r) = is_reference r
is_setting (setting.Content c) = is_content c
is_setting (setting.ContentRef name) = is_name name
is_setting (setting.Event e) = true
is_setting (setting.Data d) = is_data d
is_setting (setting.Justification j) = true
is_setting (setting.Effect actions) = is_list is_action actions
is_setting (setting.MovementTable rows) = is_list (is_list is_integer) rows
is_setting (setting.Members members) = is_list is_member members
is_setting (setting.Positions positions) = is_list is_position positions
is_setting (setting.NextScenes scenes) = is_list is_next_scene scenes

abbrev pub has_settings : List Field → Bool
has_settings fields = list_all (λ f. is_setting f.setting) fields

abbrev pub is_ingredient : Ingredient → Bool
is_ingredient i = is_number i.number && has_settings i.fields

-- a notation can hold the group, but for its size as a whole
unfoldable pub is_holdable : Written → Bool
is_holdable g = list_all is_name_byte g.identifier && (has_settings g.fields && is_list is_ingredient (items_of g))
