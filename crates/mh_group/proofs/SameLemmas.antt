-- What is told to be the same is, and each thing is the same as itself.
use Rattle.std.specs.Prelude.{◌≡◌, ℕ, ◌==◌, Bool, true, false, ◌&&◌, List, [], ◌∷◌, Option, Some, None, refl, ℤ}
use Rattle.std.specs.Cmp.Derive.{both_true}
use Rattle.std.specs.List.{find}
use Rattle.std.specs.Option.{option_map_or}
use Rattle.std.specs.Ordering.{int_eq}
use Rattle.std.specs.Str.{bytes_eq}
use Rattle.std.proofs.Common.{ap, ◌∙◌, sym}
use Rattle.std.proofs.lemmas.Bool.Decides.{Decides-eqb, Decides-int_eq}
use Rattle.std.proofs.lemmas.Slice.Eq.{bytes_eq-Decides}
use Rattle.mh_base.specs.declared.colour.Colour.{Colour}
use Rattle.mh_base.specs.declared.event.EventType.{EventType}
use Rattle.mh_base.specs.declared.event.EventType.TheVariants as event
use Rattle.mh_base.specs.Event.{number_of, event_types}
use Rattle.mh_group.specs.declared.action_name.ActionName.{ActionName}
use Rattle.mh_group.specs.declared.action_name.ActionName.TheVariants as action
use Rattle.mh_group.specs.declared.attribute.Attribute.{Attribute}
use Rattle.mh_group.specs.declared.attribute.Attribute.TheVariants as attribute
use Rattle.mh_group.specs.declared.class.Class.{Class}
use Rattle.mh_group.specs.declared.class.Class.TheVariants as class
use Rattle.mh_group.specs.declared.justification.Justification.{Justification}
use Rattle.mh_group.specs.declared.justification.Justification.TheVariants as justification
use Rattle.mh_group.specs.declared.reference.Ref.{Ref}
use Rattle.mh_group.specs.declared.reference.Ref.TheVariants as ref
use Rattle.mh_group.specs.declared.reference.Generic.{Generic}
use Rattle.mh_group.specs.declared.reference.Generic.TheVariants.{Direct, Indirect}
use Rattle.mh_group.specs.declared.action.Action.{Action}
use Rattle.mh_group.specs.declared.action.Content.{Content}
use Rattle.mh_group.specs.declared.action.Content.TheVariants as content
use Rattle.mh_group.specs.declared.action.EventData.{EventData}
use Rattle.mh_group.specs.declared.action.EventData.TheVariants as event_data
use Rattle.mh_group.specs.declared.action.Typed.{Typed}
use Rattle.mh_group.specs.declared.action.Typed.TheVariants as typed
use Rattle.mh_group.specs.declared.action.Parameter.{Parameter}
use Rattle.mh_group.specs.declared.action.Parameter.TheVariants as parameter
use Rattle.mh_group.specs.declared.written.Member.{Member}
use Rattle.mh_group.specs.declared.written.Position.{Position}
use Rattle.mh_group.specs.declared.written.NextScene.{NextScene}
use Rattle.mh_group.specs.declared.written.Setting.{Setting}
use Rattle.mh_group.specs.declared.written.Setting.TheVariants as setting
use Rattle.mh_group.specs.declared.written.Field.{Field}
use Rattle.mh_group.specs.declared.written.Ingredient.{Ingredient}
use Rattle.mh_group.specs.declared.written.Written.{Written}
use Rattle.mh_group.specs.Table.{class_number, attribute_number, action_number}
use Rattle.mh_group.specs.Words.{classes, attributes, actions, justifications, justification_number}
use Rattle.mh_group.specs.Same.{same_written_ref, same_generic, same_typed, same_content, same_data, same_event_type, same_parameter, same_written_action, same_member, same_position, same_next, same_colour, same_written_setting, same_field, same_ingredient, same_written_items, same_group, same_list, are_same}

abbrev Tells : {X : Type 0} → (X → X → Bool) → Type 0
Tells {X} same = ((x y : X) → same x y ≡ true → x ≡ y) × ((x : X) → same x x ≡ true)

left : (a b : Bool) → (a && b) ≡ true → a ≡ true
left true b h = refl
left false b h = absurd cc

right : (a b : Bool) → (a && b) ≡ true → b ≡ true
right true b h = h
right false b h = absurd cc

-- Plain values

truth_same : (x y : Bool) → are_same x y ≡ true → x ≡ y
truth_same true true h = refl
truth_same true false h = absurd cc
truth_same false true h = absurd cc
truth_same false false h = refl

truth_itself : (x : Bool) → are_same x x ≡ true
truth_itself true = refl
truth_itself false = refl

truths : Tells are_same
truths = (truth_same, truth_itself)

integers : Tells int_eq
integers = (λ x y h. (Decides-int_eq x y).0 h, λ x. (Decides-int_eq x x).1 refl)

octets : Tells bytes_eq
octets = (λ x y h. (bytes_eq-Decides x y).0 h, λ x. (bytes_eq-Decides x x).1 refl)

numbers : Tells (λ (x y : ℕ). x == y)
numbers = (λ x y h. (Decides-eqb x y).0 h, λ x. (Decides-eqb x x).1 refl)

-- What has a number of its own

numbered : {X : Type 0} (number : X → ℕ) (all : List X) → ((x : X) → find (λ y. number y == number x) all ≡ Some x) → Tells (λ (x y : X). number x == number y)
numbered {X} number all found = (same, λ x. (Decides-eqb (number x) (number x)).1 refl)
  where
    same : (x y : X) → (number x == number y) ≡ true → x ≡ y
    same x y h =
        let one : Some x ≡ Some y = sym (found x) ∙ ap (λ (n : ℕ). find (λ z. number z == n) all) ((Decides-eqb (number x) (number y)).0 h) ∙ found y in
        ap (λ (m : Option X). option_map_or (λ (z : X). z) m x) one

class_found : (x : Class) → find (λ y. class_number y == class_number x) classes ≡ Some x
class_found class.Application = refl
class_found _ = refl

attribute_found : (x : Attribute) → find (λ y. attribute_number y == attribute_number x) attributes ≡ Some x
attribute_found attribute.OnStartUp = refl
attribute_found _ = refl

action_found : (x : ActionName) → find (λ y. action_number y == action_number x) actions ≡ Some x
action_found action.Run = refl
action_found _ = refl

justification_found : (x : Justification) → find (λ y. justification_number y == justification_number x) justifications ≡ Some x
justification_found justification.Start = refl
justification_found _ = refl

type_found : (x : EventType) → find (λ y. number_of y == number_of x) event_types ≡ Some x
type_found event.IsAvailable = refl
type_found _ = refl

-- Lists

list_same : {X : Type 0} (same : X → X → Bool) → Tells same → (xs ys : List X) → same_list same xs ys ≡ true → xs ≡ ys
list_same same t [] [] h = refl
list_same same t [] (y ∷ ys) h = absurd cc
list_same same t (x ∷ xs) [] h = absurd cc
list_same same t (x ∷ xs) (y ∷ ys) h =
    let first = t.0 x y (left (same x y) (same_list same xs ys) h) in
    let more = list_same same t xs ys (right (same x y) (same_list same xs ys) h) in
    λ i. first i ∷ more i

list_itself : {X : Type 0} (same : X → X → Bool) → Tells same → (xs : List X) → same_list same xs xs ≡ true
list_itself same t [] = refl
list_itself same t (x ∷ xs) = both_true (t.1 x) (list_itself same t xs)

lists : {X : Type 0} (same : X → X → Bool) → Tells same → Tells (same_list same)
lists same t = (list_same same t, list_itself same t)

-- References, and what is written directly or not

ref_same : (x y : Ref) → same_written_ref x y ≡ true → x ≡ y
ref_same (ref.Here m) (ref.Here n) h = ap ref.Here ((Decides-eqb m n).0 h)
ref_same (ref.In g m) (ref.In k n) h =
    let name = (bytes_eq-Decides g k).0 (left (bytes_eq g k) (m == n) h) in
    let number = (Decides-eqb m n).0 (right (bytes_eq g k) (m == n) h) in
    λ i. ref.In (name i) (number i)
ref_same (ref.Here m) (ref.In k n) h = absurd cc
ref_same (ref.In g m) (ref.Here n) h = absurd cc

ref_itself : (x : Ref) → same_written_ref x x ≡ true
ref_itself (ref.Here m) = (Decides-eqb m m).1 refl
ref_itself (ref.In g m) = both_true ((bytes_eq-Decides g g).1 refl) ((Decides-eqb m m).1 refl)

references : Tells same_written_ref
references = (ref_same, ref_itself)

generic_same : {X : Type 0} (same : X → X → Bool) → Tells same → (x y : Generic X) → same_generic same x y ≡ true → x ≡ y
generic_same same t (Direct x) (Direct y) h = ap Direct (t.0 x y h)
generic_same same t (Indirect x) (Indirect y) h = ap Indirect (ref_same x y h)
generic_same same t (Direct x) (Indirect y) h = absurd cc
generic_same same t (Indirect x) (Direct y) h = absurd cc

generic_itself : {X : Type 0} (same : X → X → Bool) → Tells same → (x : Generic X) → same_generic same x x ≡ true
generic_itself same t (Direct x) = t.1 x
generic_itself same t (Indirect x) = ref_itself x

generics : {X : Type 0} (same : X → X → Bool) → Tells same → Tells (same_generic same)
generics same t = (generic_same same t, generic_itself same t)

-- Values of several kinds

content_same : (x y : Content) → same_content x y ≡ true → x ≡ y
content_same (content.Included x) (content.Included y) h = ap content.Included (octets.0 x y h)
content_same (content.Referenced x) (content.Referenced y) h = ap content.Referenced (octets.0 x y h)
content_same _ _ h = absurd cc

content_itself : (x : Content) → same_content x x ≡ true
content_itself (content.Included x) = octets.1 x
content_itself (content.Referenced x) = octets.1 x

contents : Tells same_content
contents = (content_same, content_itself)

data_same : (x y : EventData) → same_data x y ≡ true → x ≡ y
data_same (event_data.Bool x) (event_data.Bool y) h = ap event_data.Bool (truth_same x y h)
data_same (event_data.Int x) (event_data.Int y) h = ap event_data.Int (integers.0 x y h)
data_same _ _ h = absurd cc

data_itself : (x : EventData) → same_data x x ≡ true
data_itself (event_data.Bool x) = truth_itself x
data_itself (event_data.Int x) = integers.1 x

datas : Tells same_data
datas = (data_same, data_itself)

types : Tells same_event_type
types = numbered number_of event_types type_found

typed_same : (x y : Typed) → same_typed x y ≡ true → x ≡ y
typed_same (typed.Bool x) (typed.Bool y) h = ap typed.Bool (generic_same are_same truths x y h)
typed_same (typed.Int x) (typed.Int y) h = ap typed.Int (generic_same int_eq integers x y h)
typed_same (typed.Octets x) (typed.Octets y) h = ap typed.Octets (generic_same bytes_eq octets x y h)
typed_same (typed.Ref x) (typed.Ref y) h = ap typed.Ref (generic_same same_written_ref references x y h)
typed_same (typed.ContentRef x) (typed.ContentRef y) h = ap typed.ContentRef (generic_same bytes_eq octets x y h)
typed_same _ _ h = absurd cc

typed_itself : (x : Typed) → same_typed x x ≡ true
typed_itself (typed.Bool x) = generic_itself are_same truths x
typed_itself (typed.Int x) = generic_itself int_eq integers x
typed_itself (typed.Octets x) = generic_itself bytes_eq octets x
typed_itself (typed.Ref x) = generic_itself same_written_ref references x
typed_itself (typed.ContentRef x) = generic_itself bytes_eq octets x

typeds : Tells same_typed
typeds = (typed_same, typed_itself)

parameter_same : (x y : Parameter) → same_parameter x y ≡ true → x ≡ y
parameter_same (parameter.Bool x) (parameter.Bool y) h = ap parameter.Bool (generic_same are_same truths x y h)
parameter_same (parameter.Int x) (parameter.Int y) h = ap parameter.Int (generic_same int_eq integers x y h)
parameter_same (parameter.Octets x) (parameter.Octets y) h = ap parameter.Octets (generic_same bytes_eq octets x y h)
parameter_same (parameter.Ref x) (parameter.Ref y) h = ap parameter.Ref (generic_same same_written_ref references x y h)
parameter_same (parameter.Content x) (parameter.Content y) h = ap parameter.Content (generic_same same_content contents x y h)
parameter_same (parameter.Data x) (parameter.Data y) h = ap parameter.Data (generic_same same_data datas x y h)
parameter_same (parameter.Event x) (parameter.Event y) h = ap parameter.Event (types.0 x y h)
parameter_same (parameter.Receiver x) (parameter.Receiver y) h = ap parameter.Receiver (ref_same x y h)
parameter_same (parameter.Typed x) (parameter.Typed y) h = ap parameter.Typed (typed_same x y h)
parameter_same (parameter.Arguments x) (parameter.Arguments y) h = ap parameter.Arguments (list_same same_typed typeds x y h)
parameter_same _ _ h = absurd cc

parameter_itself : (x : Parameter) → same_parameter x x ≡ true
parameter_itself (parameter.Bool x) = generic_itself are_same truths x
parameter_itself (parameter.Int x) = generic_itself int_eq integers x
parameter_itself (parameter.Octets x) = generic_itself bytes_eq octets x
parameter_itself (parameter.Ref x) = generic_itself same_written_ref references x
parameter_itself (parameter.Content x) = generic_itself same_content contents x
parameter_itself (parameter.Data x) = generic_itself same_data datas x
parameter_itself (parameter.Event x) = types.1 x
parameter_itself (parameter.Receiver x) = ref_itself x
parameter_itself (parameter.Typed x) = typed_itself x
parameter_itself (parameter.Arguments x) = list_itself same_typed typeds x

parameters : Tells same_parameter
parameters = (parameter_same, parameter_itself)

names : Tells (λ (x y : ActionName). action_number x == action_number y)
names = numbered action_number actions action_found

targets : Tells (same_generic same_written_ref)
targets = generics same_written_ref references

action_same : (a b : Action) → same_written_action a b ≡ true → a ≡ b
action_same a b h =
    let two = left (action_number a.name == action_number b.name && same_generic same_written_ref a.target b.target) (same_list same_parameter a.parameters b.parameters) h in
    let name = names.0 a.name b.name (left (action_number a.name == action_number b.name) (same_generic same_written_ref a.target b.target) two) in
    let target = targets.0 a.target b.target (right (action_number a.name == action_number b.name) (same_generic same_written_ref a.target b.target) two) in
    let more = list_same same_parameter parameters a.parameters b.parameters (right (action_number a.name == action_number b.name && same_generic same_written_ref a.target b.target) (same_list same_parameter a.parameters b.parameters) h) in
    λ i. record { name = name i; target = target i; parameters = more i }

action_itself : (a : Action) → same_written_action a a ≡ true
action_itself a = both_true (both_true (names.1 a.name) (targets.1 a.target)) (list_itself same_parameter parameters a.parameters)

acts : Tells same_written_action
acts = (action_same, action_itself)

effects : Tells (same_list same_written_action)
effects = lists same_written_action acts

member_same : (a b : Member) → same_member a b ≡ true → a ≡ b
member_same a b h =
    let object = ref_same a.object b.object (left (same_written_ref a.object b.object) (same_list (same_list same_written_action) a.slots b.slots) h) in
    let slots = list_same (same_list same_written_action) effects a.slots b.slots (right (same_written_ref a.object b.object) (same_list (same_list same_written_action) a.slots b.slots) h) in
    λ i. record { object = object i; slots = slots i }

members : Tells same_member
members = (member_same, λ a. both_true (ref_itself a.object) (list_itself (same_list same_written_action) effects a.slots))

position_same : (a b : Position) → same_position a b ≡ true → a ≡ b
position_same a b h =
    let x = integers.0 a.x b.x (left (int_eq a.x b.x) (int_eq a.y b.y) h) in
    let y = integers.0 a.y b.y (right (int_eq a.x b.x) (int_eq a.y b.y) h) in
    λ i. record { x = x i; y = y i }

positions : Tells same_position
positions = (position_same, λ a. both_true (integers.1 a.x) (integers.1 a.y))

next_same : (a b : NextScene) → same_next a b ≡ true → a ≡ b
next_same a b h =
    let name = octets.0 a.name b.name (left (bytes_eq a.name b.name) (int_eq a.weight b.weight) h) in
    let weight = integers.0 a.weight b.weight (right (bytes_eq a.name b.name) (int_eq a.weight b.weight) h) in
    λ i. record { name = name i; weight = weight i }

nexts : Tells same_next
nexts = (next_same, λ a. both_true (octets.1 a.name) (integers.1 a.weight))

colour_same : (a b : Colour) → same_colour a b ≡ true → a ≡ b
colour_same a b h =
    let three = left (a.red == b.red && a.green == b.green && a.blue == b.blue) (a.transparency == b.transparency) h in
    let two = left (a.red == b.red && a.green == b.green) (a.blue == b.blue) three in
    let red = numbers.0 a.red b.red (left (a.red == b.red) (a.green == b.green) two) in
    let green = numbers.0 a.green b.green (right (a.red == b.red) (a.green == b.green) two) in
    let blue = numbers.0 a.blue b.blue (right (a.red == b.red && a.green == b.green) (a.blue == b.blue) three) in
    let clear = numbers.0 a.transparency b.transparency (right (a.red == b.red && a.green == b.green && a.blue == b.blue) (a.transparency == b.transparency) h) in
    λ i. record { red = red i; green = green i; blue = blue i; transparency = clear i }

colour_itself : (a : Colour) → same_colour a a ≡ true
colour_itself a = both_true (both_true (both_true (numbers.1 a.red) (numbers.1 a.green)) (numbers.1 a.blue)) (numbers.1 a.transparency)

justified : Tells (λ (x y : Justification). justification_number x == justification_number y)
justified = numbered justification_number justifications justification_found

setting_same : (x y : Setting) → same_written_setting x y ≡ true → x ≡ y
setting_same (setting.Bool x) (setting.Bool y) h = ap setting.Bool (truth_same x y h)
setting_same (setting.Int x) (setting.Int y) h = ap setting.Int (integers.0 x y h)
setting_same (setting.Pair a b) (setting.Pair x y) h =
    let first = integers.0 a x (left (int_eq a x) (int_eq b y) h) in
    let second = integers.0 b y (right (int_eq a x) (int_eq b y) h) in
    λ i. setting.Pair (first i) (second i)
setting_same (setting.Octets x) (setting.Octets y) h = ap setting.Octets (octets.0 x y h)
setting_same (setting.Colour x) (setting.Colour y) h = ap setting.Colour (colour_same x y h)
setting_same (setting.Ref x) (setting.Ref y) h = ap setting.Ref (ref_same x y h)
setting_same (setting.Content x) (setting.Content y) h = ap setting.Content (content_same x y h)
setting_same (setting.ContentRef x) (setting.ContentRef y) h = ap setting.ContentRef (octets.0 x y h)
setting_same (setting.Event x) (setting.Event y) h = ap setting.Event (types.0 x y h)
setting_same (setting.Data x) (setting.Data y) h = ap setting.Data (data_same x y h)
setting_same (setting.Justification x) (setting.Justification y) h = ap setting.Justification (justified.0 x y h)
setting_same (setting.Effect x) (setting.Effect y) h = ap setting.Effect (effects.0 x y h)
setting_same (setting.MovementTable x) (setting.MovementTable y) h = ap setting.MovementTable (list_same (same_list int_eq) (lists int_eq integers) x y h)
setting_same (setting.Members x) (setting.Members y) h = ap setting.Members (list_same same_member members x y h)
setting_same (setting.Positions x) (setting.Positions y) h = ap setting.Positions (list_same same_position positions x y h)
setting_same (setting.NextScenes x) (setting.NextScenes y) h = ap setting.NextScenes (list_same same_next nexts x y h)
setting_same _ _ h = absurd cc

setting_itself : (x : Setting) → same_written_setting x x ≡ true
setting_itself (setting.Bool x) = truth_itself x
setting_itself (setting.Int x) = integers.1 x
setting_itself (setting.Pair a b) = both_true (integers.1 a) (integers.1 b)
setting_itself (setting.Octets x) = octets.1 x
setting_itself (setting.Colour x) = colour_itself x
setting_itself (setting.Ref x) = ref_itself x
setting_itself (setting.Content x) = content_itself x
setting_itself (setting.ContentRef x) = octets.1 x
setting_itself (setting.Event x) = types.1 x
setting_itself (setting.Data x) = data_itself x
setting_itself (setting.Justification x) = justified.1 x
setting_itself (setting.Effect x) = effects.1 x
setting_itself (setting.MovementTable x) = list_itself (same_list int_eq) (lists int_eq integers) x
setting_itself (setting.Members x) = list_itself same_member members x
setting_itself (setting.Positions x) = list_itself same_position positions x
setting_itself (setting.NextScenes x) = list_itself same_next nexts x

under : Tells (λ (x y : Attribute). attribute_number x == attribute_number y)
under = numbered attribute_number attributes attribute_found

field_same : (a b : Field) → same_field a b ≡ true → a ≡ b
field_same a b h =
    let name = under.0 a.attribute b.attribute (left (attribute_number a.attribute == attribute_number b.attribute) (same_written_setting a.setting b.setting) h) in
    let held = setting_same a.setting b.setting (right (attribute_number a.attribute == attribute_number b.attribute) (same_written_setting a.setting b.setting) h) in
    λ i. record { attribute = name i; setting = held i }

fields : Tells same_field
fields = (field_same, λ a. both_true (under.1 a.attribute) (setting_itself a.setting))

of_class : Tells (λ (x y : Class). class_number x == class_number y)
of_class = numbered class_number classes class_found

ingredient_same : (a b : Ingredient) → same_ingredient a b ≡ true → a ≡ b
ingredient_same a b h =
    let two = left (class_number a.class == class_number b.class && a.number == b.number) (same_list same_field a.fields b.fields) h in
    let class = of_class.0 a.class b.class (left (class_number a.class == class_number b.class) (a.number == b.number) two) in
    let number = numbers.0 a.number b.number (right (class_number a.class == class_number b.class) (a.number == b.number) two) in
    let more = list_same same_field fields a.fields b.fields (right (class_number a.class == class_number b.class && a.number == b.number) (same_list same_field a.fields b.fields) h) in
    λ i. record { class = class i; number = number i; fields = more i }

ingredients : Tells same_ingredient
ingredients = (ingredient_same, λ a. both_true (both_true (of_class.1 a.class) (numbers.1 a.number)) (list_itself same_field fields a.fields))

items_same : (x y : Option (List Ingredient)) → same_written_items x y ≡ true → x ≡ y
items_same None None h = refl
items_same (Some x) (Some y) h = ap Some (list_same same_ingredient ingredients x y h)
items_same None (Some y) h = absurd cc
items_same (Some x) None h = absurd cc

items_itself : (x : Option (List Ingredient)) → same_written_items x x ≡ true
items_itself None = refl
items_itself (Some x) = list_itself same_ingredient ingredients x

-- two groups that are told to be the same are
pub group_same : (a b : Written) → same_group a b ≡ true → a ≡ b
unfolding same_group
group_same a b h =
    let one = class_number a.class == class_number b.class in
    let two = bytes_eq a.identifier b.identifier in
    let three = same_list same_field a.fields b.fields in
    let four = same_written_items a.items b.items in
    let front = left (one && two && three) four h in
    let fore = left (one && two) three front in
    let class = of_class.0 a.class b.class (left one two fore) in
    let name = octets.0 a.identifier b.identifier (right one two fore) in
    let more = list_same same_field fields a.fields b.fields (right (one && two) three front) in
    let items = items_same a.items b.items (right (one && two && three) four h) in
    λ i. record { class = class i; identifier = name i; fields = more i; items = items i }

-- and each is the same as itself
pub group_itself : (a : Written) → same_group a a ≡ true
unfolding same_group
group_itself a = both_true (both_true (both_true (of_class.1 a.class) (octets.1 a.identifier)) (list_itself same_field fields a.fields)) (items_itself a.items)
