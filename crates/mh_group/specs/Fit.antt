-- What the tables allow: values in their shapes and ranges, actions with their parameters, objects
-- with the fields of their class, each once and in order.
use Rattle.std.specs.Prelude.{ℕ, Bool, true, false, ◌&&◌, not, ◌==◌, nat_lt, nat_le, List, [], ◌∷◌, length, Option, Some, None, if◌then◌else◌, is_none, ℤ, pos, int_le}
use Rattle.std.specs.Ordering.{int_eq}
use Rattle.std.specs.List.{list_all, list_any, prefix_len}
use Rattle.std.specs.Option.{option_or}
use Rattle.mh_group.specs.declared.class.Class.{Class}
use Rattle.mh_group.specs.declared.attribute.Attribute.{Attribute}
use Rattle.mh_group.specs.declared.attribute.Attribute.TheVariants as attribute
use Rattle.mh_group.specs.declared.shape.Shape.{Shape}
use Rattle.mh_group.specs.declared.shape.Shape.TheVariants as shape
use Rattle.mh_group.specs.declared.shape.Need.{Need}
use Rattle.mh_group.specs.declared.shape.Need.TheVariants as need
use Rattle.mh_group.specs.declared.action.Action.{Action}
use Rattle.mh_group.specs.declared.action.Parameter.{Parameter}
use Rattle.mh_group.specs.declared.action.Parameter.TheVariants as parameter
use Rattle.mh_group.specs.declared.written.Setting.{Setting}
use Rattle.mh_group.specs.declared.written.Setting.TheVariants as setting
use Rattle.mh_group.specs.declared.written.Member.{Member}
use Rattle.mh_group.specs.declared.written.Field.{Field}
use Rattle.mh_group.specs.declared.written.Ingredient.{Ingredient}
use Rattle.mh_group.specs.declared.written.Written.{Written}
use Rattle.mh_group.specs.declared.misfit.MisfitWhy.{MisfitWhy}
use Rattle.mh_group.specs.declared.misfit.MisfitWhy.TheVariants as misfit
use Rattle.mh_group.specs.Table.{attribute_number, is_group_class, takes, shape_of, required_of, needs_of, optional_of}

-- the parameter is of the kind that is needed
abbrev pub fits_parameter : Need → Parameter → Bool
fits_parameter need.Bool (parameter.Bool _) = true
fits_parameter need.Int (parameter.Int _) = true
fits_parameter need.Octets (parameter.Octets _) = true
fits_parameter need.Ref (parameter.Ref _) = true
fits_parameter need.Content (parameter.Content _) = true
fits_parameter need.Data (parameter.Data _) = true
fits_parameter need.Event (parameter.Event _) = true
fits_parameter (need.Receiver _) (parameter.Receiver _) = true
fits_parameter need.Typed (parameter.Typed _) = true
fits_parameter need.Arguments (parameter.Arguments _) = true
fits_parameter _ _ = false

-- each parameter is what is needed at its place; so many of the needed ones may be missing at the end
abbrev pub fits_parameters : ℕ → List Need → List Parameter → Bool
fits_parameters optional ns [] = nat_le (length ns) optional
fits_parameters optional [] (p ∷ ps) = false
fits_parameters optional (n ∷ ns) (p ∷ ps) = fits_parameter n p && fits_parameters optional ns ps

-- the action is written with the parameters that it needs
abbrev pub fits_action : Action → Bool
fits_action a = fits_parameters (optional_of a.name) (needs_of a.name) a.parameters

abbrev pub fits_effect : List Action → Bool
fits_effect e = list_all fits_action e

-- the slots of a member are right
abbrev pub fits_member : Member → Bool
fits_member m = list_all fits_effect m.slots

-- a list group's members have no slots
abbrev pub is_list_item : Member → Bool
is_list_item m = length m.slots == 0

abbrev pub is_natural : ℤ → Bool
is_natural x = int_le (pos 0) x

-- the length of an entry field
abbrev pub is_field_length : ℤ → Bool
is_field_length x = int_le (pos 1) x && int_le x (pos 255)

-- the value has the shape and lies in its range
abbrev pub fits : Shape → Setting → Bool
fits shape.Effect (setting.Effect e) = fits_effect e
fits shape.Bool (setting.Bool _) = true
fits shape.Int (setting.Int _) = true
fits shape.Natural (setting.Int x) = is_natural x
fits shape.Length (setting.Int x) = is_field_length x
fits shape.Pair (setting.Pair _ _) = true
fits shape.Size (setting.Pair w h) = is_natural w && is_natural h
fits shape.Screen (setting.Pair w h) = int_eq w (pos 720) && int_eq h (pos 576)
fits shape.Ref (setting.Ref _) = true
fits shape.Event (setting.Event _) = true
fits shape.Data (setting.Data _) = true
fits shape.Octets (setting.Octets _) = true
fits shape.Colour (setting.Colour _) = true
fits shape.Content (setting.Content _) = true
fits shape.ContentRef (setting.ContentRef _) = true
fits shape.Justification (setting.Justification _) = true
fits shape.MovementTable (setting.MovementTable _) = true
fits shape.Members (setting.Members ms) = list_all fits_member ms
fits shape.ListItems (setting.Members ms) = nat_le (length ms) 256 && list_all is_list_item ms
fits shape.Positions (setting.Positions _) = true
fits shape.NextScenes (setting.NextScenes _) = true
fits _ _ = false

-- the numbers of the attributes go up from above n
abbrev pub rises_above : ℕ → List Field → Bool
rises_above n [] = true
rises_above n (f ∷ fs) = nat_lt n (attribute_number f.attribute) && rises_above (attribute_number f.attribute) fs

-- each attribute stands once, in the order of the numbers
abbrev pub is_rising : List Field → Bool
is_rising fs = rises_above 0 fs

-- one of the fields has the attribute
abbrev pub has_attribute : List Field → Attribute → Bool
has_attribute fs a = list_any (λ f. attribute_number f.attribute == attribute_number a) fs

-- what the class has to be written with is there
abbrev pub has_required : Class → List Field → Bool
has_required c fs = list_all (λ a. has_attribute fs a) (required_of c)

-- the class takes each of the attributes
abbrev pub takes_each : Class → List Field → Bool
takes_each c fs = list_all (λ f. takes c f.attribute) fs

-- each value is right for the class
abbrev pub fits_each : Class → List Field → Bool
fits_each c fs = list_all (λ f. fits (shape_of c f.attribute) f.setting) fs

-- why these are no fields of an object of the class, if they are not
abbrev pub fields_misfit : Class → List Field → Option MisfitWhy
fields_misfit c fs =
    if not (is_rising fs) then Some misfit.Order
    else (if not (has_required c fs) then Some misfit.Missing
    else (if not (takes_each c fs) then Some misfit.NotTaken
    else (if not (fits_each c fs) then Some misfit.Value else None)))

abbrev pub ingredient_misfit : Ingredient → Option MisfitWhy
ingredient_misfit i =
    if is_group_class i.class then Some misfit.NotAnIngredient
    else (if i.number == 0 then Some misfit.Unnumbered else fields_misfit i.class i.fields)

-- that of the first of these that has one
abbrev pub ingredients_misfit : List Ingredient → Option MisfitWhy
ingredients_misfit [] = None
ingredients_misfit (i ∷ is) = option_or (ingredient_misfit i) (ingredients_misfit is)

-- the ingredients of a group; none where it writes no items
abbrev pub written_items : Option (List Ingredient) → List Ingredient
written_items (Some items) = items
written_items None = []

abbrev pub items_of : Written → List Ingredient
items_of w = written_items w.items

-- how many fields at the front have smaller numbers than the items, which are written behind them
abbrev pub before_items : List Field → ℕ
before_items fields = prefix_len (λ f. nat_lt (attribute_number f.attribute) (attribute_number attribute.Items)) fields

-- why this is no group, if it is none
unfoldable pub misfit_of : Written → Option MisfitWhy
misfit_of w = if not (is_group_class w.class) then Some misfit.NotAGroup else option_or (fields_misfit w.class w.fields) (ingredients_misfit (items_of w))

-- the tables allow the group
abbrev pub is_group : Written → Bool
is_group w = is_none (misfit_of w)
