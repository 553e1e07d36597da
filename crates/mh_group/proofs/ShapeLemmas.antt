-- Only the attribute of the items has their shape.
use Rattle.std.proofs.Common.{◌≡◌, Bool, true, false, if◌then◌else◌, refl}
use Rattle.mh_group.specs.declared.class.Class.{Class}
use Rattle.mh_group.specs.declared.class.Class.TheVariants as class
use Rattle.mh_group.specs.declared.attribute.Attribute.{Attribute}
use Rattle.mh_group.specs.declared.attribute.Attribute.TheVariants as attribute
use Rattle.mh_group.specs.declared.shape.Shape.{Shape}
use Rattle.mh_group.specs.declared.shape.Shape.TheVariants as shape
use Rattle.mh_group.specs.declared.written.Setting.{Setting}
use Rattle.mh_group.specs.Table.{value_shape, is_list_group, shape_of, is_items_shape}
use Rattle.mh_group.specs.Fit.{fits}

value_no_items : (c : Class) → is_items_shape (value_shape c) ≡ false
value_no_items class.Application = refl
value_no_items _ = refl

members_no_items : (b : Bool) → is_items_shape (if b then shape.ListItems else shape.Members) ≡ false
members_no_items true = refl
members_no_items false = refl

pub items_shape : (c : Class) (a : Attribute) → is_items_shape (shape_of c a) ≡ true → a ≡ attribute.Items
items_shape c attribute.Items h = refl
items_shape c attribute.OrigValue h = absurd (let none = value_no_items c in cc)
items_shape c attribute.TokenGroupItems h = absurd (let none = members_no_items (is_list_group c) in cc)
items_shape c _ h = absurd cc

-- no field has their shape
pub items_unfit : (s : Shape) (v : Setting) → fits s v ≡ true → is_items_shape s ≡ false
items_unfit shape.Items _ h = absurd cc
items_unfit _ v h = refl
