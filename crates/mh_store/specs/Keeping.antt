-- When the box of an object stays as it is.
use Rattle.std.specs.Prelude.{Bool, true, false, not}
use Rattle.mh_group.specs.declared.attribute.Attribute.{Attribute}
use Rattle.mh_group.specs.declared.attribute.Attribute.TheVariants as attribute
use Rattle.mh_model.specs.declared.edit.Edit.{Edit}
use Rattle.mh_model.specs.declared.edit.Edit.TheVariants as edit

-- the box is read under the attribute
abbrev pub is_of_box : Attribute → Bool
is_of_box attribute.OrigBoxSize = true
is_of_box attribute.OrigPosition = true
is_of_box _ = false

-- the edit can be seen to leave the box as it is
abbrev pub leaves_box : Edit → Bool
leaves_box (edit.Put a h) = not (is_of_box a)
leaves_box _ = true
