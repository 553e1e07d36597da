-- The limits of a service: 256 groups, 1,024 ingredients a group, 4,096 ingredients and 65,535 written
-- actions in all.
use Rattle.std.specs.Prelude.{ℕ, ◌+◌, ◌-◌, Bool, ◌&&◌, nat_le, if◌then◌else◌, List, length, Option, Some, None}
use Rattle.std.specs.List.{sum_by}
use Rattle.mh_group.specs.declared.written.Member.{Member}
use Rattle.mh_group.specs.declared.written.Setting.{Setting}
use Rattle.mh_group.specs.declared.written.Setting.TheVariants as setting
use Rattle.mh_group.specs.declared.written.Field.{Field}
use Rattle.mh_group.specs.declared.written.Ingredient.{Ingredient}
use Rattle.mh_group.specs.declared.written.Written.{Written}
use Rattle.mh_group.specs.Fit.{items_of}
use Rattle.mh_service.specs.declared.room.Room.{Room}

-- the actions of a member's slots
abbrev pub member_actions : Member → ℕ
member_actions m = sum_by (λ slot. length slot) m.slots

-- the actions that are written as the value of one attribute
abbrev pub setting_actions : Setting → ℕ
setting_actions (setting.Effect acts) = length acts
setting_actions (setting.Members members) = sum_by member_actions members
setting_actions _ = 0

abbrev pub field_actions : Field → ℕ
field_actions f = setting_actions f.setting

abbrev pub object_actions : List Field → ℕ
object_actions fs = sum_by field_actions fs

abbrev pub ingredient_actions : Ingredient → ℕ
ingredient_actions i = object_actions i.fields

-- all actions that a group writes
abbrev pub group_actions : Written → ℕ
group_actions w = object_actions w.fields + sum_by ingredient_actions (items_of w)

-- what an empty service has room for
abbrev pub whole_room : Room
whole_room = record { groups = 256; ingredients = 4096; actions = 65535 }

-- there is room for this group
abbrev pub has_room : Room → Written → Bool
has_room r w = nat_le 1 r.groups && nat_le (length (items_of w)) 1024 && nat_le (length (items_of w)) r.ingredients && nat_le (group_actions w) r.actions

-- what is left when this group has taken its part
abbrev pub room_behind : Room → Written → Room
room_behind r w = record { groups = r.groups - 1; ingredients = r.ingredients - length (items_of w); actions = r.actions - group_actions w }

abbrev pub room_after : Room → Written → Option Room
room_after r w = if has_room r w then Some (room_behind r w) else None
