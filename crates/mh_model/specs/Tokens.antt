-- Groups of objects: their members, and the token that one of their positions has.
use Rattle.std.specs.Prelude.{ℕ, zero, suc, ◌==◌, Bool, ◌&&◌, not, nat_le, if◌then◌else◌, List, [], ◌∷◌, length, slice_get, Option, Some, None, unwrap_or, option_and_then, ℤ, pos, negsuc}
use Rattle.std.specs.List.{flat_map}
use Rattle.mh_base.specs.declared.obj_ref.ObjRef.{ObjRef}
use Rattle.mh_base.specs.declared.value.Value.{Value}
use Rattle.mh_base.specs.declared.value.Value.TheVariants as value
use Rattle.mh_base.specs.declared.event.EventType.TheVariants as event
use Rattle.mh_group.specs.declared.action_name.ActionName.{ActionName}
use Rattle.mh_group.specs.declared.action_name.ActionName.TheVariants as action
use Rattle.mh_group.specs.declared.attribute.Attribute.TheVariants as attribute
use Rattle.mh_group.specs.declared.written.Position.{Position}
use Rattle.mh_group.specs.Table.{is_list_group}
use Rattle.mh_model.specs.declared.act.Act.{Act}
use Rattle.mh_model.specs.declared.item.Item.{Item}
use Rattle.mh_model.specs.declared.object.member.Member.{Member}
use Rattle.mh_model.specs.declared.object.Body.{Body}
use Rattle.mh_model.specs.declared.object.Fixed.{Fixed}
use Rattle.mh_model.specs.Items.{acts}
use Rattle.mh_model.specs.Programs.{counted}
use Rattle.mh_model.specs.Property.{held, as_members, as_rows, as_positions}
use Rattle.mh_model.specs.Widget.{Worked, no_work, event_with}

-- What is written of a group of objects

abbrev pub members : Fixed → List Member
members p = as_members (held attribute.TokenGroupItems p.properties)

abbrev pub positions : Fixed → List Position
positions p = as_positions (held attribute.Positions p.properties)

-- the member with this number, from 1 on
abbrev pub numbered : {A : Type 0} → List A → ℕ → Option A
numbered xs zero = None
numbered xs (suc n) = slice_get xs n

-- The token. Position 0 aside it can go to as many as there are members, or in a list group cells.

abbrev pub token_places : Fixed → ℕ
token_places p = if is_list_group p.class then length (positions p) else length (members p)

-- where it goes by a row of the movement table
abbrev pub by_row : Fixed → ℕ → ℕ → Option ℤ
by_row p row token =
    option_and_then (λ (xs : List ℤ). numbered xs token)
    (numbered (as_rows (held attribute.MovementTable p.properties)) row)

-- where it is to go
abbrev pub token_wanted : ActionName → List Value → Fixed → Body → Option ℤ
token_wanted action.Move (value.Int (pos n) ∷ []) p b = by_row p n b.token
token_wanted action.MoveTo (value.Int n ∷ []) p b = Some n
token_wanted _ vs p b = None

-- another position that there is
abbrev pub can_turn : Fixed → Body → ℕ → Bool
can_turn p b n = nat_le n (token_places p) && not (n == b.token)

abbrev pub turned : ObjRef → Fixed → Body → Option ℤ → Worked
turned r p b None = no_work b
turned r p b (Some (negsuc n)) = no_work b
turned r p b (Some (pos n)) =
    if can_turn p b n
    then record {
      body = record b { token = n };
      placed = [];
      items =
          event_with r event.TokenMovedFrom (value.Int (counted b.token))
          ∷ event_with r event.TokenMovedTo (value.Int (counted n)) ∷ [];
    }
    else no_work b

abbrev pub token_worked : ActionName → List Value → ObjRef → Fixed → Body → Worked
token_worked n vs r p b = turned r p b (token_wanted n vs p b)

-- Slots

-- the actions of all slots of a member, and of all members
abbrev pub member_actions : Member → List Act
member_actions m = flat_map (λ (slot : List Act). slot) m.slots

abbrev pub slot_actions : Fixed → List Act
slot_actions p = flat_map member_actions (members p)

-- what the slot with this number does, of the member that has the token
abbrev pub slot_of : ℕ → Fixed → Body → List Act
slot_of n p b =
    unwrap_or (option_and_then (λ (m : Member). numbered m.slots n) (numbered (members p) b.token)) []

abbrev pub slot_items : List Value → Fixed → Body → List Item
slot_items (value.Int (pos n) ∷ []) p b = acts (slot_of n p b)
slot_items vs p b = []
