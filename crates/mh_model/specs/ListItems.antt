-- The items of a list group before anything is changed: its members, each once.
use Rattle.std.specs.Prelude.{Bool, false, if◌then◌else◌, List, [], ◌∷◌, ◌++◌}
use Rattle.std.specs.List.{list_any}
use Rattle.mh_base.specs.declared.obj_ref.ObjRef.{ObjRef}
use Rattle.mh_group.specs.declared.attribute.Attribute.TheVariants as attribute
use Rattle.mh_group.specs.Table.{is_list_group}
use Rattle.mh_model.specs.declared.object.listing.Entry.{Entry}
use Rattle.mh_model.specs.declared.object.member.Member.{Member}
use Rattle.mh_model.specs.declared.object.Fixed.{Fixed}
use Rattle.mh_model.specs.Listed.{Listed}
use Rattle.mh_model.specs.Property.{held, as_members}
use Rattle.mh_model.specs.Reference.{same_ref}

abbrev pub has_item : ObjRef → List Entry → Bool
has_item r es = list_any (λ e. same_ref r e.object) es

-- an item at the end, unless it is among them; it is not selected
abbrev pub with_item : ObjRef → List Entry → List Entry
with_item r es = if has_item r es then es else es ++ record { object = r; selected = false } ∷ []

abbrev pub entries_once : List Entry → List Member → List Entry
entries_once es [] = es
entries_once es (m ∷ ms) = entries_once (with_item m.object es) ms

-- the list with its first item first
abbrev pub listed_once : List Member → Listed
listed_once ms = record { entries = entries_once [] ms; first = 1 }

abbrev pub no_list : Listed
no_list = record { entries = []; first = 1 }

abbrev pub listed_at_first : Fixed → Listed
listed_at_first p =
    if is_list_group p.class then listed_once (as_members (held attribute.TokenGroupItems p.properties)) else no_list
