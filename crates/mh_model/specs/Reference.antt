-- References: a group and a number in it; number 0 is the group itself.
use Rattle.std.specs.Prelude.{ℕ, Bool, ◌==◌, ◌&&◌, List}
use Rattle.std.specs.Str.{bytes_eq}
use Rattle.mh_base.specs.declared.obj_ref.ObjRef.{ObjRef}

abbrev pub same_ref : ObjRef → ObjRef → Bool
same_ref a b = bytes_eq a.group b.group && a.number == b.number

-- the same, as keys of a map are compared: the numbers first
abbrev pub same_key : ObjRef → ObjRef → Bool
same_key a b = a.number == b.number && bytes_eq a.group b.group

-- the group itself
abbrev pub group_ref : List ℕ → ObjRef
group_ref g = record { group = g; number = 0 }
