-- Two groups of objects into which no reference leads at once.
use Rattle.std.specs.Prelude.{◌≡◌, ℕ, Bool, true, false, List, None}
use Rattle.std.specs.List.{list_any}
use Rattle.std.specs.Str.{bytes_eq}
use Rattle.mh_base.specs.declared.obj_ref.ObjRef.{ObjRef}
use Rattle.mh_model.specs.declared.object.Object.{Object}
use Rattle.mh_model.specs.Rules.{is_at}
use Rattle.mh_model.specs.Service.{object_at}

-- where it is said that they are apart, what leads to an object of the second leads to none of the first
abbrev pub AreApart : Bool → List Object → List Object → Type 0
AreApart false os ps = Unit {0}
AreApart true os ps = (r : ObjRef) → list_any (is_at r) ps ≡ true → list_any (is_at r) os ≡ false

-- where it is said so, no reference to the group leads to one of these
abbrev pub AreOfOthers : Bool → List ℕ → List Object → Type 0
AreOfOthers false g os = Unit {0}
AreOfOthers true g os = (r : ObjRef) → bytes_eq r.group g ≡ true → object_at r os ≡ None
