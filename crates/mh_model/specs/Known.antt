-- What is known where an action is judged: in a state all of it, beforehand less.
use Rattle.std.specs.Prelude.{ℕ, Bool, true, false, ◌==◌, if◌then◌else◌, List, [], ◌∷◌, ◌++◌, Option, Some, None, option_and_then, ℤ}
use Rattle.std.specs.List.{list_any}
use Rattle.std.specs.Option.{option_map, option_to_list}
use Rattle.mh_base.specs.declared.obj_ref.ObjRef.{ObjRef}
use Rattle.mh_base.specs.declared.value.Value.{Value}
use Rattle.mh_base.specs.declared.value.Value.TheVariants as value
use Rattle.mh_group.specs.declared.class.Class.{Class}
use Rattle.mh_model.specs.declared.object.Fixed.{Fixed}
use Rattle.mh_model.specs.declared.object.Object.{Object}
use Rattle.mh_model.specs.Arguments.{held_by}
use Rattle.mh_group.specs.declared.attribute.Attribute.TheVariants as attribute
use Rattle.mh_group.specs.Table.{class_number, is_resident_program}
use Rattle.mh_model.specs.declared.program.Param.{Param}
use Rattle.mh_model.specs.declared.program.Signature.{Signature}
use Rattle.mh_model.specs.Programs.{params_for}
use Rattle.mh_model.specs.Property.{held, as_value, as_octets, as_reference}
use Rattle.mh_model.specs.Service.{Service, part_at, object_at, parts, group_parts}

pub record Known : Type 0 where
  -- the class of an object that is present
  pub class_of : ObjRef → Option Class
  -- the class of a group of the service, present or not
  pub group_class : ObjRef → Option Class
  -- the objects to which a variable may refer: in a state the one or none
  pub refers : ObjRef → List ObjRef
  -- the number that a variable holds
  pub number : ObjRef → Option ℤ
  -- the parameters of a program
  pub takes : ObjRef → Option (List Param)

-- the name of a program
abbrev pub program_name : Fixed → Option (List ℕ)
program_name p =
    if is_resident_program p.class then Some (as_octets (as_value (held attribute.Name p.properties))) else None

-- the parameters of a program, where these stand beside the built-in ones
abbrev pub params_in : List Signature → Option Fixed → Option (List Param)
params_in ss None = None
params_in ss (Some p) = option_and_then (params_for ss) (program_name p)

abbrev pub class_at : ObjRef → List Fixed → Option Class
class_at r ps = option_map (λ p. p.class) (part_at r ps)

-- what the files say, where these parts are present: of what a variable holds, nothing
abbrev pub known_before : Service → List Fixed → Known
known_before s ps = record {
  class_of = λ r. class_at r ps;
  group_class = λ r. class_at r (group_parts s r.group);
  refers = λ v. [];
  number = λ v. None;
  takes = λ r. params_in s.programs (part_at r ps);
}

abbrev pub as_integer : Option Value → Option ℤ
as_integer (Some (value.Int n)) = Some n
as_integer _ = None

-- what is known where these objects are present
abbrev pub known_in : Service → List Object → Known
known_in s os = record {
  class_of = λ r. class_at r (parts os);
  group_class = λ r. class_at r (group_parts s r.group);
  refers = λ v. option_to_list (as_reference (held_by (object_at v os)));
  number = λ v. as_integer (held_by (object_at v os));
  takes = λ r. params_in s.programs (part_at r (parts os));
}

-- Of many objects one of each class: what is wrong with an object at a place is told by its class.

-- the same class, or none, as of what is not present
abbrev pub same_class : Option Class → Option Class → Bool
same_class None None = true
same_class (Some c) (Some d) = class_number c == class_number d
same_class _ _ = false

-- behind objects of these classes, the first of each other class
abbrev pub each_class_behind : (ObjRef → Option Class) → List (Option Class) → List ObjRef → List ObjRef
each_class_behind class_of cs [] = []
each_class_behind class_of cs (r ∷ rs) =
    if list_any (same_class (class_of r)) cs then each_class_behind class_of cs rs
    else r ∷ each_class_behind class_of (cs ++ class_of r ∷ []) rs

-- the first object of each class, and the first that is not present, in their order
abbrev pub each_class : (ObjRef → Option Class) → List ObjRef → List ObjRef
each_class class_of rs = each_class_behind class_of [] rs
