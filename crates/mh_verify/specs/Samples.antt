-- Samples: of the objects to which a variable may refer, one of each class.
use Rattle.std.specs.Prelude.{◌≡◌, if◌then◌else◌, List, [], ◌∷◌, ◌++◌, Option, Some}
use Rattle.std.specs.List.{list_any}
use Rattle.std.specs.Map.{lookup}
use Rattle.mh_base.specs.declared.obj_ref.ObjRef.{ObjRef}
use Rattle.mh_group.specs.declared.class.Class.{Class}
use Rattle.mh_model.specs.declared.object.Fixed.{Fixed}
use Rattle.mh_model.specs.Known.{class_at, each_class, same_class}
use Rattle.mh_model.specs.Reference.{same_ref}
use Rattle.mh_model.specs.Service.{Service}
use Rattle.mh_flow.specs.Solved.{held_by}
use Rattle.mh_laws.specs.Flow.{Sets}

-- the class of an object that is present
abbrev pub class_in : List Fixed → ObjRef → Option Class
class_in ps r = class_at r ps

abbrev pub sample : List Fixed → List ObjRef → List ObjRef
sample ps rs = each_class (class_in ps) rs

-- a sample goes on with the object, unless one of its class is in it

abbrev pub with_first : List ObjRef → List (Option Class) → Option Class → ObjRef → List ObjRef
with_first rs cs c r = if list_any (same_class c) cs then rs else rs ++ r ∷ []

abbrev pub with_class : List (Option Class) → Option Class → List (Option Class)
with_class cs c = if list_any (same_class c) cs then cs else cs ++ c ∷ []

-- what is kept under a variable is a sample of what it may refer to where these are present
abbrev pub AreSamples : List Fixed → Sets → List (ObjRef × List ObjRef) → Type 0
AreSamples ps h es = (v : ObjRef) (rs : List ObjRef) → lookup (same_ref v) es ≡ Some rs → rs ≡ sample ps (h v)

-- what is known where these are present and hold this, with samples of it
pub record Sampled : Type 0 where
  pub service : Service
  pub present : List Fixed
  pub held : List (List ObjRef)
  pub samples : List (ObjRef × List ObjRef)

abbrev pub IsSampled : Sampled → Type 0
IsSampled k = AreSamples k.present (held_by k.present k.held) k.samples
