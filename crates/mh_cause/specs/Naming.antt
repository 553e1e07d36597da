-- Words for objects.
use Rattle.std.specs.Prelude.{ℕ, ◌==◌, if◌then◌else◌, List, ◌++◌, codes, Option, Some, None}
use Rattle.std.specs.Fmt.{decimal}
use Rattle.std.specs.Option.{option_map}
use Rattle.mh_base.specs.declared.obj_ref.ObjRef.{ObjRef}
use Rattle.mh_group.specs.declared.action_name.ActionName.{ActionName}
use Rattle.mh_group.specs.declared.class.Class.{Class}
use Rattle.mh_group.specs.Words.{action_word}
use Rattle.mh_model.specs.declared.object.Fixed.{Fixed}
use Rattle.mh_model.specs.Service.{Service, group_parts}
use Rattle.mh_cause.specs.Acts.{numbered}

-- the object with this number; the group itself has number 0
unfoldable pub numbered_words : List ℕ → ℕ → List ℕ
numbered_words group n = if n == 0 then codes "the group " ++ group else codes "object " ++ decimal n ++ codes " of " ++ group

abbrev pub named : ObjRef → List ℕ
named at = numbered_words at.group at.number

-- the variable or the list that may hold a reference, if there is one
abbrev pub holder_words : Option ObjRef → List ℕ
holder_words None = codes "a variable"
holder_words (Some at) = named at

-- a parameter of an action, by its number
unfoldable pub parameter_words : ActionName → ℕ → List ℕ
parameter_words a n = codes "parameter " ++ decimal n ++ codes " of " ++ action_word a

abbrev pub class_in : Option Fixed → Option Class
class_in o = option_map (λ (p : Fixed). p.class) o

-- the class of an object as its file says it
unfoldable pub class_at : Service → ObjRef → Option Class
class_at s at = class_in (numbered at.number (group_parts s at.group))
