-- Objects of a class for which an action has no rule (V2, V5).
use Rattle.std.specs.Prelude.{ℕ, List, [], ◌++◌, codes, Option, Some, None}
use Rattle.mh_base.specs.declared.obj_ref.ObjRef.{ObjRef}
use Rattle.mh_group.specs.declared.action_name.ActionName.{ActionName}
use Rattle.mh_group.specs.declared.class.Class.{Class}
use Rattle.mh_group.specs.Words.{action_word}
use Rattle.mh_model.specs.Service.{Service}
use Rattle.mh_cause.specs.declared.passing.Wanted.TheVariants as wanted
use Rattle.mh_cause.specs.declared.phrases.TheConstants as told
use Rattle.mh_cause.specs.declared.role.Role.{Role}
use Rattle.mh_cause.specs.declared.role.Role.TheVariants as role
use Rattle.mh_cause.specs.Candidates.{candidates_told}
use Rattle.mh_cause.specs.Lists.{actions_told, classes_told, with_article}
use Rattle.mh_cause.specs.Naming.{class_at, named, numbered_words, parameter_words}
use Rattle.mh_cause.specs.Refusing.{Refused}
use Rattle.mh_cause.specs.Roles.{role_at}

abbrev pub held_clause : Option ObjRef → List ℕ
held_clause None = []
held_clause (Some holder) = told.WHICH_MAY.now ++ named holder ++ codes ","

-- the object, and its class
unfoldable pub class_clause : Refused → Class → List ℕ
class_clause r c = codes ", and " ++ named r.at ++ held_clause r.holder ++ codes " is " ++ with_article c

abbrev pub member_or_item : Option ObjRef → List ℕ
member_or_item None = codes "a member of "
member_or_item (Some holder) = codes "an item of "

unfoldable pub members_rule : Refused → List ℕ
members_rule r =
    member_or_item r.holder ++ numbered_words r.group r.object ++ codes " has to be " ++ classes_told wanted.Visible

unfoldable pub target_rule : ActionName → List ℕ
target_rule a = action_word a ++ told.IS_DONE_TO.now ++ classes_told (wanted.Admitting a) ++ codes " only"

unfoldable pub parameter_rule : ActionName → ℕ → List ℕ
parameter_rule a n = parameter_words a n ++ codes " has to be " ++ classes_told wanted.Visible

-- the variable, if the object is not written there
abbrev pub written_at : Refused → Option ObjRef → ObjRef
written_at r None = r.at
written_at r (Some holder) = holder

-- where the action names the object, or the variable
abbrev pub role_in : Service → Refused → Role
role_in s r = role_at s r (written_at r r.holder)

abbrev pub action_rule : ActionName → Role → List ℕ
action_rule a (role.Parameter n) = parameter_rule a n
action_rule a r = target_rule a

abbrev pub rule : Service → Refused → Option ActionName → List ℕ
rule s r None = members_rule r
rule s r (Some a) = action_rule a (role_in s r)

unfoldable pub unfit_class : Service → Refused → Class → List ℕ
unfit_class s r c = rule s r r.action ++ class_clause r c

abbrev pub unfit_for : Service → Refused → Option Class → List ℕ
unfit_for s r None = []
unfit_for s r (Some c) = unfit_class s r c

abbrev pub unfit_cause : Service → Refused → List ℕ
unfit_cause s r = unfit_for s r (class_at s r.at)

-- the mend

abbrev pub other_actions : Class → List ℕ
other_actions c = with_article c ++ codes ": " ++ actions_told c

-- one that fits
unfoldable pub other_mend : Service → Refused → List ℕ
other_mend s r = told.NAME_ANOTHER.now ++ candidates_told s r

unfoldable pub name_mend : Service → Refused → Class → List ℕ
name_mend s r c = other_mend s r ++ told.OR_DONE_TO.now ++ other_actions c

unfoldable pub set_mend : ObjRef → Class → List ℕ
set_mend holder c = codes "set " ++ named holder ++ told.SET_ONLY.now ++ other_actions c

unfoldable pub fill_mend : ObjRef → List ℕ
fill_mend holder = codes "let " ++ named holder ++ codes " hold these only"

-- an object as a parameter, or as a member
abbrev pub plain_mend : Service → Refused → Option ObjRef → List ℕ
plain_mend s r None = other_mend s r
plain_mend s r (Some holder) = fill_mend holder

abbrev pub target_mend : Service → Refused → Class → Option ObjRef → List ℕ
target_mend s r c None = name_mend s r c
target_mend s r c (Some holder) = set_mend holder c

abbrev pub role_mend : Service → Refused → Class → Role → List ℕ
role_mend s r c (role.Parameter n) = plain_mend s r r.holder
role_mend s r c place = target_mend s r c r.holder

abbrev pub mend_by : Service → Refused → Class → Option ActionName → List ℕ
mend_by s r c None = plain_mend s r r.holder
mend_by s r c (Some a) = role_mend s r c (role_in s r)

abbrev pub unfit_mend_for : Service → Refused → Option Class → List ℕ
unfit_mend_for s r None = []
unfit_mend_for s r (Some c) = mend_by s r c r.action

abbrev pub unfit_mend : Service → Refused → List ℕ
unfit_mend s r = unfit_mend_for s r (class_at s r.at)
